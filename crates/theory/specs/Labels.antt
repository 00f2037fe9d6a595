-- Time and jump steps by their labels: label 0 is time, label e + 1 the jump along the edge e. So the evidence names the steps of a
-- closed walk.
use Rattle.std.specs.Prelude.{◌≡◌, Bool, true, ◌&&◌, List, [], ◌∷◌, ◌++◌, map, ℕ, zero, suc, ◌≤◌, ◌<◌, length, eqb, ltb, leb}
use Rattle.theory.specs.Below.{least}
use Rattle.theory.specs.System.{System, Laws}
use Rattle.theory.specs.ClosedWalk.{closed_walk}

-- ---- what is meant

-- `labels` is one more than the number of edges. `next x p` is where the label x leads from p; it is not below `size` where it leads nowhere.
pub record LabelledSystem : Type 0 where
  pub system : System
  pub labels : ℕ
  pub next : ℕ → ℕ → ℕ

-- time and jump steps are just those that a label gives
pub record LabelledLaws (P : LabelledSystem) : Type 0 where
  pub laws : Laws P.system
  pub flow_next : (p q : ℕ) → P.system.flow p q ≡ true → (x : ℕ) × (x < P.labels) × (P.next x p ≡ q)
  pub next_flow : (x p : ℕ) → x < P.labels → p < P.system.size → P.next x p < P.system.size → P.system.flow p (P.next x p) ≡ true

-- the label x leads from p to q
abbrev pub Leads : LabelledSystem → ℕ → ℕ → ℕ → Type 0
Leads P x p q = (x < P.labels) × (P.next x p ≡ q) × (q < P.system.size)

-- labels that lead from one state to another, step by step
pub data LabelWalk (P : LabelledSystem) : ℕ → ℕ → List ℕ → Type 0 where
  empty : {p : ℕ} → LabelWalk P p p []
  label : {p q s x : ℕ} {xs : List ℕ} → Leads P x p q → LabelWalk P q s xs → LabelWalk P p s (x ∷ xs)

-- 01: "a count of at least 1, then a closed walk from that region made of kinds 0 and 1"
abbrev pub ClosedLabelWalk : LabelledSystem → List ℕ → ℕ → Type 0
ClosedLabelWalk P xs q = (1 ≤ length xs) × LabelWalk P q q xs

-- 01: "0 time; 1 jump, edge number". Time has no edge; where the kinds are the same, 0 in its place decides nothing.
unfoldable pub label_kind : ℕ → ℕ
label_kind zero = 0
label_kind (suc e) = 1

unfoldable pub label_edge : ℕ → ℕ
label_edge zero = 0
label_edge (suc e) = e

-- ---- what computes it

-- the label x leads from p to some state
unfoldable pub opens : LabelledSystem → ℕ → ℕ → Bool
opens P x p = ltb x P.labels && ltb (P.next x p) P.system.size

-- `Leads`
unfoldable pub leads : LabelledSystem → ℕ → ℕ → ℕ → Bool
leads P x p q = opens P x p && eqb (P.next x p) q

-- `LabelWalk`: that the labels lead somewhere, where they lead, and the states that they come to
unfoldable pub walks : LabelledSystem → List ℕ → ℕ → Bool
walks P [] p = true
walks P (x ∷ xs) p = opens P x p && walks P xs (P.next x p)

unfoldable pub walk_end : LabelledSystem → List ℕ → ℕ → ℕ
walk_end P [] p = p
walk_end P (x ∷ xs) p = walk_end P xs (P.next x p)

unfoldable pub walk_states : LabelledSystem → List ℕ → ℕ → List ℕ
walk_states P [] p = []
walk_states P (x ∷ xs) p = P.next x p ∷ walk_states P xs (P.next x p)

-- `ClosedLabelWalk`
unfoldable pub closes : LabelledSystem → List ℕ → ℕ → Bool
closes P xs q = leb 1 (length xs) && (walks P xs q && eqb (walk_end P xs q) q)

-- ---- 01: "Its walks are chosen alike": fewest steps, then the least states, then kinds, then edges

-- what is compared: count, states, kinds, edges
unfoldable pub walk_key : LabelledSystem → List ℕ → ℕ → List ℕ
walk_key P xs q = length xs ∷ (walk_states P xs q ++ (map label_kind xs ++ map label_edge xs))

-- the least label from p to q, so the least kind, then the least edge; or `labels` if none leads there
unfoldable pub least_label : LabelledSystem → ℕ → ℕ → ℕ
least_label P p q = least P.labels (λ x. leads P x p q)

-- the same from p through given states
unfoldable pub labels_along : LabelledSystem → ℕ → List ℕ → List ℕ
labels_along P p [] = []
labels_along P p (q ∷ l) = least_label P p q ∷ labels_along P q l

-- the labels of our closed walk of q
unfoldable pub closed_walk_labels : LabelledSystem → ℕ → List ℕ
closed_walk_labels P q = labels_along P q (closed_walk P.system q)
