-- Laws of labels: walks of labels are walks of time and jump steps; the labels of our closed walk are a closed walk through its states, and
-- at each step the least in kind and edge.
use mathlib.Core.Path.{◌≡◌, refl, ap, ◌∙◌}
use mathlib.Core.Bool.{true}
use mathlib.Core.Logic.{◌↔◌}
use mathlib.Core.List.{List, [], ◌∷◌}
use Prim.Native.Nat.{ℕ, zero, suc, ◌≤◌, ◌<◌}
use native.Mathlib.Omega.{arith}
use lib.ListN.{length}
use Rattle.theory.specs.Walk.{Walk, stop, move}
use Rattle.theory.specs.System.{OnClosedWalkIn}
use Rattle.theory.specs.ClosedWalk.{closed_walk_steps, closed_walk}
use Rattle.theory.specs.Labels.{LabelledSystem, LabelledLaws, Leads, LabelWalk, empty, label, ClosedLabelWalk, label_kind, label_edge, opens, leads, walks, walk_end, walk_states, closes, least_label, labels_along, closed_walk_labels}
use Rattle.theory.proofs.Below.{least_min, least_at, test↔, eqb↔, ltb↔, leb↔, and↔}
use Rattle.theory.proofs.Lex.{Before, less, level, Pairs, nil, pair}
use Rattle.theory.proofs.System.{flow_inside}
use Rattle.theory.proofs.ClosedWalk.{closed_walk_some, closed_walk-length, closed_walk_walk}

-- the lesser label has the lesser kind, or the same kind and the lesser edge
pub label_before : (a b : ℕ) → a ≤ b → Before label_kind label_edge a b
unfolding label_kind label_edge
label_before zero zero h = level refl (omega arith)
label_before zero (suc b) h = less (omega arith)
label_before (suc a) zero h = absurd (omega arith)
label_before (suc a) (suc b) h = level refl (omega arith)

module _ (P : LabelledSystem) where
  -- ---- the tests

  pub opens↔ : (x p : ℕ) → (opens P x p ≡ true) ↔ ((x < P.labels) × (P.next x p < P.system.size))
  unfolding opens
  opens↔ x p = and↔ (ltb↔ x P.labels) (ltb↔ (P.next x p) P.system.size)

  pub leads_law : (x p q : ℕ) → (leads P x p q ≡ true) ↔ Leads P x p q
  unfolding leads
  leads_law x p q =
      let t = and↔ (opens↔ x p) (eqb↔ (P.next x p) q) in
      (λ e. let ((b, d), c) = t.0 e in (b, c, rw c at d), λ (b, c, d). t.1 ((b, rw c d), c))

  pub least_label_min : (x p q : ℕ) → Leads P x p q → least_label P p q ≤ x
  unfolding least_label
  least_label_min x p q t = least_min P.labels (λ y. leads P y p q) x t.0 ((leads_law x p q).1 t)

  pub least_label_leads : (p q : ℕ) → least_label P p q < P.labels → Leads P (least_label P p q) p q
  unfolding least_label
  least_label_leads p q b = (leads_law (least_label P p q) p q).0 (least_at P.labels (λ y. leads P y p q) b)

  pub walks_is : (xs : List ℕ) (p : ℕ) → walks P xs p ≡ true → LabelWalk P p (walk_end P xs p) xs
  unfolding walks walk_end
  walks_is [] p e = empty
  walks_is (x ∷ xs) p e =
      let ((b, d), f) = (and↔ (opens↔ x p) (test↔ (walks P xs (P.next x p)))).0 e in
      label (b, refl, d) (walks_is xs (P.next x p) f)

  pub is_walks : {p s : ℕ} {xs : List ℕ} → LabelWalk P p s xs → (walks P xs p ≡ true) × (walk_end P xs p ≡ s)
  unfolding walks walk_end
  is_walks empty = (refl, refl)
  is_walks (label {p = p} {x = x} {xs = xs} (b, c, d) w) =
      let (f, g) = is_walks w in
      ((and↔ (opens↔ x p) (test↔ (walks P xs (P.next x p)))).1 ((b, rw c d), rw c f), rw c g)

  pub closes_law : (xs : List ℕ) (q : ℕ) → (closes P xs q ≡ true) ↔ ClosedLabelWalk P xs q
  unfolding closes
  closes_law xs q =
      let t = and↔ (leb↔ 1 (length xs)) (and↔ (test↔ (walks P xs q)) (eqb↔ (walk_end P xs q) q)) in
      (λ e. let (n, (f, c)) = t.0 e in (n, rw c at (walks_is xs q f)), λ (n, w). t.1 (n, is_walks w))

  label_walk_below : {p s : ℕ} {xs : List ℕ} → LabelWalk P p s xs → p < P.system.size → s < P.system.size
  label_walk_below empty b = b
  label_walk_below (label (a, c, d) w) b = label_walk_below w d

  -- a closed walk comes back to where it began, so it began at a state
  pub closed_label_below : {q s : ℕ} {xs : List ℕ} → 1 ≤ length xs → LabelWalk P q s xs → s < P.system.size
  closed_label_below n empty = absurd (omega arith)
  closed_label_below n (label (a, c, d) w) = label_walk_below w d

  pub walk_states-length : (xs : List ℕ) (p : ℕ) → length (walk_states P xs p) ≡ length xs
  unfolding walk_states
  walk_states-length [] p = refl
  walk_states-length (x ∷ xs) p = ap suc (walk_states-length xs (P.next x p))

  along_length : (p : ℕ) (l : List ℕ) → length (labels_along P p l) ≡ length l
  unfolding labels_along
  along_length p [] = refl
  along_length p (q ∷ l) = ap suc (along_length q l)

  along_before : {p s : ℕ} {xs : List ℕ} → LabelWalk P p s xs → Pairs (Before label_kind label_edge) (labels_along P p (walk_states P xs p)) xs
  unfolding labels_along walk_states
  along_before empty = nil
  along_before (label {p = p} {q = q} {x = x} (b, c, d) w) =
      rw c (pair (label_before (least_label P p q) x (least_label_min x p q (b, c, d))) (along_before w))

  -- of the closed walks through the same states
  pub closed_labels_before : (q : ℕ) (xs : List ℕ) → LabelWalk P q q xs → closed_walk P.system q ≡ walk_states P xs q
      → Pairs (Before label_kind label_edge) (closed_walk_labels P q) xs
  unfolding closed_walk_labels
  closed_labels_before q xs w c = rw c (along_before w)

module _ (P : LabelledSystem) (M : LabelledLaws P) where
  -- ---- walks of labels, and walks of states

  pub label_walk_flow : {p s : ℕ} {xs : List ℕ} → p < P.system.size → LabelWalk P p s xs → Walk P.system.flow p s (walk_states P xs p)
  unfolding walk_states
  label_walk_flow b empty = stop
  label_walk_flow b (label {p = p} {x = x} {xs = xs} (a, c, d) w) =
      rw c (move (rw c at (M.next_flow x p a b (rw c d))) (label_walk_flow d w))

  pub closed_label_walk : (xs : List ℕ) (q : ℕ) → ClosedLabelWalk P xs q → OnClosedWalkIn P.system q
  unfolding walk_states
  closed_label_walk [] q (n, w) = absurd (omega arith)
  closed_label_walk (x ∷ xs) q (n, w) = (P.next x q, walk_states P xs (P.next x q), label_walk_flow (closed_label_below P n w) w)

  -- a time or jump step has a label
  pub flow_label : (p q : ℕ) → P.system.flow p q ≡ true → least_label P p q < P.labels
  flow_label p q e =
      let (x, b, c) = M.flow_next p q e in
      omega (arith, least_label_min P x p q (b, c, (flow_inside P.system M.laws p q e).1))

  along_walk : {p s : ℕ} {l : List ℕ} → Walk P.system.flow p s l
      → LabelWalk P p s (labels_along P p l) × (walk_states P (labels_along P p l) p ≡ l)
  unfolding labels_along walk_states
  along_walk stop = (empty, refl)
  along_walk (move {p = p} {q = q} {l = l} e w) =
      let t = least_label_leads P p q (flow_label p q e) in
      let (v, c) = along_walk w in
      (label t v, ap (λ (x : ℕ). x ∷ walk_states P (labels_along P q l) x) t.1 ∙ ap (λ (m : List ℕ). q ∷ m) c)

  -- ---- ours

  module _ (q : ℕ) where
    pub closed_labels_length : length (closed_walk_labels P q) ≡ closed_walk_steps P.system q
    unfolding closed_walk_labels
    closed_labels_length = along_length P q (closed_walk P.system q) ∙ closed_walk-length P.system M.laws q

    pub closed_labels_close : OnClosedWalkIn P.system q → ClosedLabelWalk P (closed_walk_labels P q) q
    unfolding closed_walk_labels
    closed_labels_close o =
        let n : 1 ≤ length (closed_walk_labels P q) = omega (arith, closed_labels_length, closed_walk_some P.system M.laws q) in
        (n, (along_walk (closed_walk_walk P.system M.laws q o)).0)

    pub closed_labels_states : OnClosedWalkIn P.system q → walk_states P (closed_walk_labels P q) q ≡ closed_walk P.system q
    unfolding closed_walk_labels
    closed_labels_states o = (along_walk (closed_walk_walk P.system M.laws q o)).1
