-- The system of two lists has their successors as its steps, and so the steps of every system that they hold.
use mathlib.Core.Path.{◌≡◌, sym, ap, ◌∙◌}
use mathlib.Core.Bool.{true}
use mathlib.Core.List.{List}
use Prim.Native.Nat.{ℕ, suc, ◌+◌, ◌-◌, ◌≤◌, ◌<◌}
use native.Mathlib.Numerals.{add-one}
use native.Mathlib.Omega.{arith}
use Rattle.std.specs.List.{slice_range}
use Rattle.std.proofs.lemmas.List.Edits.{length-between, get_or-between}
use lib.ListN.{length, get_or}
use Rattle.theory.specs.System.{System, Laws}
use Rattle.theory.specs.Adjacency.{Adjacent, Holds}
use Rattle.theory.proofs.Below.{and↔, leb↔, ltb↔, eqb↔, any_intro, any_elim}
use Rattle.theory.proofs.System.{flow_inside}
use Rattle.theory.proofs.SameFlow.{FlowIn}
use Rattle.theory.proofs.Rows.{at_most_last}
use Rattle.limits.specs.Limits.{max_steps}
use Rattle.component.specs.Marks.{GraphLists}
use Rattle.component.specs.Graph.{adjacent, graph_of}
use Rattle.component.specs.Scan.{RowOf}

-- a node's successors end where those of the next begin
pub row_stop : (first : List ℕ) (p : ℕ) → get_or first (p + 1) 0 ≡ get_or first (suc p) 0
row_stop first p = ap (λ i. get_or first i 0) (add-one p)

module _ (first targets : List ℕ) where
  adjacent_is : (p q : ℕ) → adjacent first targets p q ≡ true → Adjacent first targets p q
  unfolding adjacent
  adjacent_is p q e =
      let (i, l, t) = any_elim (get_or first (suc p) 0) _ e in
      let (a, b) = (and↔ (leb↔ (get_or first p 0) i) (eqb↔ (get_or targets i 0) q)).0 t in
      record { place = i; after = a; before = l; is = b }

  is_adjacent : (p q : ℕ) → Adjacent first targets p q → adjacent first targets p q ≡ true
  unfolding adjacent
  is_adjacent p q A =
      any_intro (get_or first (suc p) 0) _ A.place A.before
      ((and↔ (leb↔ (get_or first p 0) A.place) (eqb↔ (get_or targets A.place 0) q)).1 (A.after, A.is))

  module _ (n : ℕ) where
    pub flow_is : (p q : ℕ) → (graph_of first targets n).flow p q ≡ true → (p < n) × Adjacent first targets p q
    unfolding graph_of
    flow_is p q e = let (l, a) = (and↔ (ltb↔ p n) (λ x. x, λ x. x)).0 e in (l, adjacent_is p q a)

    pub is_flow : (p q : ℕ) → p < n → Adjacent first targets p q → (graph_of first targets n).flow p q ≡ true
    unfolding graph_of
    is_flow p q l A = (and↔ (ltb↔ p n) (λ x. x, λ x. x)).1 (l, is_adjacent p q A)

    module _ (H : GraphLists first targets n) where
      row_ends : (p : ℕ) → p ≤ n → get_or first p 0 ≤ get_or first n 0
      row_ends = at_most_last (λ p. get_or first p 0) n H.ascends

      pub first_few : (p : ℕ) → p ≤ n → get_or first p 0 ≤ max_steps
      first_few p l = omega (arith, row_ends p l, H.few)

      -- the places of a node's successors are places of targets
      pub place_below : (p i : ℕ) → p < n → i < get_or first (suc p) 0 → i < get_or first n 0
      place_below p i l k = omega (arith, row_ends (suc p) (omega arith))

      pub place_in : (p i : ℕ) → p < n → i < get_or first (suc p) 0 → i < length targets
      place_in p i l k = omega (arith, place_below p i l k, H.ends)

      pub node_in : (p i : ℕ) → p < n → i < get_or first (suc p) 0 → get_or targets i 0 < n
      node_in p i l k = H.below i (place_below p i l k)

      -- the same by the place where the next node's begin
      pub place_at : (p i : ℕ) → p < n → i < get_or first (p + 1) 0 → (i < length targets) × (get_or targets i 0 < n)
      place_at p i l k = let h : i < get_or first (suc p) 0 = omega (arith, row_stop first p) in (place_in p i l h, node_in p i l h)

      -- a node's successors as a part of targets
      pub row_within : (p : ℕ) → p < n
          → (get_or first p 0 ≤ get_or first (p + 1) 0) × (get_or first (p + 1) 0 ≤ length targets)
      row_within p l = rw add-one (H.ascends p l, omega (arith, row_ends (suc p) (omega arith), H.ends))

      module _ (p : ℕ) (l : p < n) (row : List ℕ) (e : row ≡ slice_range targets (get_or first p 0) (get_or first (p + 1) 0)) where
        row_length : get_or first p 0 + length row ≡ get_or first (suc p) 0
        row_length =
            let (a, t) = row_within p l in
            omega (arith, row_stop first p, ap length e ∙ length-between targets (get_or first p 0) (get_or first (p + 1) 0) t)

        row_at : (k : ℕ) → k < length row → get_or row k 0 ≡ get_or targets (get_or first p 0 + k) 0
        row_at k b =
            ap (λ r. get_or r k 0) e
            ∙ get_or-between targets (get_or first p 0) (get_or first (p + 1) 0) k 0 (omega (arith, row_stop first p, row_length))

        row_only : (k : ℕ) → k < length row → (graph_of first targets n).flow p (get_or row k 0) ≡ true
        row_only k b =
            is_flow p (get_or row k 0) l
            (record {
              place = get_or first p 0 + k;
              after = omega arith;
              before = omega (arith, row_length);
              is = sym (row_at k b);
            })

        row_all : (t : ℕ) → (graph_of first targets n).flow p t ≡ true → (k : ℕ) × (k < length row) × (get_or row k 0 ≡ t)
        row_all t f =
            let A = (flow_is p t f).1 in
            let k = A.place - get_or first p 0 in
            let b : k < length row = omega (arith, row_length, A.after, A.before) in
            let q : get_or first p 0 + k ≡ A.place = omega (arith, A.after) in
            (k, b, row_at k b ∙ ap (λ i. get_or targets i 0) q ∙ A.is)

        pub row_of : RowOf (graph_of first targets n) p row
        row_of = record { only = row_only; all = row_all }

      pub flow_below : (p q : ℕ) → (graph_of first targets n).flow p q ≡ true → q < n
      flow_below p q e =
          let (l, A) = flow_is p q e in
          omega (arith, node_in p A.place l A.before, A.is)

    -- ---- a system that the lists hold has the same steps

    module _ (Y : System) (L : Laws Y) (e : Y.size ≡ n) (H : Holds first targets n Y.flow) where
      pub flow_to : FlowIn (graph_of first targets n) Y
      flow_to p q f = let (l, A) = flow_is p q f in (H.edges p q l).0 A

      pub flow_from : FlowIn Y (graph_of first targets n)
      flow_from p q f = let l : p < n = omega (arith, (flow_inside Y L p q f).0) in is_flow p q l ((H.edges p q l).1 f)
