-- A row of steps, place by place.
use mathlib.Core.Path.{◌≡◌, sym, ap, ap₂, ◌∙◌}
use mathlib.Core.List.{List}
use Prim.Native.Nat.{ℕ, suc, ◌+◌, ◌-◌, ◌≤◌, ◌<◌, max}
use native.Mathlib.Omega.{arith}
use lib.ListN.{get_or, length, take, drop, length-take, length-drop}
use Rattle.std.proofs.lemmas.List.{get_or-take, get_or-drop}
use Rattle.theory.specs.Below.{top}
use Rattle.theory.specs.Adjacency.{Rows}
use Rattle.theory.proofs.Below.{top-suc}
use Rattle.theory.proofs.Rows.{rows_length, rows_below}
use Rattle.fringe_ranks.specs.Ranks.{rank_by, rank_upto}

-- what node p leads to, as code cuts it
abbrev pub row_of : List ℕ → List ℕ → ℕ → List ℕ
row_of first targets p = take (get_or first (p + 1) 0 - get_or first p 0) (drop (get_or first p 0) targets)

module _ {first targets : List ℕ} {n : ℕ} (H : Rows first targets n) (p : ℕ) (b : p < n) where
  abbrev from : ℕ
  from = get_or first p 0

  abbrev to : ℕ
  to = get_or first (p + 1) 0

  pub row_bounds : (from ≤ to) × (to ≤ length targets)
  row_bounds = (H.ascends p b, rows_length H p b)

  row_length : length (row_of first targets p) ≡ to - from
  row_length = omega (arith, length-take (to - from) (drop from targets), length-drop from targets, row_bounds)

  row_at : (i : ℕ) → i < length (row_of first targets p) → get_or (row_of first targets p) i 0 ≡ get_or targets (from + i) 0
  row_at i h = get_or-take (to - from) (drop from targets) i 0 (omega (arith, row_length)) ∙ get_or-drop from targets i 0

  pub row_below : (i : ℕ) → i < length (row_of first targets p) → get_or (row_of first targets p) i 0 < n
  row_below i h = rw (row_at i h) (rows_below H p (from + i) b (omega (arith, row_length)))

  module _ (flags ranks : List ℕ) (later : ℕ) where
    pub row_start : 0 ≡ rank_upto targets flags ranks later from (from + 0)
    unfolding rank_upto top
    row_start = let z : from + 0 - from ≡ 0 = omega arith in rw z

    -- what the code does at a place
    pub row_turn : (i most q r : ℕ) → i < length (row_of first targets p) → most ≡ rank_upto targets flags ranks later from (from + i)
        → q ≡ get_or (row_of first targets p) i 0 → r ≡ max most (rank_by flags ranks later q)
        → r ≡ rank_upto targets flags ranks later from (from + (i + 1))
    unfolding rank_upto
    row_turn i most q r h e f d =
        let k : from + (i + 1) - from ≡ suc i = omega arith in
        let j : from + i - from ≡ i = omega arith in
        d
        ∙ ap₂ (λ (x y : ℕ). max x (rank_by flags ranks later y)) (e ∙ ap (λ (x : ℕ). top x told) j) (f ∙ row_at i h)
        ∙ sym (top-suc i told)
        ∙ ap (λ (x : ℕ). top x told) (sym k)
      where
        told : ℕ → ℕ
        told k = rank_by flags ranks later (get_or targets (from + k) 0)

    pub row_end : (i most : ℕ) → length (row_of first targets p) ≤ i → i ≤ length (row_of first targets p)
        → most ≡ rank_upto targets flags ranks later from (from + i) → most ≡ rank_upto targets flags ranks later from to
    row_end i most g h e =
        let z : from + i ≡ to = omega (arith, row_length, row_bounds) in e ∙ ap (rank_upto targets flags ranks later from) z
