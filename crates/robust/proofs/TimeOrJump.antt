-- No jump leads where time does: time gives a clock at rank 0 rank 1, or raises the whole part of a clock with the top rank; a reset with closing up
-- does neither.
use mathlib.Core.Path.{◌≡◌, refl, sym, ap, ◌∙◌}
use mathlib.Core.List.{List, [], ◌∷◌}
use mathlib.Core.Bool.{Bool, true, false, cond, ◌||◌, true≢false}
use mathlib.Core.Logic.{◌⊎◌, inl, inr}
use Prim.Native.Nat.{ℕ, ◌+◌, ◌≤◌, ◌<◌}
use native.Mathlib.Omega.{arith}
use lib.Dec.{eqb}
use borrow.Author.Tests.{eq-eqb, eqb-true}
use Rattle.theory.specs.Region.{Clock, clock, Region, has_rank, top_rank, rise_ranks, carry, successor, reset_clocks, ranks_upto, renumber, close_up}
use Rattle.theory.proofs.Below.{or_cases, or_left, or_right}
use Rattle.theory.proofs.Ranks.{renumber_rank}
use Rattle.robust.proofs.Clocks.{has_top}

-- ---- a clock at rank 0

-- stays so under a reset
reset_zero : (bs : List Bool) (xs : Region) → has_rank xs 0 ≡ true → has_rank (reset_clocks bs xs) 0 ≡ true
reset_zero bs [] e = e
reset_zero [] (x ∷ xs) e = e
reset_zero (true ∷ bs) (x ∷ xs) e = or_left (eqb 0 0) (has_rank (reset_clocks bs xs) 0) (eq-eqb 0 0 refl)
reset_zero (false ∷ bs) (x ∷ xs) e = by (reset_zero bs xs) (or_cases (eqb x.rank 0) (has_rank xs 0) e)
  where
    by : (has_rank xs 0 ≡ true → has_rank (reset_clocks bs xs) 0 ≡ true) → (eqb x.rank 0 ≡ true) ⊎ (has_rank xs 0 ≡ true)
        → (eqb x.rank 0 || has_rank (reset_clocks bs xs) 0) ≡ true
    by ih (inl t) = or_left (eqb x.rank 0) (has_rank (reset_clocks bs xs) 0) t
    by ih (inr t) = or_right (eqb x.rank 0) (has_rank (reset_clocks bs xs) 0) (ih t)

-- where ranks rise there is none
rise_none : (xs : Region) → has_rank (rise_ranks xs) 0 ≡ false
rise_none [] = refl
rise_none (x ∷ xs) = by (eqb (x.rank + 1) 0) refl (rise_none xs)
  where
    by : (b : Bool) → eqb (x.rank + 1) 0 ≡ b → has_rank (rise_ranks xs) 0 ≡ false → (b || has_rank (rise_ranks xs) 0) ≡ false
    by true e h = let z : x.rank + 1 ≡ 0 = eqb-true (x.rank + 1) 0 e in absurd (omega arith)
    by false e h = h

-- ---- the sum of the whole parts

abbrev total : Region → ℕ
total [] = 0
total (x ∷ xs) = x.whole + total xs

total-renumber : (f : ℕ → ℕ) (xs : Region) → total (renumber f xs) ≡ total xs
total-renumber f [] = refl
total-renumber f (x ∷ xs) = ap (λ (n : ℕ). x.whole + n) (total-renumber f xs)

total_reset : (bs : List Bool) (xs : Region) → total (reset_clocks bs xs) ≤ total xs
total_reset bs [] = omega arith
total_reset [] (x ∷ xs) = omega arith
total_reset (true ∷ bs) (x ∷ xs) = omega (arith, total_reset bs xs)
total_reset (false ∷ bs) (x ∷ xs) = omega (arith, total_reset bs xs)

carried : (b : Bool) (x : Clock) → x.whole ≤ (cond b (clock (x.whole + 1) 0) x).whole
carried true x = omega arith
carried false x = omega arith

total-carry : (t : ℕ) (xs : Region) → total xs ≤ total (carry t xs)
total-carry t [] = omega arith
total-carry t (x ∷ xs) = omega (arith, carried (eqb x.rank t) x, total-carry t xs)

total_more : (t : ℕ) (xs : Region) → has_rank xs t ≡ true → total xs < total (carry t xs)
total_more t [] e = absurd (true≢false (sym e))
total_more t (x ∷ xs) e = by (total_more t xs) (or_cases (eqb x.rank t) (has_rank xs t) e)
  where
    by : (has_rank xs t ≡ true → total xs < total (carry t xs)) → (eqb x.rank t ≡ true) ⊎ (has_rank xs t ≡ true)
        → x.whole + total xs < (cond (eqb x.rank t) (clock (x.whole + 1) 0) x).whole + total (carry t xs)
    by ih (inl h) = rw h (omega (arith, total-carry t xs))
    by ih (inr h) = omega (arith, carried (eqb x.rank t) x, ih h)

-- ---- the law

pub jump_not_time : (bs : List Bool) (x : Clock) (xs : Region) → close_up (reset_clocks bs (x ∷ xs)) ≡ successor (x ∷ xs) → ⊥
jump_not_time bs x xs e = by (has_rank (x ∷ xs) 0) refl
  where
    by : (b : Bool) → has_rank (x ∷ xs) 0 ≡ b → ⊥
    by true h =
        let ys = reset_clocks bs (x ∷ xs) in
        let z : has_rank (close_up ys) 0 ≡ true = renumber_rank (ranks_upto ys) ys 0 (reset_zero bs (x ∷ xs) h) in
        let r : successor (x ∷ xs) ≡ rise_ranks (x ∷ xs) = rw h in
        true≢false (sym z ∙ ap (λ (q : Region). has_rank q 0) (e ∙ r) ∙ rise_none (x ∷ xs))
    by false h =
        let ys = reset_clocks bs (x ∷ xs) in
        let r : successor (x ∷ xs) ≡ carry (top_rank (x ∷ xs)) (x ∷ xs) = rw h in
        let s = ap total (e ∙ r) in
        omega (
          arith,
          s,
          total-renumber (ranks_upto ys) ys,
          total_reset bs (x ∷ xs),
          total_more (top_rank (x ∷ xs)) (x ∷ xs) (has_top x xs),
        )
