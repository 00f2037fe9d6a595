-- Where a whole part is above its limit, so is it in the numbers that follow, until a clock before it moves on.
use Prim.Native.Nat.{ℕ, zero, suc, ◌+◌, ◌*◌, ◌/◌, ◌%◌, ◌<◌}
use native.Mathlib.Decide.{dec_lt}
use native.Mathlib.Omega.{arith}
use mathlib.Core.Path.{◌≡◌, refl}
use mathlib.Core.Bool.{true, false, cond, ◌&&◌, and-false}
use mathlib.Core.List.{List}
use lib.Dec.{leb, ltb}
use lib.ListN.{length, get_or}
use borrow.Author.Tests.{lt-leb}
use Rattle.theory.specs.Region.{rounded_up, fits}
use Rattle.theory.proofs.Below.{and↔, ltb↔}
use Rattle.theory.proofs.Sorted.{sorted_at}
use Rattle.limits.specs.Limits.{max_clocks}
use Rattle.region.specs.Packed.{packed_bound}
use Rattle.region_table.specs.Table.{chosen, Gap, Skips}
use Rattle.region_table.specs.Lookup.{Increasing, Place}

over : (w r l : ℕ) → l < w → leb (rounded_up w r) l ≡ false
over w zero l h = lt-leb w l h
over w (suc r) l h = lt-leb (w + 1) l (omega arith)

ranked : (w r l : ℕ) → 0 < r → l ≡ 0 → leb (rounded_up w r) l ≡ false
ranked w zero l h e = absurd (omega arith)
ranked w (suc r) l h e = lt-leb (w + 1) l (omega arith)

module _ (n M p : ℕ) where
  -- a rank of the last clock, where there are fewer
  pub past_not_chosen : (ltb n max_clocks && ltb 0 (p % 10)) ≡ true → chosen n M p ≡ false
  unfolding chosen fits
  past_not_chosen e =
      let (few, some) = (and↔ (ltb↔ n max_clocks) (ltb↔ 0 (p % 10))).0 e in
      rw (ranked (p / 1000 % 10) (p % 10) (cond (leb 3 n) M 0) some (rw (lt-leb 3 n few) refl)) (simp and-false)

  pub gap_first : p < packed_bound → M < p / 100000 → Gap n M p packed_bound
  unfolding chosen fits
  gap_first b h = record { later = b; none = λ x l m. rw (over (x / 100000) (x / 100 % 10) M (omega arith)) refl }

  pub gap_second : cond (leb 2 n) M 0 < p / 10000 % 10 → Gap n M p ((p / 100000 + 1) * 100000)
  unfolding chosen fits
  gap_second h =
      record { later = omega arith; none = λ x l m. rw (over (x / 10000 % 10) (x / 10 % 10) (cond (leb 2 n) M 0) (omega arith)) (simp and-false) }

  pub gap_third : cond (leb 3 n) M 0 < p / 1000 % 10 → Gap n M p ((p / 10000 + 1) * 10000)
  unfolding chosen fits
  gap_third h =
      record {
        later = omega arith;
        none = λ x l m. rw (over (x / 1000 % 10) (x % 10) (cond (leb 3 n) M 0) (omega arith)) (simp and-false);
      }

  pub gap_none : Gap n M p (p + 1)
  gap_none = record { later = omega arith; none = λ x l m. absurd (omega arith) }

-- ---- in an increasing list

module _ (n M : ℕ) (s : List ℕ) (i : ℕ) (h : i < length s) where
  pub skip_one : Skips n M s i (i + 1)
  skip_one = record { later = omega arith; within = omega arith; none = λ k a b. absurd (omega arith) }

  pub skip_gap : Increasing s → (q j : ℕ) → Gap n M (get_or s i 0) q → Place s q j → Skips n M s i j
  skip_gap t q j g l =
      record {
        later = by (dec_lt i j);
        within = l.within;
        none = λ k a b. g.none (get_or s k 0) (sorted_at 0 t i k a (omega (arith, l.within))) (l.below k b);
      }
    where
      by : Dec (i < j) → i < j
      by (yes d) = d
      by (no d) = absurd (omega (arith, l.from i (omega (arith, d)) h, g.later))
