-- Search in an increasing list: the bracket of a binary search, and what it finds.
use Prim.Native.Nat.{ℕ, zero, suc, ◌+◌, ◌≤◌, ◌<◌, suc-le-suc}
use native.Mathlib.Omega.{arith}
use native.Mathlib.Decide.{dec_lt}
use native.Mathlib.Nat.{le_of_suc-le-suc, le_of_lt, le_refl}
use native.Mathlib.Numerals.{add-one}
use mathlib.Core.Path.{◌≡◌, refl, sym, ◌∙◌}
use mathlib.Core.Bool.{Bool, true, false, cond}
use mathlib.Core.List.{List, [], ◌∷◌}
use lib.Dec.{eqb}
use lib.ListN.{length, get_or}
use borrow.Author.Tests.{eq-eqb, ne_eqb, eqb-true}
use Rattle.theory.proofs.Sorted.{sorted_at}
use Rattle.region_table.specs.Lookup.{further, found_in, Increasing}
use Rattle.std.proofs.Common.{Option, Some, None, Result, Ok, Err, nat_cmp}
use Rattle.std.specs.Prelude.{MatchResult}
use Rattle.std.specs.List.Sorted.{IsBinarySearchResult, IsNonDecreasingBy}
use Rattle.std.specs.Result.{result_ok}
use Rattle.std.proofs.lemmas.List.Sorted.{IsNonDecreasingBy-from_default, searched}

-- ---- binary search

pub at_most : (s : List ℕ) → Increasing s → (i j : ℕ) → i ≤ j → j < length s → get_or s i 0 ≤ get_or s j 0
at_most s t i j h l = by (dec_lt i j)
  where
    by : Dec (i < j) → get_or s i 0 ≤ get_or s j 0
    by (yes q) = le_of_lt (sorted_at 0 t i j q l)
    by (no q) = let e : i ≡ j = omega (arith, q) in rw e (le_refl _)

pub ascends : (s : List ℕ) → Increasing s → IsNonDecreasingBy (λ x. x) s
ascends s t = IsNonDecreasingBy-from_default (λ x. x) s 0 (at_most s t)

-- ---- what is found

pub found_first : (s : List ℕ) (p i : ℕ) → i < length s → get_or s i 0 ≡ p → ((k : ℕ) → k < i → get_or s k 0 < p) → Some i ≡ found_in s p
unfolding found_in
found_first [] p i h e b = absurd (omega arith)
found_first (x ∷ s) p zero h e b = rw (eq-eqb x p e)
found_first (x ∷ s) p (suc i) h e b =
    let l = b 0 (omega arith) in
    rw (ne_eqb x p (λ q. omega arith), ← found_first s p i (le_of_suc-le-suc h) e (λ k j. b (suc k) (suc-le-suc j)), add-one i) refl

pub found_none : (s : List ℕ) (p : ℕ) → ((k : ℕ) → k < length s → get_or s k 0 ≡ p → ⊥) → None ≡ found_in s p
unfolding found_in
found_none [] p h = refl
found_none (x ∷ s) p h =
    rw (ne_eqb x p (h 0 (omega arith)), ← found_none s p (λ k l. h (suc k) (suc-le-suc l))) refl

-- in an increasing list a number stands where it is found, and nowhere else
pub found_at : (s : List ℕ) (p i : ℕ) → Increasing s → i < length s → get_or s i 0 ≡ p → found_in s p ≡ Some i
found_at s p i t h e = sym (found_first s p i h e (λ k l. rw e at (sorted_at 0 t k i l h)))

pub at_found : (s : List ℕ) (p i : ℕ) → found_in s p ≡ Some i → (i < length s) × (get_or s i 0 ≡ p)
unfolding found_in
at_found [] p i e = let z : ◌≡◌ {A = ℕ} 0 1 = cc in absurd (omega arith)
at_found (x ∷ s) p i e = by (eqb x p) refl e (found_in s p) refl (at_found s p)
  where
    by : (b : Bool) → eqb x p ≡ b → cond b (Some 0) (further (found_in s p)) ≡ Some i → (f : Option ℕ) → found_in s p ≡ f
        → ((j : ℕ) → found_in s p ≡ Some j → (j < length s) × (get_or s j 0 ≡ p)) → (i < length (x ∷ s)) × (get_or (x ∷ s) i 0 ≡ p)
    by true t q f g ih = let j : 0 ≡ i = cc in rw (sym j) (omega arith, eqb-true x p t)
    by false t q (Some k) g ih =
        let j : k + 1 ≡ i = cc in
        let (h, r) = ih k g in
        rw (sym j ∙ add-one k) (omega arith, r)
    by false t q None g ih = let z : ◌≡◌ {A = ℕ} 0 1 = cc in absurd (omega arith)

-- what the library's search answers
pub search_found : (s : List ℕ) (p : ℕ) (r : Result ℕ ℕ) → Increasing s → IsBinarySearchResult (λ y. nat_cmp y p) s r → result_ok r ≡ found_in s p
search_found s p r t b = by r (searched s p r b (at_most s t))
  where
    by : (r : Result ℕ ℕ)
        → MatchResult r (λ i. (i < length s) × (get_or s i 0 ≡ p))
        (λ i. (i ≤ length s) × ((k : ℕ) → k < i → get_or s k 0 < p) × ((k : ℕ) → i ≤ k → k < length s → p < get_or s k 0))
        → result_ok r ≡ found_in s p
    by (Ok i) (l, e) = sym (found_at s p i t l e)
    by (Err i) (l, b, f) = found_none s p (λ k h e. none k h e (dec_lt k i))
      where
        none : (k : ℕ) → k < length s → get_or s k 0 ≡ p → Dec (k < i) → ⊥
        none k h e (yes q) = omega (arith, b k q)
        none k h e (no q) = omega (arith, f k (omega (arith, q)) h)
