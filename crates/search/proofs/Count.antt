-- Counts below a bound: of tests that agree, of tests that differ at one place, of a test that nothing passes.
use mathlib.Core.Path.{◌≡◌, refl, sym, ap, ◌∙◌}
use mathlib.Core.Bool.{Bool, true, false, cond}
use Prim.Native.Nat.{ℕ, zero, suc, ◌+◌, ◌<◌}
use native.Mathlib.Omega.{arith}
use lib.Dec.{ltb}
use lib.ListN.{length, get_or}
use mathlib.Core.List.{List, [], ◌∷◌}
use Rattle.std.specs.Prelude.{count_by}
use Rattle.std.proofs.lemmas.List.Sums.{sum_by_from}
use Rattle.theory.specs.Below.{bit, count}

pub count_same : (n : ℕ) (f g : ℕ → Bool) → ((i : ℕ) → i < n → f i ≡ g i) → count n f ≡ count n g
unfolding count
count_same zero f g h = refl
count_same (suc n) f g h =
    rw (h zero (omega arith)) (ap (λ (k : ℕ). bit (g zero) + k) (count_same n (λ i. f (suc i)) (λ i. g (suc i)) (λ i l. h (suc i) (omega arith))))

-- one more
pub count_put : (n : ℕ) (f g : ℕ → Bool) (i : ℕ) → i < n → f i ≡ false → g i ≡ true → ((j : ℕ) → (j ≡ i → ⊥) → g j ≡ f j)
    → count n g ≡ count n f + 1
unfolding count
count_put zero f g i l a b h = absurd (omega arith)
count_put (suc n) f g zero l a b h =
    rw (a, b) (omega (arith, count_same n (λ i. f (suc i)) (λ i. g (suc i)) (λ j _. sym (h (suc j) (λ z. omega arith)))))
count_put (suc n) f g (suc i) l a b h =
    rw (h zero (λ z. omega arith))
    (omega (arith, count_put n (λ i. f (suc i)) (λ i. g (suc i)) i (omega arith) a b (λ j n. h (suc j) (λ z. n (omega arith)))))

pub count_none : (n : ℕ) → count n (λ _. false) ≡ 0
unfolding count
count_none zero = refl
count_none (suc n) = omega (arith, count_none n)

bit_cond : (b : Bool) → cond b 1 0 ≡ bit b
bit_cond true = refl
bit_cond false = refl

-- the same by a list's numbers
pub count_listed : (l : List ℕ) → count_by (ltb 0) l ≡ count (length l) (λ p. ltb 0 (get_or l p 0))
unfolding count
count_listed [] = refl
count_listed (x ∷ l) =
    let e = sum_by_from (λ y. cond (ltb 0 y) 1 0) (0 + cond (ltb 0 x) 1 0) l in
    e ∙ omega (arith, bit_cond (ltb 0 x), count_listed l)
