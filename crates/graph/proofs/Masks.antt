-- A reset mask, bit by bit.
use Prim.Native.Nat.{ℕ, zero, suc, ◌/◌, ◌%◌, ◌^◌, ◌<◌}
use native.Mathlib.Nat.{pow-zero, pow-succ', div-div-eq-div-mul, div-one}
use native.Mathlib.Omega.{arith}
use mathlib.Core.Path.{◌≡◌, refl, ap, ◌∙◌}
use mathlib.Core.Bool.{Bool, true, false, cond}
use mathlib.Core.List.{List, [], ◌∷◌}
use lib.Dec.{eqb}
use lib.ListN.{get_or}
use Rattle.theory.specs.Below.{tab}
use Rattle.theory.specs.Automaton.{reset_values}
use Rattle.theory.proofs.Below.{tab_same}
use Rattle.region.specs.View.{mask_bits}

pub bit_at : (n r x : ℕ) → x < n → get_or (mask_bits n r) x false ≡ eqb (r / 2 ^ x % 2) 1
bit_at zero r x h = absurd (omega arith)
bit_at (suc n) r zero h = rw (pow-zero 2, div-one r)
bit_at (suc n) r (suc x) h = rw (pow-succ' 2 x, ← div-div-eq-div-mul r 2 (2 ^ x)) (bit_at n (r / 2) x (omega arith))

reset_tab : (bs : List Bool) (n : ℕ) (f : ℕ → ℕ) → reset_values bs (tab n f) ≡ tab n (λ x. cond (get_or bs x false) 0 (f x))
unfolding tab
reset_tab bs zero f = refl
reset_tab [] (suc n) f = refl
reset_tab (true ∷ bs) (suc n) f = ap (λ (l : List ℕ). 0 ∷ l) (reset_tab bs n (λ x. f (suc x)))
reset_tab (false ∷ bs) (suc n) f = ap (λ (l : List ℕ). f 0 ∷ l) (reset_tab bs n (λ x. f (suc x)))

-- what a jump makes of a value for each clock
pub reset_mask : (n r : ℕ) (f : ℕ → ℕ) → reset_values (mask_bits n r) (tab n f) ≡ tab n (λ x. cond (eqb (r / 2 ^ x % 2) 1) 0 (f x))
reset_mask n r f = reset_tab (mask_bits n r) n f ∙ tab_same n _ _ (λ x h. ap (λ (b : Bool). cond b 0 (f x)) (bit_at n r x h))
