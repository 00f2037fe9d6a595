-- Lists of zeros.
use Prim.Native.Nat.{ℕ, zero, suc}
use mathlib.Core.Path.{◌≡◌, refl, ap, ◌∙◌}
use mathlib.Core.List.{List}
use lib.ListN.{get_or, replicate}

-- what stands in a list of zeros
pub zeros : (n i : ℕ) → get_or (replicate {A = ℕ} n 0) i 0 ≡ 0
zeros zero i = refl
zeros (suc n) zero = refl
zeros (suc n) (suc i) = zeros n i

pub zero_at : {a : List ℕ} (n : ℕ) → a ≡ replicate n 0 → (i : ℕ) → get_or a i 0 ≡ 0
zero_at {a} n e i = ap (λ (l : List ℕ). get_or l i 0) e ∙ zeros n i
