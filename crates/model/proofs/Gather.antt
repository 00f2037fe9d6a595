-- Rounds and lists that agree below a bound are the same.
use Prim.Native.Nat.{ℕ, suc, zero, ◌<◌}
use native.Mathlib.Omega.{arith}
use mathlib.Core.Path.{◌≡◌, refl, ap, ap₂, ◌∙◌}
use mathlib.Core.List.{List, ◌++◌}
use Rattle.model.specs.Each.{each, gather}

-- the same lists below n give the same
pub gather_ext : (n : ℕ) (f g : ℕ → List ℕ) → ((i : ℕ) → i < n → f i ≡ g i) → gather n f ≡ gather n g
unfolding gather
gather_ext zero f g h = refl
gather_ext (suc n) f g h = ap₂ ◌++◌ (gather_ext n f g (λ i p. h i (omega arith))) (h n (omega arith))

-- the same rounds below n give the same
pub each_ext : {A : Type 0} (n : ℕ) (f g : ℕ → A → A) → ((i : ℕ) → i < n → (a : A) → f i a ≡ g i a) → (a : A) → each n f a ≡ each n g a
unfolding each
each_ext zero f g h a = refl
each_ext (suc n) f g h a = ap (f n) (each_ext n f g (λ i p. h i (omega arith)) a) ∙ h n (omega arith) (each n g a)
