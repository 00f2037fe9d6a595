-- What is left of a slice whose first numbers are lent and come back as zero.
use Prim.Native.Nat.{ℕ}
use mathlib.Core.Path.{◌≡◌, refl, ap, ◌∙◌}
use mathlib.Core.Bool.{Bool, true, false, ◌&&◌}
use mathlib.Core.List.{List}
use lib.ListN.{replicate}
use Rattle.call.specs.Scratch.{Cleared, Zeroed}

pub and-true : (b : Bool) → (b && true) ≡ b
and-true true = refl
and-true false = refl

-- zeros, by their number
zeros_of : {x : List ℕ} {k n : ℕ} → x ≡ replicate k 0 → k ≡ n → x ≡ replicate n 0
zeros_of e f = e ∙ ap (λ (k : ℕ). replicate k 0) f

-- slices that were s long and are cleared
pub zeroed : {i j k l s : ℕ} {a b c d : List ℕ} → Cleared i j k l a b c d → i ≡ s → j ≡ s → k ≡ s → l ≡ s → Zeroed s a b c d
zeroed z e f g h =
    record {
      first = zeros_of z.first e;
      second = zeros_of z.second f;
      third = zeros_of z.third g;
      fourth = zeros_of z.fourth h;
    }
