-- Loops that fill a list, entry after entry.
use Prim.Native.Nat.{ℕ, ◌+◌, ◌<◌}
use native.Mathlib.Omega.{arith}
use native.Mathlib.Decide.{ℕ_discrete}
use mathlib.Core.Path.{◌≡◌, ◌∙◌}
use mathlib.Core.List.{List}
use lib.ListN.{length, get_or, set}
use lib.Seq.{get_or-set_same, get_or-set_other}

-- the entries at places of their own, one more set
pub set_next : (at f : ℕ → ℕ) (l : List ℕ) (i : ℕ) → ((j : ℕ) → j < i → at j ≡ at i → ⊥) → at i < length l
    → ((j : ℕ) → j < i → get_or l (at j) 0 ≡ f j) → (x : ℕ) → x ≡ f i → (j : ℕ) → j < i + 1 → get_or (set l (at i) x) (at j) 0 ≡ f j
set_next at f l i once b h x e j c = by (ℕ_discrete j i)
  where
    by : Dec (j ≡ i) → get_or (set l (at i) x) (at j) 0 ≡ f j
    by (yes q) = rw q (get_or-set_same l (at i) x 0 b ∙ e)
    by (no q) = let d : j < i = omega (arith, q) in get_or-set_other l (at i) (at j) x 0 (once j d) ∙ h j d
