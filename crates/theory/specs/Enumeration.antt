-- The order of regions, and how many there are (01, "Regions").
use mathlib.Core.List.{List, [], ◌∷◌, ◌++◌, map, Memᴰ}
use Rattle.std.specs.Prelude.{ℕ, zero, suc, ◌+◌, ◌*◌, ◌<◌}
use Rattle.theory.specs.Region.{Clock, Region, wholes}

abbrev pub ranks : Region → List ℕ
ranks xs = map (λ (x : Clock). x.rank) xs

-- "Regions are ordered by w1..wn, then r1..rn, read as a list."
abbrev pub key : Region → List ℕ
key xs = wholes xs ++ ranks xs

-- dictionary order of lists of one length
pub data Before : List ℕ → List ℕ → Type 0 where
  here : {x y : ℕ} {a b : List ℕ} → x < y → Before (x ∷ a) (y ∷ b)
  later : {x : ℕ} {a b : List ℕ} → Before a b → Before (x ∷ a) (x ∷ b)

-- each element stands before all that follow it
pub data Sorted {A : Type 0} (R : A → A → Type 0) : List A → Type 0 where
  none : Sorted R []
  more : {x : A} {l : List A} → ((y : A) → Memᴰ y l → R x y) → Sorted R l → Sorted R (x ∷ l)

-- strictly ascending regions
abbrev pub Ascending : List Region → Type 0
Ascending = Sorted (λ xs ys. Before (key xs) (key ys))

-- for n up to 3: "Count: n=1: 2M+1; n=2: 6M²+4M+1; n=3: (M+1)³+3M(M+1)²+9M²(M+1)+13M³."
abbrev pub count_of : ℕ → ℕ → ℕ
count_of zero M = 1
count_of (suc zero) M = 2 * M + 1
count_of (suc (suc zero)) M = 6 * (M * M) + 4 * M + 1
count_of (suc (suc (suc n))) M =
    (M + 1) * (M + 1) * (M + 1) + 3 * M * ((M + 1) * (M + 1)) + 9 * (M * M) * (M + 1) + 13 * (M * M * M)
