-- A sum over the steps from a state through given ones, taken one step at a time: what is added goes with what is left.
use mathlib.Core.Path.{◌≡◌, ap}
use mathlib.Core.List.{List, [], ◌∷◌}
use Prim.Native.Nat.{ℕ, ◌+◌, ◌≤◌, ◌<◌}
use native.Mathlib.Numerals.{add-one}
use native.Mathlib.Omega.{arith}
use lib.ListN.{length, get_or, drop, drop_of_length-le}
use lib.Seq.{drop-cons}

pub record Additive (total : ℕ → List ℕ → ℕ) (part : ℕ → ℕ → ℕ) : Type 0 where
  pub none : (p : ℕ) → total p [] ≡ 0
  pub more : (p q : ℕ) (l : List ℕ) → total p (q ∷ l) ≡ part p q + total q l

-- i of the path's states are passed, and p is the last of them
module _ {total : ℕ → List ℕ → ℕ} {part : ℕ → ℕ → ℕ} (A : Additive total part) (path : List ℕ) (whole sum p i : ℕ)
    (e : sum + total p (drop i path) ≡ whole) where
  pub sum_next : (q : ℕ) → i < length path → q ≡ get_or path i 0 → sum + part p q + total q (drop (i + 1) path) ≡ whole
  sum_next q h s =
      let d : drop i path ≡ q ∷ drop (i + 1) path = rw (s, add-one) (drop-cons path i 0 h) in
      omega (arith, ap (total p) d, A.more p q (drop (i + 1) path))

  pub sum_done : length path ≤ i → sum ≡ whole
  sum_done h = omega (arith, ap (total p) (drop_of_length-le path h), A.none p)
