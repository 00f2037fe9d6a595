-- The place of a number in a list: the index of a region.
use Rattle.std.specs.Prelude.{ℕ, ◌+◌, ◌≤◌, ◌<◌, cond, List, [], ◌∷◌, eqb, length, get_or, Option, Some, None}
use Rattle.theory.specs.Enumeration.{Sorted}

abbrev pub further : Option ℕ → Option ℕ
further (Some i) = Some (i + 1)
further None = None

-- where p stands first
unfoldable pub found_in : List ℕ → ℕ → Option ℕ
found_in [] p = None
found_in (x ∷ xs) p = cond (eqb x p) (Some 0) (further (found_in xs p))

abbrev pub Increasing : List ℕ → Type 0
Increasing = Sorted (λ x y. x < y)

-- all numbers before i are below p, and from i on none is
pub record Place (s : List ℕ) (p i : ℕ) : Type 0 where
  pub within : i ≤ length s
  pub below : (k : ℕ) → k < i → get_or s k 0 < p
  pub from : (k : ℕ) → i ≤ k → k < length s → p ≤ get_or s k 0
