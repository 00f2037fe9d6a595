-- Corners as numbers: the coordinates, read as the digits of a number.
use Rattle.std.specs.Prelude.{ℕ, ◌+◌, ◌*◌, List, [], ◌∷◌}
use Rattle.theory.specs.Region.{raise}
use Rattle.limits.specs.Limits.{max_clocks, point_base}
use Rattle.region.specs.View.{view}
use Rattle.region.specs.declared.Region.{Region}
use Rattle.region.specs.declared.Codes.{Codes}

abbrev pub point_code : ℕ → List ℕ → ℕ
point_code a [] = a
point_code a (x ∷ xs) = point_code (a * point_base + x) xs

-- the number of the corner by threshold t
unfoldable pub code_at : Region → ℕ → ℕ
code_at g t = point_code 0 (raise t (view max_clocks g))

abbrev pub codes : Codes → List ℕ
codes c = c.c4 ∷ c.c3 ∷ c.c2 ∷ c.c1 ∷ []
