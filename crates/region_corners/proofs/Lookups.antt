-- The loop that looks up the numbers of a region's faces: those of the row of its ranks so far stand in their places.
use Prim.Native.Nat.{ℕ, ◌+◌, ◌≤◌, ◌<◌}
use mathlib.Core.Path.{◌≡◌}
use mathlib.Core.List.{List}
use lib.ListN.{length, get_or}
use Rattle.region_corners.specs.Faces.{LookedUp}

-- the row is looked up as far as its place k, and `end` is the next place to fill
pub record Looking (index : List ℕ) (base at : ℕ) (row f₀ f : List ℕ) (k end : ℕ) : Type 0 where
  pub legal : (y : ℕ) → y < length row → base + get_or row y 0 < length index
  pub room : at + length row ≤ length f
  pub next : end ≡ at + k
  pub looked : LookedUp index row base at k f₀ f
