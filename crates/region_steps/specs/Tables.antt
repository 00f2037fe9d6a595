-- Tables by the numbers of regions, a region's number being its index in `regions n M`.
use Rattle.std.specs.Prelude.{ℕ, ◌<◌, ◌≡◌, List, [], length, get_or}
use Rattle.theory.specs.Region.{successor, regions}
use Rattle.theory.specs.StateGraph.{index_in}
use Rattle.region.specs.View.{struct_of}
use Rattle.limits.specs.Limits.{code_count}
use Rattle.region_steps.specs.Codes.{code_of}

-- at the code of each region stands its number
pub record Indexed (n M : ℕ) (index : List ℕ) : Type 0 where
  pub long : length index ≡ code_count
  pub holds : (i : ℕ) → i < length (regions n M) → get_or index (code_of (struct_of (get_or (regions n M) i []))) 0 ≡ i

-- for each region the number of its time successor, or the number of regions: "There is none past the ceiling."
pub record Laters (n M : ℕ) (later : List ℕ) : Type 0 where
  pub long : length later ≡ length (regions n M)
  pub is : (i : ℕ) → i < length (regions n M) → get_or later i 0 ≡ index_in (regions n M) (successor (get_or (regions n M) i []))
