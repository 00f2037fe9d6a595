-- What the tables tell of a system.
use Rattle.std.specs.Prelude.{◌≡◌, List, ℕ, length}
use Rattle.theory.specs.System.{System, Laws}
use Rattle.theory.specs.Trail.{trail_steps}
use Rattle.marking.specs.Tables.{Tables, Distances, Forbids}

-- they are those of Y, `distance` has its distances plus one, and `kind` its forbidden locations
pub record Told (Y : System) (steps start R : ℕ) (first targets shapes heights kind distance : List ℕ) : Type 0 where
  pub laws : Laws Y
  pub size : Y.size ≡ length distance
  pub tables : Tables Y start R first targets shapes heights
  pub distances : Distances Y distance
  pub forbids : Forbids Y R kind
  -- 01: "The step count that our trail carries"
  pub fewest : steps ≡ trail_steps Y
