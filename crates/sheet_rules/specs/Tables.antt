-- The arrays that the rules are tested by: the time and jump steps of each state, and the tables by region in one list, `shapes`.
use Rattle.std.specs.Prelude.{◌≡◌, List, ℕ, ◌*◌, ◌<◌, length, get_or}
use Rattle.theory.specs.Adjacency.{Rows}
use Rattle.model.specs.declared.Model.{Model}
use Rattle.model.specs.Model.{Lawful}
use Rattle.limits.specs.Limits.{slot_count, point_count}
use Rattle.shapes.specs.Layout.{rows_in, faces_in, corners_in, ShapesRoom}
use Rattle.region_corners.specs.Shapes.{Shapes}
use Rattle.successors.specs.Flow.{FlowLists}

-- ---- their sizes, by the number S of states and the number R of regions

-- the slots of the regions' corners hold numbers of points
pub record Slots (R : ℕ) (corner : List ℕ) : Type 0 where
  pub long : length corner ≡ slot_count * R
  pub below : (s : ℕ) → s < length corner → get_or corner s 0 < point_count

pub record RuleSizes (S R : ℕ) (first targets shapes : List ℕ) : Type 0 where
  pub flow : Rows first targets S
  pub room : ShapesRoom R shapes
  pub face : Rows (rows_in R shapes) (faces_in R shapes) R
  pub slots : Slots R (corners_in R shapes)

-- ---- what they hold for a model

-- its time and jump steps, the faces and the corners of its regions
pub record RuleTables (m : Model) (first targets shapes : List ℕ) : Type 0 where
  pub lawful : Lawful m
  pub flow : FlowLists m first targets
  pub tables : Shapes m.clocks m.ceiling shapes
