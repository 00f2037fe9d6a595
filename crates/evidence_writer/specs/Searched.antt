-- What the search has left when the evidence is written.
use Rattle.std.specs.Prelude.{◌≡◌, Bool, List, ℕ, length}
use Rattle.model.specs.declared.Model.{Model}
use Rattle.model.specs.Model.{Lawful}
use Rattle.graph.specs.States.{Listed, states}
use Rattle.successors.specs.Flow.{FlowLists}
use Rattle.region_corners.specs.Shapes.{SearchShapes}
use Rattle.survey.specs.Surveyed.{Levelled}

-- the tables of a model, what is found about its states with touch steps or without, and room for a path
pub record Searched (touch : Bool) (m : Model) (table first targets shapes heights distance queue path : List ℕ) : Type 0 where
  pub lawful : Lawful m
  pub listed : Listed m table
  pub flow : FlowLists m first targets
  pub by_region : SearchShapes touch m.clocks m.ceiling shapes
  pub levelled : Levelled touch m heights distance queue
  pub queue_long : length queue ≡ states m
  pub path_long : length path ≡ states m
