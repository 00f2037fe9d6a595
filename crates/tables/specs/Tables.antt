-- The tables of a model: how long they are lent, and what they hold.
use Rattle.std.specs.Prelude.{◌≡◌, Bool, List, ℕ, ◌+◌, ◌*◌, ◌≤◌, length}
use Rattle.limits.specs.Limits.{max_locations, max_edges, max_regions, max_states, max_steps}
use Rattle.shapes.specs.Layout.{shapes_end}
use Rattle.model.specs.declared.Model.{Model}
use Rattle.graph.specs.States.{states}
use Rattle.successors.specs.Flow.{regions_in, FlowLists}
use Rattle.successors.specs.Flags.{AllowedFlags}
use Rattle.region_corners.specs.Shapes.{Shapes, SearchShapes}

-- room for the steps of all states
pub record StepRoom (m : Model) (allowed first targets : List ℕ) : Type 0 where
  pub flags : length allowed ≡ states m
  pub starts : length first ≡ states m + 1
  pub steps : states m + m.edges * regions_in m ≤ length targets

pub record Steps (m : Model) (allowed first targets : List ℕ) : Type 0 where
  pub flags : AllowedFlags m allowed
  pub flow : FlowLists m first targets

-- and for the tables by region
pub record Room (m : Model) (allowed first targets shapes : List ℕ) : Type 0 where
  pub by_state : StepRoom m allowed first targets
  pub by_region : length shapes ≡ shapes_end (regions_in m)

-- arrays of so many numbers: the tables of any plan of R regions fit, and none is larger than the largest plan asks
pub record Fits (R a f t s : ℕ) : Type 0 where
  pub states : (max_locations * R ≤ a) × (a ≤ max_states)
  pub firsts : (max_locations * R + 1 ≤ f) × (f ≤ max_states + 1)
  pub steps : (max_locations * R + max_edges * R ≤ t) × (t ≤ max_steps)
  pub shapes : (shapes_end R ≤ s) × (s ≤ shapes_end max_regions)

pub record Filled (m : Model) (allowed first targets shapes : List ℕ) : Type 0 where
  pub by_state : Steps m allowed first targets
  pub by_region : Shapes m.clocks m.ceiling shapes

-- what a search reads, with touch steps or without
pub record Searchable (touch : Bool) (m : Model) (allowed first targets shapes : List ℕ) : Type 0 where
  pub by_state : Steps m allowed first targets
  pub by_region : SearchShapes touch m.clocks m.ceiling shapes
