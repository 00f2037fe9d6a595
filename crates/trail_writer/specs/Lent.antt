-- What the writer of trails is lent.
use Rattle.std.specs.Prelude.{◌≡◌, List, ℕ, ◌<◌}
use Rattle.theory.specs.Walk.{Walk}
use Rattle.theory.specs.Marked.{step}
use Rattle.model.specs.declared.Model.{Model}
use Rattle.model.specs.Model.{Lawful}
use Rattle.graph.specs.Plan.{system_of_model}
use Rattle.graph.specs.States.{Listed, states}
use Rattle.successors.specs.Flow.{FlowLists}

-- the regions and the time and jump steps of a model, and three slices of S numbers for closed walks
pub record WalkRoom (m : Model) (table first targets : List ℕ) (level queue walk : ℕ) : Type 0 where
  pub lawful : Lawful m
  pub listed : Listed m table
  pub flow : FlowLists m first targets
  pub level_long : level ≡ states m
  pub queue_long : queue ≡ states m
  pub walk_long : walk ≡ states m

-- steps of the four kinds lead from a state through others
pub record LeadsThrough (m : Model) (p : ℕ) (l : List ℕ) : Type 0 where
  pub below : p < states m
  pub end : ℕ
  pub walk : Walk (step (system_of_model m)) p end l
