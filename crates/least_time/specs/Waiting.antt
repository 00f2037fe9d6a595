-- Where a unit of waiting leads.
use Rattle.std.specs.Prelude.{◌≡◌, true, List, ℕ, length}
use Rattle.theory.specs.Soonest.{unit_step}
use Rattle.graph.specs.Plan.{labelled_of_model}
use Rattle.graph.specs.States.{states}
use Rattle.least_time.specs.declared.steps.Waits.{Waits}

abbrev pub waits_to : Waits → ℕ → ℕ → Type 0
waits_to w p q = unit_step (labelled_of_model w.space.now.plan.now.model) p q ≡ true

-- the levels are of the plan's states; no marks are kept
abbrev pub of_states : Waits → List ℕ → List ℕ → Type 0
of_states w marks level = length level ≡ states w.space.now.plan.now.model
