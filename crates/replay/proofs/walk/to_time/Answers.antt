-- The time step is the step with label 0.
use mathlib.Core.Path.{◌∙◌}
use Rattle.replay.proofs.Steps.{time_goes}
use Rattle.replay.proofs.walk.to_time.Goals as goal

pub returns : goal.returns
returns c = c.go.ensures ∙ time_goes _ _ _ _ c.time_step.ensures
