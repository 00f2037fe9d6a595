-- The jump along edge e is the step with label e + 1.
use mathlib.Core.Path.{◌∙◌}
use native.Mathlib.Omega.{arith}
use Rattle.replay.proofs.Steps.{jump_goes, jump_nowhere}
use Rattle.replay.proofs.walk.to_jump.Goals as goal

pub returns-then-from-e : goal.returns-then-from-e
returns-then-from-e c = jump_nowhere _ _ _ _ (omega arith)

pub returns : goal.returns
returns c = c.go.ensures ∙ jump_goes _ _ _ _ (omega arith) _ c.jump_step.ensures
