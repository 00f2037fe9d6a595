-- `op_harm::harm` meets its contract.
use mathlib.Core.Path.{◌∙◌}
use Rattle.op_harm.proofs.Answered.{harm_said}
use Rattle.op_harm.proofs.harm.Goals as goal

pub returns-clause-result_value : goal.returns-clause-result_value
returns-clause-result_value c = c.call.ensures.value ∙ harm_said _ _
