-- `op_soonest::soonest` meets its contract.
use mathlib.Core.Path.{◌∙◌}
use Rattle.op_soonest.proofs.Arrivals.{soonest_said}
use Rattle.op_soonest.proofs.soonest.Goals as goal

pub returns-clause-result_value : goal.returns-clause-result_value
returns-clause-result_value c = c.call.ensures.value ∙ soonest_said _ _ _
