-- `op_check::check_evidence` meets its contract.
use mathlib.Core.Path.{sym, ◌∙◌}
use Rattle.op_check.proofs.Check.{answered_check, check_said}
use Rattle.op_check.proofs.check_evidence.Goals as goal

pub returns-clause-result_value : goal.returns-clause-result_value
returns-clause-result_value c = sym (answered_check _) ∙ c.call.ensures.value ∙ check_said _ _ _
