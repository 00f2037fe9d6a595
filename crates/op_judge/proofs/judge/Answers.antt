-- `op_judge::judge` meets its contract.
use mathlib.Core.Path.{◌∙◌}
use Rattle.op_judge.proofs.Judged.{judge_said}
use Rattle.op_judge.proofs.judge.Goals as goal

pub returns-clause-result_value : goal.returns-clause-result_value
returns-clause-result_value c = c.call.ensures.value ∙ judge_said _ _
