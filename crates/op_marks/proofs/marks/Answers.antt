-- `op_marks::marks` meets its contract.
use mathlib.Core.Path.{◌∙◌}
use Rattle.op_marks.proofs.Marked.{marks_said, marks_left}
use Rattle.op_marks.proofs.marks.Goals as goal

pub returns-clause-result_value : goal.returns-clause-result_value
returns-clause-result_value c = c.call.ensures.value ∙ marks_said _ _ _

pub returns-clause-out_after : goal.returns-clause-out_after
returns-clause-out_after c = c.call.ensures.out_after ∙ marks_left _ _ _
