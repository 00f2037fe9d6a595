-- `op_sheet_margin::sheet_margin` meets its contract.
use mathlib.Core.Path.{◌∙◌}
use Rattle.op_sheet_margin.proofs.Answered.{sheet_margin_said}
use Rattle.op_sheet_margin.proofs.sheet_margin.Goals as goal

pub returns-clause-result_value : goal.returns-clause-result_value
returns-clause-result_value c = c.call.ensures.value ∙ sheet_margin_said _ _
