-- `op_write::write_evidence` meets its contract.
use mathlib.Core.Path.{sym, ◌∙◌}
use Rattle.op_write.proofs.Write.{answered_written, write_said, write_left}
use Rattle.op_write.proofs.write_evidence.Goals as goal

pub returns-clause-result_value : goal.returns-clause-result_value
returns-clause-result_value c = sym (answered_written c.call.result) ∙ c.call.ensures.value ∙ write_said _ _ _

pub returns-clause-out_after : goal.returns-clause-out_after
returns-clause-out_after c = c.call.ensures.out_after ∙ write_left _ _ _
