-- `op_write_joint::write_joint` meets its contract.
use mathlib.Core.Path.{sym, ◌∙◌}
use Rattle.op_write.proofs.Write.{answered_written}
use Rattle.op_write_joint.proofs.WrittenJoint.{joint_write_said, joint_write_left}
use Rattle.op_write_joint.proofs.write_joint.Goals as goal

pub returns-clause-result_value : goal.returns-clause-result_value
returns-clause-result_value c = sym (answered_written c.call.result) ∙ c.call.ensures.value ∙ joint_write_said _ _ _

pub returns-clause-out_after : goal.returns-clause-out_after
returns-clause-out_after c = c.call.ensures.out_after ∙ joint_write_left _ _ _
