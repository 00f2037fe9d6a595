-- `op_marks_joint::marks_joint` meets its contract.
use mathlib.Core.Path.{◌∙◌}
use Rattle.op_marks_joint.proofs.MarkedJoint.{joint_marks_said, joint_marks_left}
use Rattle.op_marks_joint.proofs.marks_joint.Goals as goal

pub returns-clause-result_value : goal.returns-clause-result_value
returns-clause-result_value c = c.call.ensures.value ∙ joint_marks_said _ _ _

pub returns-clause-out_after : goal.returns-clause-out_after
returns-clause-out_after c = c.call.ensures.out_after ∙ joint_marks_left _ _ _
