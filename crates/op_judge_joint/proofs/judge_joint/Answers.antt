-- `op_judge_joint::judge_joint` meets its contract.
use mathlib.Core.Path.{◌∙◌}
use Rattle.op_judge_joint.proofs.JudgedJoint.{joint_said}
use Rattle.op_judge_joint.proofs.judge_joint.Goals as goal

pub returns-clause-result_value : goal.returns-clause-result_value
returns-clause-result_value c = c.call.ensures.value ∙ joint_said _ _
