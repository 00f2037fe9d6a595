-- What the quicker judge says, from what it says past number 8.
use Prim.Native.Nat.{ℕ}
use mathlib.Core.Path.{◌≡◌, refl}
use mathlib.Core.Bool.{true, false}
use mathlib.Core.List.{List}
use Rattle.std.specs.Prelude.{Err}
use Rattle.theory.specs.WithoutTouch.{without_touch}
use Rattle.limits.specs.declared.refusal.Refusal.TheVariants.{NotJoint}
use Rattle.number.specs.Answer.{answer}
use Rattle.model.specs.declared.Model.{Model}
use Rattle.edge_walks.specs.Joint.{lacks_joint_reset}
use Rattle.graph.specs.Plan.{system_of_model}
use Rattle.call.specs.Admitted.{called}
use Rattle.call.specs.Call.{model_of}
use Rattle.call.specs.Joint.{disjoint, joint_refusal}
use Rattle.call.proofs.Calls.{called_answer}
use Rattle.op_judge.specs.Judge.{verdict, judgement_answer, judge_says}
use Rattle.op_judge_joint.specs.JudgeJoint.{joint_judged}

-- a plan in which a closed walk that counts has no joint reset is refused by 17
pub answer_disjoint : (m : Model) → lacks_joint_reset m ≡ true
    → judgement_answer (Err NotJoint) ≡ answer (disjoint m) (verdict (without_touch (system_of_model m)))
unfolding answer
answer_disjoint m t = simp t refl

pub joint_said : (bytes lent : List ℕ) → called (judge_says false (model_of bytes)) bytes lent ≡ joint_judged bytes lent
unfolding judge_says joint_judged joint_refusal
joint_said bytes lent = called_answer bytes lent _ _
