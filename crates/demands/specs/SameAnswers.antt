-- Bytes that no operation tells apart, whatever is lent.
use Rattle.std.specs.Prelude.{◌≡◌, List, ℕ}
use Rattle.call.specs.Scratch.{left}
use Rattle.op_judge.specs.Judge.{judged}
use Rattle.op_marks.specs.Marks.{marked, output}
use Rattle.op_check.specs.Check.{check_answer}
use Rattle.op_write.specs.Write.{write_answer, write_output}
use Rattle.op_judge_joint.specs.JudgeJoint.{joint_judged}
use Rattle.op_marks_joint.specs.MarksJoint.{joint_marked, joint_output}
use Rattle.op_write_joint.specs.WriteJoint.{joint_write_answer, joint_write_output}
use Rattle.op_plan.specs.Plan.{plan_answer, plan_output}
use Rattle.op_margin.specs.Margin.{margin_answer}
use Rattle.op_room.specs.Room.{room_answer}
use Rattle.op_sheet_margin.specs.SheetMargin.{sheet_margin_answer}
use Rattle.op_harm.specs.Harm.{harm_answer}
use Rattle.op_soonest.specs.Sounding.{soonest_answer}

-- as models these bytes give the same verdict, marks, evidence, check, margins, room, times and scratch: all that the timing decides
pub record SameTimed (bs cs : List ℕ) : Type 0 where
  pub judge : (lent : List ℕ) → judged bs lent ≡ judged cs lent
  pub marks : (lent : List ℕ) (room : ℕ) → marked bs lent room ≡ marked cs lent room
  pub marks_output : (lent out : List ℕ) → output bs lent out ≡ output cs lent out
  pub check : (evidence lent : List ℕ) → check_answer bs evidence lent ≡ check_answer cs evidence lent
  pub write : (lent : List ℕ) (room : ℕ) → write_answer bs lent room ≡ write_answer cs lent room
  pub write_output : (lent out : List ℕ) → write_output bs lent out ≡ write_output cs lent out
  pub judge_joint : (lent : List ℕ) → joint_judged bs lent ≡ joint_judged cs lent
  pub marks_joint : (lent : List ℕ) (room : ℕ) → joint_marked bs lent room ≡ joint_marked cs lent room
  pub marks_joint_output : (lent out : List ℕ) → joint_output bs lent out ≡ joint_output cs lent out
  pub write_joint : (lent : List ℕ) (room : ℕ) → joint_write_answer bs lent room ≡ joint_write_answer cs lent room
  pub write_joint_output : (lent out : List ℕ) → joint_write_output bs lent out ≡ joint_write_output cs lent out
  pub margin : margin_answer bs ≡ margin_answer cs
  pub room : room_answer bs ≡ room_answer cs
  pub sheet_margin : (lent : List ℕ) → sheet_margin_answer bs lent ≡ sheet_margin_answer cs lent
  pub harm : (lent : List ℕ) → harm_answer bs lent ≡ harm_answer cs lent
  pub soonest : (l : ℕ) (lent : List ℕ) → soonest_answer bs l lent ≡ soonest_answer cs l lent
  pub scratch : (lent xs : List ℕ) → left bs lent xs ≡ left cs lent xs

-- and the same shortest form
pub record SameAnswers (bs cs : List ℕ) : Type 0 where
  pub timed : SameTimed bs cs
  pub plan : (room : ℕ) → plan_answer bs room ≡ plan_answer cs room
  pub plan_output : (out : List ℕ) → plan_output bs out ≡ plan_output cs out
