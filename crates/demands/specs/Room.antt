-- Request (h) of 02: what is said of the calls that are lent the room told.
use Rattle.std.specs.Prelude.{List, ℕ}
use Rattle.op_judge.specs.Judge.{judged}
use Rattle.op_marks.specs.Marks.{marked}
use Rattle.op_check.specs.Check.{check_answer}
use Rattle.op_write.specs.Write.{write_answer}
use Rattle.op_judge_joint.specs.JudgeJoint.{joint_judged}
use Rattle.op_marks_joint.specs.MarksJoint.{joint_marked}
use Rattle.op_write_joint.specs.WriteJoint.{joint_write_answer}
use Rattle.op_soonest.specs.Sounding.{soonest_answer}
use Rattle.op_sheet_margin.specs.SheetMargin.{sheet_margin_answer}
use Rattle.op_harm.specs.Harm.{harm_answer}

-- every call that is lent scratch, of these lengths: what holds of the number that it returns, whatever else it is given
pub record EachCall (P : ℕ → Type 0) (bytes lent : List ℕ) : Type 0 where
  pub judge : P (judged bytes lent).number
  pub marks : (room : ℕ) → P (marked bytes lent room).number
  pub check : (shown : List ℕ) → P (check_answer bytes shown lent).number
  pub write : (room : ℕ) → P (write_answer bytes lent room).number
  pub judge_joint : P (joint_judged bytes lent).number
  pub marks_joint : (room : ℕ) → P (joint_marked bytes lent room).number
  pub write_joint : (room : ℕ) → P (joint_write_answer bytes lent room).number
  pub soonest : (l : ℕ) → P (soonest_answer bytes l lent).number
  pub sheet_margin : P (sheet_margin_answer bytes lent).number
  pub harm : P (harm_answer bytes lent).number
