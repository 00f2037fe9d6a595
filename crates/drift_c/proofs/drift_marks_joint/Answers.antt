-- `drift_c::drift_marks_joint` meets its contract.
use mathlib.Core.Path.{ap, ◌∙◌}
use Rattle.c_words.specs.Words.{count_word}
use Rattle.drift_c.proofs.Fields.{marks_joint_fields}
use Rattle.drift_c.proofs.drift_marks_joint.Goals as goal

pub marks_word-requires : goal.marks_word-requires
marks_word-requires c = rw c.marks_joint-answer.ensures.result_value (marks_joint_fields _ _ _)

pub returns : goal.returns
returns c =
    record {
      value = c.marks_word.ensures ∙ ap count_word c.marks_joint-answer.ensures.result_value;
      out_after = c.marks_joint-answer.ensures.out_after;
      scratch_left = c.marks_joint-answer.ensures.scratch_left;
    }
