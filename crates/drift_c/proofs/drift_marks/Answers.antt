-- `drift_c::drift_marks` meets its contract.
use mathlib.Core.Path.{ap, ◌∙◌}
use Rattle.c_words.specs.Words.{count_word}
use Rattle.drift_c.proofs.Fields.{marks_fields}
use Rattle.drift_c.proofs.drift_marks.Goals as goal

pub marks_word-requires : goal.marks_word-requires
marks_word-requires c = rw c.marks-answer.ensures.result_value (marks_fields _ _ _)

pub returns : goal.returns
returns c =
    record {
      value = c.marks_word.ensures ∙ ap count_word c.marks-answer.ensures.result_value;
      out_after = c.marks-answer.ensures.out_after;
      scratch_left = c.marks-answer.ensures.scratch_left;
    }
