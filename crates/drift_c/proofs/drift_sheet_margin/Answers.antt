-- `drift_c::drift_sheet_margin` meets its contract.
use mathlib.Core.Path.{ap, ◌∙◌}
use Rattle.c_words.specs.Words.{judge_word}
use Rattle.drift_c.proofs.Fields.{bound_fields}
use Rattle.drift_c.proofs.drift_sheet_margin.Goals as goal

pub bound_word-requires : goal.bound_word-requires
bound_word-requires c = rw c.sheet_margin-answer.ensures.result_value (bound_fields _ _)

pub returns : goal.returns
returns c =
    record {
      value = c.bound_word.ensures ∙ ap judge_word c.sheet_margin-answer.ensures.result_value;
      scratch_left = c.sheet_margin-answer.ensures.scratch_left;
    }
