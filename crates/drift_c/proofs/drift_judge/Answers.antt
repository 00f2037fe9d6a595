-- `drift_c::drift_judge` meets its contract.
use mathlib.Core.Path.{ap, ◌∙◌}
use Rattle.c_words.specs.Words.{judge_word}
use Rattle.drift_c.proofs.Fields.{judge_fields}
use Rattle.drift_c.proofs.drift_judge.Goals as goal

pub judge_word-requires : goal.judge_word-requires
judge_word-requires c = rw c.judge-answer.ensures.result_value (judge_fields _ _)

pub returns : goal.returns
returns c =
    record {
      value = c.judge_word.ensures ∙ ap judge_word c.judge-answer.ensures.result_value;
      scratch_left = c.judge-answer.ensures.scratch_left;
    }
