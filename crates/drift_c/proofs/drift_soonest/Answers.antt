-- `drift_c::drift_soonest` meets its contract.
use mathlib.Core.Path.{ap, ◌∙◌}
use Rattle.c_words.specs.Words.{count_word}
use Rattle.drift_c.proofs.Fields.{soonest_fields}
use Rattle.drift_c.proofs.drift_soonest.Goals as goal

pub time_word-requires : goal.time_word-requires
time_word-requires c = rw c.soonest-answer.ensures.result_value (soonest_fields _ _ _)

pub returns : goal.returns
returns c =
    record {
      value = c.time_word.ensures ∙ ap count_word c.soonest-answer.ensures.result_value;
      scratch_left = c.soonest-answer.ensures.scratch_left;
    }
