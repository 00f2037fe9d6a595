-- `drift_c::drift_write_plan` meets its contract.
use mathlib.Core.Path.{ap, ◌∙◌}
use Rattle.c_words.specs.Words.{count_word}
use Rattle.drift_c.proofs.Fields.{plan_room}
use Rattle.drift_c.proofs.drift_write_plan.Goals as goal

pub stored_word-requires : goal.stored_word-requires
stored_word-requires c = rw c.write_plan-answer.ensures.result_value (plan_room _ _)

pub returns : goal.returns
returns c =
    record {
      value = c.stored_word.ensures ∙ ap count_word c.write_plan-answer.ensures.result_value;
      out_after = c.write_plan-answer.ensures.out_after;
    }
