-- `drift_c::drift_check_evidence` meets its contract.
use mathlib.Core.Path.{ap, ◌∙◌}
use Rattle.c_words.specs.Words.{check_word}
use Rattle.drift_c.proofs.drift_check_evidence.Goals as goal

pub returns : goal.returns
returns c =
    record {
      value = c.check_word.ensures ∙ ap check_word c.check_evidence-answer.ensures.result_value;
      scratch_left = c.check_evidence-answer.ensures.scratch_left;
    }
