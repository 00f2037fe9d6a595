-- `drift_c::drift_write_evidence` meets its contract.
use mathlib.Core.Path.{ap, ◌∙◌}
use Rattle.c_words.specs.Words.{write_word}
use Rattle.drift_c.proofs.Fields.{write_room}
use Rattle.drift_c.proofs.drift_write_evidence.Goals as goal

pub write_word-requires : goal.write_word-requires
write_word-requires c = rw c.write_evidence-answer.ensures.result_value (write_room _ _ _)

pub returns : goal.returns
returns c =
    record {
      value = c.write_word.ensures ∙ ap write_word c.write_evidence-answer.ensures.result_value;
      out_after = c.write_evidence-answer.ensures.out_after;
      scratch_left = c.write_evidence-answer.ensures.scratch_left;
    }
