-- `drift_c::drift_write_joint` meets its contract.
use mathlib.Core.Path.{ap, ◌∙◌}
use Rattle.c_words.specs.Words.{write_word}
use Rattle.drift_c.proofs.Fields.{write_joint_room}
use Rattle.drift_c.proofs.drift_write_joint.Goals as goal

pub write_word-requires : goal.write_word-requires
write_word-requires c = rw c.write_joint-answer.ensures.result_value (write_joint_room _ _ _)

pub returns : goal.returns
returns c =
    record {
      value = c.write_word.ensures ∙ ap write_word c.write_joint-answer.ensures.result_value;
      out_after = c.write_joint-answer.ensures.out_after;
      scratch_left = c.write_joint-answer.ensures.scratch_left;
    }
