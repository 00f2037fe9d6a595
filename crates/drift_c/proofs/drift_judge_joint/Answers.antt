-- `drift_c::drift_judge_joint` meets its contract.
use mathlib.Core.Path.{ap, ◌∙◌}
use Rattle.c_words.specs.Words.{judge_word}
use Rattle.drift_c.proofs.Fields.{judge_joint_fields}
use Rattle.drift_c.proofs.drift_judge_joint.Goals as goal

pub judge_word-requires : goal.judge_word-requires
judge_word-requires c = rw c.judge_joint-answer.ensures.result_value (judge_joint_fields _ _)

pub returns : goal.returns
returns c =
    record {
      value = c.judge_word.ensures ∙ ap judge_word c.judge_joint-answer.ensures.result_value;
      scratch_left = c.judge_joint-answer.ensures.scratch_left;
    }
