-- `drift_c::drift_next_number` meets its contract.
use mathlib.Core.Path.{ap, ◌∙◌}
use Rattle.c_words.specs.Words.{number_word}
use Rattle.drift_c.proofs.Fields.{small_value}
use Rattle.drift_c.proofs.drift_next_number.Goals as goal

pub number_word-requires : goal.number_word-requires
number_word-requires c = rw c.read_spelled-answer.ensures (small_value _ _)

pub returns : goal.returns
returns c = c.number_word.ensures ∙ ap number_word c.read_spelled-answer.ensures
