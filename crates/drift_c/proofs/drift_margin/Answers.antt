-- `drift_c::drift_margin` meets its contract.
use mathlib.Core.Path.{ap, ◌∙◌}
use Rattle.c_words.specs.Words.{margin_word}
use Rattle.drift_c.proofs.Fields.{margin_fields}
use Rattle.drift_c.proofs.drift_margin.Goals as goal

pub margin_word-requires : goal.margin_word-requires
margin_word-requires c = rw c.margin-answer.ensures (margin_fields _)

pub returns : goal.returns
returns c = c.margin_word.ensures ∙ ap margin_word c.margin-answer.ensures
