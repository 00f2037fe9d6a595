-- `drift_c::drift_room` meets its contract.
use mathlib.Core.Path.{ap, ◌∙◌}
use Rattle.c_words.specs.Words.{room_word}
use Rattle.drift_c.proofs.Fields.{room_fields}
use Rattle.drift_c.proofs.drift_room.Goals as goal

pub room_word-requires : goal.room_word-requires
room_word-requires c = rw c.room-answer.ensures (room_fields _)

pub returns : goal.returns
returns c = c.room_word.ensures ∙ ap room_word c.room-answer.ensures
