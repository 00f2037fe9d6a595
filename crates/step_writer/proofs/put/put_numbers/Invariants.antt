-- As many numbers are laid as are passed.
use lib.ListN.{take}
use Rattle.number.specs.Number.{spell_all}
use Rattle.spelling.specs.Lays.{Lays}
use Rattle.step_writer.proofs.put.put_numbers.Given as goal

abbrev pub invariant-loop-v : goal.invariant-loop-v
invariant-loop-v l = Lays l.initial.out l.out l.at l.end (spell_all (take l.v-index l.numbers))
