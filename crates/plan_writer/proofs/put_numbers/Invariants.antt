-- After i turns the first i are laid.
use Rattle.number.specs.Number.{spell_all}
use Rattle.spelling.specs.Lays.{Lays}
use Rattle.model.specs.Each.{gather}
use Rattle.plan_writer.proofs.Laid.{single}
use Rattle.plan_writer.proofs.put_numbers.Given as goal

abbrev pub invariant-loop-v : goal.invariant-loop-v
invariant-loop-v l = Lays l.fn.out l.out l.at l.end (spell_all (gather l.v-index (single l.values)))
