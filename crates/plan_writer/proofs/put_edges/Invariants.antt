-- After e turns the first e are laid.
use Rattle.number.specs.Number.{spell_all}
use Rattle.spelling.specs.Lays.{Lays}
use Rattle.model.specs.Each.{gather}
use Rattle.parser.specs.Parse.{reading_of}
use Rattle.canonical.specs.Canonical.{edge_numbers}
use Rattle.plan_writer.proofs.put_edges.Given as goal

abbrev pub invariant-loop-e : goal.invariant-loop-e
invariant-loop-e l = Lays l.fn.out l.out l.at l.end (spell_all (gather l.e (edge_numbers (reading_of l.plan))))
