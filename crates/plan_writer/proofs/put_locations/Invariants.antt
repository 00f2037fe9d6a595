-- After l turns the first l are laid.
use Rattle.number.specs.Number.{spell_all}
use Rattle.spelling.specs.Lays.{Lays}
use Rattle.model.specs.Each.{gather}
use Rattle.parser.specs.Parse.{reading_of}
use Rattle.canonical.specs.Canonical.{stay_numbers, location_numbers}
use Rattle.plan_writer.proofs.put_locations.Given as goal

abbrev pub invariant-loop-l : goal.invariant-loop-l
invariant-loop-l l =
    Lays l.fn.out l.out l.at l.end (spell_all (gather l.l (location_numbers (stay_numbers (reading_of l.plan)) (reading_of l.plan))))
