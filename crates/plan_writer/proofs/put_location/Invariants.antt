-- After x turns the kind and the first x stay fields are laid.
use mathlib.Core.List.{◌∷◌}
use lib.ListN.{get_or}
use Rattle.number.specs.Number.{spell_all}
use Rattle.spelling.specs.Lays.{Lays}
use Rattle.model.specs.Each.{gather}
use Rattle.parser.specs.Parse.{reading_of}
use Rattle.canonical.specs.Canonical.{stay_numbers}
use Rattle.plan_writer.proofs.put_location.Given as goal

abbrev pub invariant-loop-x : goal.invariant-loop-x
invariant-loop-x l =
    Lays l.fn.out l.out l.at l.end (spell_all (get_or l.plan.model.kind l.l 0 ∷ gather l.x (stay_numbers (reading_of l.plan) l.l)))
