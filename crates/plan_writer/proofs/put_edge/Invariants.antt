-- After x turns the ends and the first x guards are laid.
use mathlib.Core.List.{◌∷◌}
use lib.ListN.{get_or}
use Rattle.number.specs.Number.{spell_all}
use Rattle.spelling.specs.Lays.{Lays}
use Rattle.model.specs.Each.{gather}
use Rattle.parser.specs.Parse.{reading_of}
use Rattle.canonical.specs.Canonical.{guard_numbers}
use Rattle.plan_writer.proofs.put_edge.Given as goal

abbrev pub invariant-loop-x : goal.invariant-loop-x
invariant-loop-x l =
    Lays l.fn.out l.out l.at l.end
    (spell_all (get_or l.plan.model.source l.e 0 ∷ get_or l.plan.model.target l.e 0 ∷ get_or l.plan.model.reset l.e 0 ∷ gather l.x (guard_numbers (reading_of l.plan) l.e)))
