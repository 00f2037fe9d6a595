-- `marking::tally::fewest` meets its contract. The invariant: the least distance of a goal among the states passed.
use Prim.Native.Nat.{◌/◌}
use lib.ListN.{get_or}
use lib.Dec.{eqb}
use Rattle.search.specs.Lowest.{LeastDistance}
use Rattle.marking.proofs.tally.fewest.Given as goal

abbrev pub invariant-loop-p : goal.invariant-loop-p
invariant-loop-p l = LeastDistance (λ y. eqb (get_or l.kind (y / l.regions) 0) 1) (λ y. get_or l.distance y 0) l.p l.best
