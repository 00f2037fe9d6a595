-- `least_time::least` meets its contract. The invariant: the least time among the states passed.
use Prim.Native.Nat.{◌/◌}
use lib.ListN.{get_or}
use lib.Dec.{eqb}
use Rattle.search.specs.Lowest.{LeastDistance}
use Rattle.least_time.proofs.least.Given as goal

abbrev pub invariant-loop-p : goal.invariant-loop-p
invariant-loop-p l = LeastDistance (λ q. eqb (q / l.regions) l.location) (λ q. get_or l.level q 0) l.p l.best
