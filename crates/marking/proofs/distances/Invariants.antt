-- `marking::distances` meets its contract. The invariant is `Searched`: the distances below x are found. The measure: the states beyond place lo.
use Prim.Native.Nat.{◌-◌}
use Rattle.search.specs.Held.{SameQueue}
use Rattle.search.specs.Rounds.{Searched}
use Rattle.marking.specs.Along.{leads_by, Agreed}
use Rattle.marking.proofs.distances.Given as goal

abbrev pub invariant-loop-lo : goal.invariant-loop-lo
invariant-loop-lo l = SameQueue l.initial.reached l.reached
    × Agreed l.ways l.visited l.reached.level.now
    × Searched (leads_by l.ways) l.start l.x l.lo l.reached.end l.reached.level.now l.reached.queue.now

abbrev pub decreases-loop-lo : goal.decreases-loop-lo
decreases-loop-lo l = l.ways.steps.nodes - l.lo
