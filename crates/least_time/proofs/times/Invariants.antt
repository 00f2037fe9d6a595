-- `least_time::times` meets its contract. The invariant is `Searched`: the times below y are found. The measure: the states beyond place lo.
use Prim.Native.Nat.{◌-◌}
use Rattle.graph.specs.Plan.{labelled_of_model}
use Rattle.search.specs.Held.{SameQueue}
use Rattle.least_time.proofs.Searching.{Searched}
use Rattle.least_time.proofs.times.Given as goal

abbrev pub invariant-loop-lo : goal.invariant-loop-lo
invariant-loop-lo l = SameQueue l.initial.reached l.reached
    × Searched (labelled_of_model l.space.plan.now.model) l.y l.lo l.reached.end l.reached.level.now l.reached.queue.now

abbrev pub decreases-loop-lo : goal.decreases-loop-lo
decreases-loop-lo l = (labelled_of_model l.space.plan.now.model).system.size - l.lo
