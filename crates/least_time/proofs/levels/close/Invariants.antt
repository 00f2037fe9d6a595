-- `least_time::levels::close` meets its contract. The invariant is `Closing`: the places below i have their jumps reached.
use Prim.Native.Nat.{◌-◌}
use lib.ListN.{length}
use Rattle.graph.specs.Plan.{labelled_of_model}
use Rattle.search.specs.Held.{SameQueue}
use Rattle.least_time.proofs.Searching.{Closing}
use Rattle.least_time.proofs.levels.close.Given as goal

abbrev pub invariant-loop-i : goal.invariant-loop-i
invariant-loop-i l = SameQueue l.initial.reached l.reached
    × Closing (labelled_of_model l.space.plan.now.model) l.y l.lo l.initial.reached.level.now l.reached.level.now l.initial.reached.queue.now l.reached.queue.now l.initial.reached.end l.reached.end l.i

abbrev pub decreases-loop-i : goal.decreases-loop-i
decreases-loop-i l = length l.initial.reached.level.now - l.i
