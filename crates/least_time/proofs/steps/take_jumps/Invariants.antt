-- `least_time::steps::take_jumps` meets its contract. The invariant: what is left is led to by the edges from e on.
use Rattle.search.specs.Queue.{Between}
use Rattle.search.specs.Held.{SameQueue}
use Rattle.search.proofs.Queue.{Partly}
use Rattle.least_time.proofs.Leading.{JumpsTo}
use Rattle.least_time.proofs.steps.take_jumps.Given as goal

abbrev pub invariant-loop-e : goal.invariant-loop-e
invariant-loop-e l = SameQueue l.initial.reached l.reached
    × Partly l.y (Between 0 l.space.plan.now.model.edges (JumpsTo l.space.plan.now.model l.p)) (Between l.e l.space.plan.now.model.edges (JumpsTo l.space.plan.now.model l.p))
    l.initial.reached.level.now l.reached.level.now l.initial.reached.queue.now l.reached.queue.now l.initial.reached.end l.reached.end
