-- `search::spread::round` meets its contract. The invariant: what is left is led to from place i of the queue on; the places before stay.
use Rattle.search.specs.Queue.{LeadsFrom}
use Rattle.search.specs.Held.{SameQueue}
use Rattle.search.proofs.Queue.{Partly}
use Rattle.search.proofs.spread.round.Given as goal

abbrev pub invariant-loop-i : goal.invariant-loop-i
invariant-loop-i g l = SameQueue l.initial.reached l.reached
    × g.S.Spread.agrees l.steps l.marks l.reached.level.now
    × Partly l.x (LeadsFrom (g.S.Spread.leads l.steps) l.initial.reached.queue.now l.lo l.initial.reached.end) (LeadsFrom (g.S.Spread.leads l.steps) l.initial.reached.queue.now l.i l.initial.reached.end)
    l.initial.reached.level.now l.reached.level.now l.initial.reached.queue.now l.reached.queue.now l.initial.reached.end l.reached.end
