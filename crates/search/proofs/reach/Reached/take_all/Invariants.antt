-- `search::reach::Reached::take_all` meets its contract. The invariant: what is left stands from this place on.
use lib.ListN.{length}
use Rattle.search.specs.Queue.{InList}
use Rattle.search.specs.Held.{SameQueue}
use Rattle.search.proofs.Queue.{Partly}
use Rattle.search.proofs.reach.Reached.take_all.Given as goal

abbrev pub invariant-loop-t : goal.invariant-loop-t
invariant-loop-t l = SameQueue l.initial.self l.self
    × Partly l.x (InList l.row l.base 0 (length l.row)) (InList l.row l.base l.t-index (length l.row))
    l.initial.self.level.now l.self.level.now l.initial.self.queue.now l.self.queue.now l.initial.self.end l.self.end
