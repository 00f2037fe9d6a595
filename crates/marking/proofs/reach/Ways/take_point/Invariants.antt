-- `marking::reach::Ways::take_point` meets its contract. The invariant: what is left stands on the chain from `next`, whose slots fall.
use Prim.Native.Nat.{◌*◌}
use Rattle.shapes.specs.Layout.{corners_in, links_in}
use Rattle.search.specs.Held.{SameQueue}
use Rattle.search.proofs.Queue.{Partly}
use Rattle.marking.specs.Corners.{AtPoint}
use Rattle.marking.proofs.Corners.{PointAt, AmongSlots}
use Rattle.marking.proofs.reach.Ways.take_point.Given as goal

abbrev pub invariant-loop-next : goal.invariant-loop-next
invariant-loop-next l = (C : PointAt (corners_in l.self.regions l.self.shapes.now) (links_in l.self.regions l.self.shapes.now) l.v l.next)
    × Partly l.x (AtPoint (corners_in l.self.regions l.self.shapes.now) l.self.heights.now (l.location * l.self.regions) l.v) (AmongSlots l.self.heights.now C.rest (l.location * l.self.regions))
    l.initial.reached.level.now l.reached.level.now l.initial.reached.queue.now l.reached.queue.now l.initial.reached.end l.reached.end
    × SameQueue l.initial.reached l.reached

abbrev pub decreases-loop-next : goal.decreases-loop-next
decreases-loop-next l = l.next
