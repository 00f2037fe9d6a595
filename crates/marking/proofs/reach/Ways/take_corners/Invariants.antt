-- `marking::reach::Ways::take_corners` meets its contract. The invariant: what is left are the corners from number k on.
use Prim.Native.Nat.{◌*◌}
use Rattle.shapes.specs.Layout.{corners_in}
use Rattle.search.specs.Held.{SameQueue}
use Rattle.search.proofs.Queue.{Partly}
use Rattle.marking.specs.Corners.{Touches, Visits}
use Rattle.marking.proofs.reach.Ways.take_corners.Given as goal

abbrev pub invariant-loop-k : goal.invariant-loop-k
invariant-loop-k l = Partly l.x (Touches (corners_in l.self.regions l.self.shapes.now) l.self.heights.now (l.location * l.self.regions) l.i 0) (Touches (corners_in l.self.regions l.self.shapes.now) l.self.heights.now (l.location * l.self.regions) l.i l.k)
    l.initial.reached.level.now l.reached.level.now l.initial.reached.queue.now l.reached.queue.now l.initial.reached.end l.reached.end
    × Visits l.self.regions (corners_in l.self.regions l.self.shapes.now) l.self.heights.now l.visited l.reached.level.now
    × SameQueue l.initial.reached l.reached
