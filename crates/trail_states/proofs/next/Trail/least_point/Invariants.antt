-- `trail_states::next::Trail::least_point` meets its contract. The invariant: what is left stands on the chain from `next`, whose slots fall.
use Prim.Native.Nat.{◌*◌, ◌<◌}
use lib.ListN.{length}
use Rattle.std.specs.Prelude.{unwrap_or, IfSome}
use Rattle.shapes.specs.Layout.{corners_in, links_in}
use Rattle.search.specs.Least.{At}
use Rattle.search.proofs.Scan.{Partly}
use Rattle.marking.specs.Corners.{AtPoint}
use Rattle.marking.proofs.Corners.{PointAt, AmongSlots}
use Rattle.trail_states.proofs.next.Trail.least_point.Given as goal

abbrev pub invariant-loop-next : goal.invariant-loop-next
invariant-loop-next l = (C : PointAt (corners_in l.self.ways.regions l.self.ways.shapes.now) (links_in l.self.ways.regions l.self.ways.shapes.now) l.v l.next)
    × Partly (At l.level l.y (AtPoint (corners_in l.self.ways.regions l.self.ways.shapes.now) l.self.ways.heights.now (l.location * l.self.ways.regions) l.v)) (At l.level l.y (AmongSlots l.self.ways.heights.now C.rest (l.location * l.self.ways.regions)))
    (unwrap_or l.fn.best (length l.level)) (unwrap_or l.low (length l.level))
    × IfSome l.low (λ b. b < length l.level)

abbrev pub decreases-loop-next : goal.decreases-loop-next
decreases-loop-next l = l.next
