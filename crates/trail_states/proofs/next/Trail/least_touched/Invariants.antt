-- `trail_states::next::Trail::least_touched` meets its contract. The invariant: what is left stands at the corners from number k on.
use Prim.Native.Nat.{◌*◌, ◌<◌}
use lib.ListN.{length}
use Rattle.std.specs.Prelude.{unwrap_or, IfSome}
use Rattle.shapes.specs.Layout.{corners_in}
use Rattle.search.specs.Least.{At}
use Rattle.search.proofs.Scan.{Partly}
use Rattle.marking.specs.Corners.{Touches}
use Rattle.trail_states.proofs.next.Trail.least_touched.Given as goal

abbrev pub invariant-loop-k : goal.invariant-loop-k
invariant-loop-k l = Partly (At l.level l.y (Touches (corners_in l.self.ways.regions l.self.ways.shapes.now) l.self.ways.heights.now (l.location * l.self.ways.regions) l.i 0)) (At l.level l.y (Touches (corners_in l.self.ways.regions l.self.ways.shapes.now) l.self.ways.heights.now (l.location * l.self.ways.regions) l.i l.k))
    (unwrap_or l.fn.best (length l.level)) (unwrap_or l.low (length l.level))
    × IfSome l.low (λ b. b < length l.level)
