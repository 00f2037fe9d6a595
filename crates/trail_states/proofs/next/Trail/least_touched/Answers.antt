-- `trail_states::next::Trail::least_touched` meets its contract. The invariant: what is left stands at the corners from number k on.
use Prim.Native.Nat.{◌+◌, ◌*◌, ◌<◌}
use native.Mathlib.Omega.{arith}
use Rattle.limits.specs.Limits.{slot_count}
use Rattle.search.proofs.Scan.{between_turn}
use Rattle.marking.proofs.Corners.{slot_point, slot_point_below}
use Rattle.trail_states.proofs.next.Trail.least_touched.Goals as goal

pub least_point-low-requires : goal.least_point-low-requires
least_point-low-requires c =
    let p = c.requires in
    let b : slot_count * c.args.i + c.loop-k.k < slot_count * c.args.self.now.ways.regions = omega arith in
    (p.0, slot_point_below p.2 c.corners_at-corners.ensures b c.from-v.ensures, p.2, c.loop-k.invariant.1)

pub loop-k-preserved : goal.loop-k-preserved
loop-k-preserved c =
    let i = c.loop-k.invariant in
    let p = c.requires in
    let b : slot_count * c.args.i + c.loop-k.k < slot_count * c.args.self.now.ways.regions = omega arith in
    (between_turn i.0 (omega arith) (omega arith) (rw (slot_point p.2 c.corners_at-corners.ensures b c.from-v.ensures) at c.least_point-low.ensures.is), c.least_point-low.ensures.below)
