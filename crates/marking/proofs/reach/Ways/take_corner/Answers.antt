-- `marking::reach::Ways::take_corner` meets its contract: the chain of a point is followed, or its flag says that this was done before.
use Prim.Native.Nat.{◌+◌, ◌*◌, ◌<◌}
use native.Mathlib.Omega.{arith}
use lib.ListN.{get_or}
use Rattle.limits.specs.Limits.{point_count}
use Rattle.search.proofs.Queue.{takes_none}
use Rattle.marking.proofs.Corners.{slot_point, slot_point_below, flag_old, flag_new, flag_below}
use Rattle.marking.proofs.reach.Ways.take_corner.Goals as goal

pub bounds-visited-spot : goal.bounds-visited-spot
bounds-visited-spot c =
    let p = c.requires in
    let a = c.args in
    let v = slot_point_below p.2.tables c.corners_at-corners.ensures p.1 c.from-v.ensures in
    omega (arith, flag_below p.2 a.location c.from-v.result p.0 v)

pub bounds-visited-spot-then-visited-spot-eq0 : goal.bounds-visited-spot-then-visited-spot-eq0
bounds-visited-spot-then-visited-spot-eq0 c =
    let p = c.requires in
    let a = c.args in
    let v = slot_point_below p.2.tables c.corners_at-corners.ensures p.1 c.from-v.ensures in
    omega (arith, flag_below p.2 a.location c.from-v.result p.0 v)

pub take_point-requires : goal.take_point-requires
take_point-requires c =
    let p = c.requires in
    (p.2.small, p.0, slot_point_below p.2.tables c.corners_at-corners.ensures p.1 c.from-v.ensures, p.2.tables, p.2.fits)

pub returns-then-visited-spot-eq0-clause-takes : goal.returns-then-visited-spot-eq0-clause-takes
returns-then-visited-spot-eq0-clause-takes c =
    let p = c.requires in
    let a = c.args in
    let T = p.2.tables in
    let e = slot_point T c.corners_at-corners.ensures p.1 c.from-v.ensures in
    let v = slot_point_below T c.corners_at-corners.ensures p.1 c.from-v.ensures in
    record { all = rw e at c.take_point.ensures.takes; visits = flag_new a.location c.from-v.result v p.2.visits c.take_point.ensures.takes }

pub returns-else-visited-spot-eq0-clause-takes : goal.returns-else-visited-spot-eq0-clause-takes
returns-else-visited-spot-eq0-clause-takes c =
    let p = c.requires in
    let a = c.args in
    let T = p.2.tables in
    let e = slot_point T c.corners_at-corners.ensures p.1 c.from-v.ensures in
    let v = slot_point_below T c.corners_at-corners.ensures p.1 c.from-v.ensures in
    let h : 0 < get_or a.visited.now (a.location * point_count + c.from-v.result) 0 = omega arith in
    record { all = record { takes = takes_none p.2.fits; covers = rw e at (flag_old a.location c.from-v.result v p.2.visits h) }; visits = p.2.visits }
