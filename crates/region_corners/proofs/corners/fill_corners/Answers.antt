-- `corners::fill_corners` meets its contract. The invariant: the slots of the regions passed hold their corners.
use native.Mathlib.Omega.{arith}
use Rattle.region_table.proofs.Listed.{listed_length, listed_below}
use Rattle.region_corners.proofs.Numbers.{at_listed, at_small}
use Rattle.region_corners.proofs.Slots.{placed_next, placed_end}
use Rattle.region_corners.proofs.corners.fill_corners.Goals as goal

pub unpack-requires : goal.unpack-requires
unpack-requires c =
    listed_below c.args.n c.args.ceiling c.requires.0 c.requires.1 c.args.table.now c.requires.2 c.loop-i.i
    (omega arith)

pub put_corners-requires : goal.put_corners-requires
put_corners-requires c =
    let l = c.loop-i in
    let p = c.requires in
    let A = at_listed p.0 p.1 p.2 l.i (omega arith) c.unpack.ensures in
    (at_small p.0 p.1 A, omega (arith, l.invariant.long, A.below))

pub loop-i-preserved : goal.loop-i-preserved
loop-i-preserved c =
    let l = c.loop-i in
    let p = c.requires in
    placed_next l.invariant (at_listed p.0 p.1 p.2 l.i (omega arith) c.unpack.ensures)
    c.put_corners.ensures

pub returns : goal.returns
returns c =
    placed_end c.requires.0 c.requires.1 c.loop-i.invariant
    (omega (arith, listed_length c.args.n c.args.ceiling c.requires.0 c.requires.1 c.args.table.now c.requires.2))
