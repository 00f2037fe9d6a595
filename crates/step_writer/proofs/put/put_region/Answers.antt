-- All whole parts, then all ranks.
use native.Mathlib.Omega.{arith}
use Rattle.graph.proofs.States.{clocks_of}
use Rattle.spelling.proofs.Lays.{lays_then, lays_as}
use Rattle.step_writer.proofs.Written.{key_spelled, key-length}
use Rattle.step_writer.proofs.put.put_region.Goals as goal

pub put_numbers-end-requires : goal.put_numbers-end-requires
put_numbers-end-requires c =
    let plan = c.args.space.now.plan.now in
    let g = c.region_of-g in
    rw c.from-n.ensures (omega (arith, c.requires.1, key-length _ (clocks_of plan.model plan.lawful) g.result _ g.ensures.1))

pub put_numbers-requires : goal.put_numbers-requires
put_numbers-requires c =
    let plan = c.args.space.now.plan.now in
    let g = c.region_of-g in
    let first = rw c.from-n.ensures at c.put_numbers-end.ensures.end in
    rw c.from-n.ensures (omega (arith, first, c.requires.1, key-length _ (clocks_of plan.model plan.lawful) g.result _ g.ensures.1))

pub returns : goal.returns
returns c =
    let plan = c.args.space.now.plan.now in
    let g = c.region_of-g in
    lays_as (lays_then c.put_numbers-end.ensures c.put_numbers.ensures)
    (rw c.from-n.ensures (key_spelled _ (clocks_of plan.model plan.lawful) g.result _ g.ensures.1))
