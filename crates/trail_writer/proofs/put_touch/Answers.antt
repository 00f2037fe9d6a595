-- `trail_writer::trail::put_touch` meets its contract.
use mathlib.Core.Path.{sym, ◌∙◌}
use native.Mathlib.Omega.{arith}
use lib.Seq.{length-take-le}
use Rattle.spelling.proofs.Lays.{lays_then, lays_as}
use Rattle.theory.proofs.Rows.{holds_rows}
use Rattle.trail_writer.proofs.Moves.{size_few, count_few, nodes_below, touch_as, touch_room}
use Rattle.trail_writer.proofs.put_touch.Goals as goal

pub closed_walk-count-requires : goal.closed_walk-count-requires
closed_walk-count-requires c =
    let R = c.requires.0 in
    let long = R.level_long in (
      omega (arith, c.requires.1),
      omega (arith, size_few c.args.space.now.plan.now.model R.lawful),
      rw long (holds_rows R.flow.holds),
      R.queue_long ∙ sym long,
      R.walk_long ∙ sym long,
    )

pub put-a-requires : goal.put-a-requires
put-a-requires c =
    let m = c.args.space.now.plan.now.model in
    let q = c.args.q in
    let R = c.requires.0 in
    let ok = R.lawful in
    let o = c.requires.2 in
    let C = c.closed_walk-count.ensures in
    (omega arith, omega (arith, touch_room m ok q o R C c.args.at _ c.requires.3))

pub put_region-b-requires : goal.put_region-b-requires
put_region-b-requires c =
    let m = c.args.space.now.plan.now.model in
    let q = c.args.q in
    let R = c.requires.0 in
    let ok = R.lawful in
    let o = c.requires.2 in
    let C = c.closed_walk-count.ensures in
    (c.requires.1, omega (arith, touch_room m ok q o R C c.args.at _ c.requires.3, c.put-a.ensures.end))

pub overflow_cast-count : goal.overflow_cast-count
overflow_cast-count c =
    let m = c.args.space.now.plan.now.model in
    let q = c.args.q in
    let R = c.requires.0 in
    let ok = R.lawful in
    let o = c.requires.2 in
    let C = c.closed_walk-count.ensures in
    omega (arith, count_few m ok q o R C, size_few m ok)

pub put-c-requires : goal.put-c-requires
put-c-requires c =
    let m = c.args.space.now.plan.now.model in
    let q = c.args.q in
    let R = c.requires.0 in
    let ok = R.lawful in
    let o = c.requires.2 in
    let C = c.closed_walk-count.ensures in (
      omega (arith, count_few m ok q o R C, size_few m ok),
      omega (arith, touch_room m ok q o R C c.args.at _ c.requires.3, c.put-a.ensures.end, c.put_region-b.ensures.end),
    )

pub slice_bounds-put_walk-end : goal.slice_bounds-put_walk-end
slice_bounds-put_walk-end c =
    let m = c.args.space.now.plan.now.model in
    let q = c.args.q in
    let R = c.requires.0 in
    let ok = R.lawful in
    let o = c.requires.2 in
    let C = c.closed_walk-count.ensures in
    omega (arith, count_few m ok q o R C, R.walk_long, c.closed_walk-count.auto)

pub slice_bounds-put_walk-end-2 : goal.slice_bounds-put_walk-end-2
slice_bounds-put_walk-end-2 c =
    let m = c.args.space.now.plan.now.model in
    let q = c.args.q in
    let R = c.requires.0 in
    let ok = R.lawful in
    let o = c.requires.2 in
    let C = c.closed_walk-count.ensures in
    sym (length-take-le _ _ (omega (arith, count_few m ok q o R C, R.walk_long, c.closed_walk-count.auto)))

pub put_walk-requires : goal.put_walk-requires
put_walk-requires c =
    let m = c.args.space.now.plan.now.model in
    let q = c.args.q in
    let R = c.requires.0 in
    let ok = R.lawful in
    let o = c.requires.2 in
    let C = c.closed_walk-count.ensures in (
      c.requires.1,
      nodes_below m ok q o R C,
      omega (arith, touch_room m ok q o R C c.args.at _ c.requires.3, c.put-a.ensures.end, c.put_region-b.ensures.end, c.put-c.ensures.end),
    )

pub returns : goal.returns
returns c =
    let m = c.args.space.now.plan.now.model in
    let q = c.args.q in
    let R = c.requires.0 in
    let ok = R.lawful in
    let o = c.requires.2 in
    let C = c.closed_walk-count.ensures in
    lays_as
    (lays_then c.put-a.ensures (lays_then c.put_region-b.ensures (lays_then c.put-c.ensures c.put_walk.ensures)))
    (touch_as m ok q o R C)
