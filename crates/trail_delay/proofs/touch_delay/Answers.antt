-- `trail_delay::touch_delay` meets its contract.
use lib.Seq.{length-take-le}
use native.Mathlib.Omega.{arith}
use mathlib.Core.Path.{sym, ◌∙◌}
use Rattle.theory.proofs.Rows.{holds_rows}
use Rattle.trail_writer.proofs.Moves.{size_few, count_few, nodes_below}
use Rattle.trail_delay.proofs.Delays.{rank_is, rank_few, walk_few, jumps_are, touch_delay}
use Rattle.trail_delay.proofs.touch_delay.Goals as goal

pub closed_walk-count-requires : goal.closed_walk-count-requires
closed_walk-count-requires c =
    let R = c.requires.0 in
    let long = R.level_long in (
      omega (arith, c.requires.1),
      omega (arith, size_few c.args.space.now.plan.now.model R.lawful),
      rw long (holds_rows R.flow.holds),
      R.queue_long ∙ sym long,
      R.walk_long ∙ sym long,
    )

pub slice_bounds-walk_jumps-end : goal.slice_bounds-walk_jumps-end
slice_bounds-walk_jumps-end c =
    let m = c.args.space.now.plan.now.model in
    let q = c.args.q in
    let R = c.requires.0 in
    let ok = R.lawful in
    let o = c.requires.2 in
    let C = c.closed_walk-count.ensures in
    omega (arith, count_few m ok q o R C, R.walk_long, c.closed_walk-count.auto)

pub slice_bounds-walk_jumps-end-2 : goal.slice_bounds-walk_jumps-end-2
slice_bounds-walk_jumps-end-2 c =
    let m = c.args.space.now.plan.now.model in
    let q = c.args.q in
    let R = c.requires.0 in
    let ok = R.lawful in
    let o = c.requires.2 in
    let C = c.closed_walk-count.ensures in
    sym (length-take-le _ _ (omega (arith, count_few m ok q o R C, R.walk_long, c.closed_walk-count.auto)))

pub walk_jumps-jumps-requires : goal.walk_jumps-jumps-requires
walk_jumps-jumps-requires c =
    let m = c.args.space.now.plan.now.model in
    let q = c.args.q in
    let R = c.requires.0 in
    let ok = R.lawful in
    let o = c.requires.2 in
    let C = c.closed_walk-count.ensures in
    (c.requires.1, nodes_below m ok q o R C)

pub turns-requires : goal.turns-requires
turns-requires c =
    let m = c.args.space.now.plan.now.model in
    let q = c.args.q in
    let R = c.requires.0 in
    let ok = R.lawful in
    let o = c.requires.2 in
    let C = c.closed_walk-count.ensures in
    let g = c.region_of-g in (
      omega (arith, c.top_rank.ensures, rank_few m ok q g.result g.ensures.0),
      omega (arith, c.walk_jumps-jumps.ensures.upper_bound, walk_few m ok q o R C),
    )

pub returns : goal.returns
returns c =
    let m = c.args.space.now.plan.now.model in
    let q = c.args.q in
    let R = c.requires.0 in
    let ok = R.lawful in
    let o = c.requires.2 in
    let C = c.closed_walk-count.ensures in
    let g = c.region_of-g in
    let d = c.turns.ensures in record {
      value = touch_delay m ok q _ _ _ _ d.base_value.0 d.base_value.1 (c.from.ensures ∙ c.top_rank.ensures ∙ rank_is m ok q g.result g.ensures.0 g.ensures.1)
          (c.walk_jumps-jumps.ensures.value ∙ jumps_are m ok q o R C);
      few_jumps = d.few_jumps;
    }
