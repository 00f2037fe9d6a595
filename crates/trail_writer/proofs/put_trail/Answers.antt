-- `trail_writer::trail::put_trail` meets its contract.
use native.Mathlib.Omega.{arith}
use Rattle.graph.proofs.States.{count_length}
use Rattle.spelling.proofs.Lays.{lays_then, lays_as}
use Rattle.trail_writer.proofs.Moves.{size_few, start_fits, start_is, trail_room, trail_as}
use Rattle.trail_writer.proofs.put_trail.Goals as goal

pub overflow_mul-start : goal.overflow_mul-start
overflow_mul-start c = omega (arith, start_fits c.args.space.now.plan.now.model c.requires.0.lawful _ _ c.from.ensures (count_length c.args.space.now.plan.now.model c.requires.0.lawful _ c.requires.0.listed))

pub put-a-requires : goal.put-a-requires
put-a-requires c =
    let m = c.args.space.now.plan.now.model in
    let R = c.requires.0 in
    let ok = R.lawful in
    let few = c.requires.2 in
    (omega arith, omega (arith, trail_room m ok c.args.path.now few))

pub overflow_cast-path : goal.overflow_cast-path
overflow_cast-path c =
    let m = c.args.space.now.plan.now.model in
    let R = c.requires.0 in
    let ok = R.lawful in
    let few = c.requires.2 in
    omega (arith, few, size_few m ok)

pub put-b-requires : goal.put-b-requires
put-b-requires c =
    let m = c.args.space.now.plan.now.model in
    let R = c.requires.0 in
    let ok = R.lawful in
    let few = c.requires.2 in (
      omega (arith, few, size_few m ok),
      omega (arith, trail_room m ok c.args.path.now few, c.put-a.ensures.end),
    )

pub put_moves-requires : goal.put_moves-requires
put_moves-requires c =
    let m = c.args.space.now.plan.now.model in
    let R = c.requires.0 in
    let ok = R.lawful in
    let few = c.requires.2 in
    let first = start_is m ok _ _ c.from.ensures (count_length c.args.space.now.plan.now.model c.requires.0.lawful _ c.requires.0.listed) in (
      R,
      rw first c.requires.1,
      few,
      rw first (omega (arith, trail_room m ok c.args.path.now few, c.put-a.ensures.end, c.put-b.ensures.end)),
    )

pub returns : goal.returns
returns c =
    let m = c.args.space.now.plan.now.model in
    let R = c.requires.0 in
    let ok = R.lawful in
    let first = start_is m ok _ _ c.from.ensures (count_length c.args.space.now.plan.now.model c.requires.0.lawful _ c.requires.0.listed) in
    lays_as (lays_then c.put-a.ensures (lays_then c.put-b.ensures c.put_moves.ensures))
    (trail_as m ok _ _ first)
