-- `successors::put_rows` meets its contract. The invariant: the rows of the first i regions are put.
use lib.ListN.{length}
use mathlib.Core.Path.{◌∙◌}
use native.Mathlib.Omega.{arith}
use Rattle.successors.proofs.Filling.{room_left, rows_turn, rows_end, taken_more}
use Rattle.successors.proofs.Room.{states_limit, steps_limit}
use Rattle.successors.proofs.Flags.{table_below}
use Rattle.successors.specs.Flow.{room}
use Rattle.successors.proofs.Sources.put_rows.Goals as goal

pub put_row-end-requires : goal.put_row-end-requires
put_row-end-requires c =
    let s = c.args.self.now in
    let o = c.loop-i in
    let q = c.loop-i-test.true in
    (c.requires.0, q, omega (arith, room_left s.given c.requires.0 q o.invariant.0, o.invariant.1, c.requires.2))

pub overflow_cast-first : goal.overflow_cast-first
overflow_cast-first c =
    let s = c.args.self.now in
    let o = c.loop-i in
    omega (
      arith,
      room_left s.given c.requires.0 c.loop-i-test.true o.invariant.0,
      c.put_row-end.ensures.most,
      steps_limit s.given.lawful,
    )

pub offset_bounds-first-base : goal.offset_bounds-first-base
offset_bounds-first-base c =
    let s = c.args.self.now in
    let o = c.loop-i in
    omega (arith, table_below s.given.lawful s.given.listed c.args.l o.i c.requires.0.location c.loop-i-test.true, states_limit s.given.lawful)

pub bounds-first-base : goal.bounds-first-base
bounds-first-base c =
    let s = c.args.self.now in
    let o = c.loop-i in
    omega (arith, table_below s.given.lawful s.given.listed c.args.l o.i c.requires.0.location c.loop-i-test.true, o.invariant.2.long)

pub loop-i-preserved : goal.loop-i-preserved
loop-i-preserved c =
    let s = c.args.self.now in
    let o = c.loop-i in
    let r = c.put_row-end.ensures in (
      taken_more o.i (room s.space.plan.now.model c.args.l) (length c.args.edges.now) o.invariant.0 r.most,
      r.long ∙ o.invariant.1,
      rows_turn s.given c.requires.0 c.loop-i-test.true o.invariant.2 r,
    )

pub returns : goal.returns
returns c =
    let s = c.args.self.now in
    let o = c.loop-i.invariant in
    let (a, b) = rows_end s.given c.requires.0 (omega arith) o.0 o.2 in
    (a, o.1, b)
