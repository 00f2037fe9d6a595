-- `successors::put_row` meets its contract. The invariant: the jumps along the first k of the edges are put.
use native.Mathlib.Omega.{arith}
use Rattle.successors.proofs.Filling.{flag_in, time_room, row_none, allowed_here, edge_below, edge_here, jumps_turn, row_end}
use Rattle.successors.proofs.Flags.{packed_below}
use Rattle.successors.proofs.Sources.put_row.Goals as goal

pub bounds-self-base : goal.bounds-self-base
bounds-self-base c = let s = c.args.self.now in flag_in s.given c.requires.0.location c.requires.1

pub returns-then-self-base-eq0 : goal.returns-then-self-base-eq0
returns-then-self-base-eq0 c = let s = c.args.self.now in row_none s.given c.requires.0.location c.requires.1 c.args.edges.now c.args.targets.now c.args.n c.if-self-base-eq0.true

pub unpack-g-requires : goal.unpack-g-requires
unpack-g-requires c = let s = c.args.self.now in packed_below s.given.lawful s.given.listed c.args.i c.requires.1

pub put_time-end-requires : goal.put_time-end-requires
put_time-end-requires c =
    let s = c.args.self.now in
    let (a, b, d) = time_room s.given c.requires.0.location c.requires.1 in
    (a, b, omega (arith, c.requires.2))

pub put_jump-end-requires : goal.put_jump-end-requires
put_jump-end-requires c =
    let s = c.args.self.now in
    let o = c.loop-e in
    let a = allowed_here s.given c.requires.0.location c.requires.1 c.unpack-g.ensures c.if-self-base-eq0.false in
    let t = c.put_time-end.ensures in (
      edge_below s.given c.requires.0 a c.loop-e-test.true c.from.ensures,
      edge_here s.given c.requires.0 a c.loop-e-test.true c.from.ensures,
      omega (arith, o.invariant.most, o.invariant.long, t.most, t.long, c.requires.2),
    )

pub loop-e-preserved : goal.loop-e-preserved
loop-e-preserved c =
    let s = c.args.self.now in
    let a = allowed_here s.given c.requires.0.location c.requires.1 c.unpack-g.ensures c.if-self-base-eq0.false in
    jumps_turn s.given c.requires.0 a c.loop-e-test.true c.from.ensures c.loop-e.invariant c.put_jump-end.ensures

pub returns : goal.returns
returns c =
    let s = c.args.self.now in
    let a = allowed_here s.given c.requires.0.location c.requires.1 c.unpack-g.ensures c.if-self-base-eq0.false in
    row_end s.given c.requires.0 a (omega arith) c.put_time-end.ensures c.loop-e.invariant
