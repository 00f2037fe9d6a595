-- `search::reach::Reached::take` meets its contract: a state that is not reached finds room in the queue.
use native.Mathlib.Omega.{arith}
use Rattle.search.proofs.Queue.{fits_room, takes_one}
use Rattle.search.proofs.reach.Reached.take.Goals as goal

pub offset_bounds-self-self : goal.offset_bounds-self-self
offset_bounds-self-self c =
    let p = c.requires in
    omega (arith, fits_room p.2 c.args.q p.1 c.if-self-q-eq0.true, p.2.limit)

pub bounds-self-self : goal.bounds-self-self
bounds-self-self c =
    let p = c.requires in
    omega (arith, fits_room p.2 c.args.q p.1 c.if-self-q-eq0.true, p.2.same)

pub overflow_add-self-then-self-q-eq0 : goal.overflow_add-self-then-self-q-eq0
overflow_add-self-then-self-q-eq0 c =
    let p = c.requires in
    omega (arith, fits_room p.2 c.args.q p.1 c.if-self-q-eq0.true, p.2.limit)

pub returns-then-self-q-eq0-clause-takes : goal.returns-then-self-q-eq0-clause-takes
returns-then-self-q-eq0-clause-takes c =
    let a = c.args in
    let p = c.requires in
    takes_one p.2 a.x a.q p.1 c.if-self-q-eq0.true
