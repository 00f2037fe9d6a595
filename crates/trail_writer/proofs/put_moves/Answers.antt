-- `trail_writer::put_moves` meets its contract. The invariant: what is laid goes with what is left of the path.
use Rattle.trail_writer.proofs.Moves.{going_first, going_done, moving_step, moving_next}
use Rattle.trail_writer.proofs.put_moves.Goals as goal

pub loop-q-init : goal.loop-q-init
loop-q-init c =
    let R = c.requires.0 in
    record { ready = R; going = going_first c.args.space.now.plan.now.model R.lawful c.requires.1; room = c.requires.3 }

pub put_move-end-requires : goal.put_move-end-requires
put_move-end-requires c =
    let loop = c.loop-q in
    let M = loop.invariant in
    let at = moving_step M _ c.loop-q-test.true c.from-q.ensures in
    (rw (loop.auto.level, loop.auto.queue, loop.auto.walk) M.ready, at.0, at.1, at.2, at.3)

pub loop-q-preserved : goal.loop-q-preserved
loop-q-preserved c = moving_next c.loop-q.invariant _ c.loop-q-test.true c.from-q.ensures c.put_move-end.ensures

pub returns : goal.returns
returns c =
    let M = c.loop-q.invariant in
    going_done c.args.space.now.plan.now.model M.ready.lawful M.going c.loop-q-test.false
