-- `trail_delay::trail_delay` meets its contract. What is added so far goes with what is left of the path.
use native.Mathlib.Omega.{arith}
use Rattle.graph.proofs.States.{count_length}
use Rattle.trail_writer.proofs.Moves.{start_fits, start_is}
use Rattle.trail_delay.proofs.Delays.{summed_none, summed_step, summed_next, summed_all}
use Rattle.trail_delay.proofs.trail_delay.Goals as goal

pub overflow_mul-p : goal.overflow_mul-p
overflow_mul-p c = omega (arith, start_fits c.args.space.now.plan.now.model c.requires.0.lawful _ _ c.from.ensures (count_length c.args.space.now.plan.now.model c.requires.0.lawful _ c.requires.0.listed))

pub loop-q-init : goal.loop-q-init
loop-q-init c =
    let m = c.args.space.now.plan.now.model in
    let ok = c.requires.0.lawful in
    summed_none m ok _ _ c.requires.1 c.requires.2 (start_is m ok _ _ c.from.ensures (count_length c.args.space.now.plan.now.model c.requires.0.lawful _ c.requires.0.listed))

pub move_delay-delay-requires : goal.move_delay-delay-requires
move_delay-delay-requires c =
    let loop = c.loop-q in
    let R = c.requires.0 in
    let at = summed_step loop.invariant R.lawful _ c.loop-q-test.true c.from-q.ensures in
    (rw (loop.auto.level, loop.auto.queue, loop.auto.walk) R, at.0, at.1, at.2)

pub overflow_add-base : goal.overflow_add-base
overflow_add-base c =
    let M = c.loop-q.invariant in
    omega (arith, M.base_few, M.long, c.loop-q-test.true, c.move_delay-delay.ensures.few_jumps.base)

pub overflow_add-rate : goal.overflow_add-rate
overflow_add-rate c =
    let M = c.loop-q.invariant in
    omega (arith, M.rate_few, M.long, c.loop-q-test.true, c.move_delay-delay.ensures.few_jumps.rate)

pub loop-q-preserved : goal.loop-q-preserved
loop-q-preserved c =
    let made = c.move_delay-delay in
    summed_next c.loop-q.invariant c.requires.0.lawful _ c.loop-q-test.true c.from-q.ensures made.result made.ensures.value made.ensures.few_jumps

pub returns : goal.returns
returns c = summed_all c.loop-q.invariant c.loop-q-test.false
