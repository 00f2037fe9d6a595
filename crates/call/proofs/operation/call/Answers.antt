-- `call::operation::call` meets its contract.
use mathlib.Core.Path.{sym}
use Rattle.call.proofs.Calls.{passed_answer, untouched, room, zero_left}
use Rattle.call.proofs.operation.call.Goals as goal

pub returns-in_err-a-clause-value : goal.returns-in_err-a-clause-value
returns-in_err-a-clause-value g c =
    passed_answer g.O.Operation.values _ c.in_err-a.field-0.0 c.from_residual.ensures.1 _ _ _ (sym c.in_err-a.ensures.refused)

pub returns-in_err-a-clause-left : goal.returns-in_err-a-clause-left
returns-in_err-a-clause-left g c =
    let s = c.args.s.now in
    untouched _ s.first.now s.second.now s.third.now s.fourth.now c.in_err-a.field-0.0 (sym c.in_err-a.ensures.refused)

pub run_front-requires-clause-first : goal.run_front-requires-clause-first
run_front-requires-clause-first g c =
    let s = c.args.s.now in
    let a = c.in_ok-a.ensures in
    (room _ s.first.now s.second.now s.third.now s.fourth.now (sym a.refused) _ a.admitted.states).0

pub run_front-requires-clause-second : goal.run_front-requires-clause-second
run_front-requires-clause-second g c =
    let s = c.args.s.now in
    let a = c.in_ok-a.ensures in
    (room _ s.first.now s.second.now s.third.now s.fourth.now (sym a.refused) _ a.admitted.states).1

pub run_front-requires-clause-third : goal.run_front-requires-clause-third
run_front-requires-clause-third g c =
    let s = c.args.s.now in
    let a = c.in_ok-a.ensures in
    (room _ s.first.now s.second.now s.third.now s.fourth.now (sym a.refused) _ a.admitted.states).2

pub run_front-requires-clause-fourth : goal.run_front-requires-clause-fourth
run_front-requires-clause-fourth g c =
    let s = c.args.s.now in
    let a = c.in_ok-a.ensures in
    (room _ s.first.now s.second.now s.third.now s.fourth.now (sym a.refused) _ a.admitted.states).3

pub returns-clause-left : goal.returns-clause-left
returns-clause-left g c =
    let s = c.args.s.now in
    let a = c.in_ok-a.ensures in
    let done = c.run_front.ensures in
    zero_left _ s.first.now s.second.now s.third.now s.fourth.now (sym a.refused) _ a.admitted.states _ _ _ _ done.first done.second done.third done.fourth
