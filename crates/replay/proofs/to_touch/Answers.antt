-- By what is looked up, then by whether it shares a corner, then by its walk.
use mathlib.Core.Path.{◌≡◌, sym, ◌∙◌}
use native.Mathlib.Omega.{arith}
use Rattle.std.proofs.Common.{Some, None}
use Rattle.std.proofs.lemmas.Result.{err_from_is_err_and}
use Rattle.limits.specs.declared.refusal.Refusal.TheVariants.{TrailStep}
use Rattle.theory.specs.StateGraph.{system_of}
use Rattle.replay.proofs.Regions.{look_to, look_shut}
use Rattle.replay.proofs.Steps.{touch_shut, touch_opens, touch_fails}
use Rattle.replay.proofs.to_touch.Goals as goal

pub returns-in_err-q : goal.returns-in_err-q
returns-in_err-q c =
    let none : c.look_up.result ≡ None = grind arith in
    let why : c.in_err-q.field-0.0 ≡ TrailStep = grind arith in
    let p = err_from_is_err_and c.from_residual.result c.from_residual.ensures.1 in
    rw (p.1, p.2, why) (sym (touch_shut _ _ _ _ _ (look_shut _ c.args.space.now.plan.now.lawful _ c.requires _ (sym c.look_up.ensures ∙ none))))

pub near-requires : goal.near-requires
near-requires c =
    let some : c.look_up.result ≡ Some c.in_ok-q.q = grind arith in
    (c.requires, (look_to _ c.args.space.now.plan.now.lawful _ c.requires _ _ (sym c.look_up.ensures ∙ some)).2)

pub returns-then-not-near : goal.returns-then-not-near
unfolding system_of
returns-then-not-near c =
    let some : c.look_up.result ≡ Some c.in_ok-q.q = grind arith in
    let (t, e, b) = look_to _ c.args.space.now.plan.now.lawful _ c.requires _ _ (sym c.look_up.ensures ∙ some) in
    touch_fails _ _ _ _ _ _ t e (sym c.near.ensures ∙ c.if-not-near.true)

pub closed_walk-requires : goal.closed_walk-requires
closed_walk-requires c =
    let some : c.look_up.result ≡ Some c.in_ok-q.q = grind arith in
    (look_to _ c.args.space.now.plan.now.lawful _ c.requires _ _ (sym c.look_up.ensures ∙ some)).2

pub returns : goal.returns
unfolding system_of
returns c =
    let some : c.look_up.result ≡ Some c.in_ok-q.q = grind arith in
    let (t, e, b) = look_to _ c.args.space.now.plan.now.lawful _ c.requires _ _ (sym c.look_up.ensures ∙ some) in
    c.closed_walk.ensures ∙ touch_opens _ _ _ _ _ _ t e (sym c.near.ensures ∙ c.if-not-near.false)
