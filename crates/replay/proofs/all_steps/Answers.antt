-- The steps left, from the state reached, lead where all of them lead.
use native.Mathlib.Nat.{sub-zero}
use mathlib.Core.Path.{sym, ◌∙◌}
use Rattle.std.proofs.lemmas.Result.{err_from_is_err_and}
use Rattle.replay.specs.Trail.{trail_step}
use Rattle.replay.proofs.Walks.{run_more, run_stop, run_done}
use Rattle.replay.proofs.Steps.{start_in}
use Rattle.replay.proofs.Replays.{step_below}
use Rattle.replay.proofs.all_steps.Goals as goal

pub loop-init : goal.loop-init
loop-init c = (start_in _ c.args.space.now.plan.now.lawful _ c.start-s.ensures, simp (c.start-s.ensures, sub-zero))

pub returns-in_err-s : goal.returns-in_err-s
returns-in_err-s c =
    let p = err_from_is_err_and c.from_residual.result c.from_residual.ensures.1 in
    rw (p.1, p.2) (sym (run_stop (trail_step _ _) _ _ _ _ _ c.loop-test.true (sym c.in_err-s.ensures)) ∙ c.loop.invariant.1)

pub loop-preserved : goal.loop-preserved
loop-preserved c =
    let e = sym c.in_ok-s.ensures in
    (step_below _ _ _ _ _ _ e, sym (run_more (trail_step _ _) _ _ _ _ _ _ c.loop-test.true e) ∙ c.loop.invariant.1)

pub returns : goal.returns
returns c = sym (run_done (trail_step _ _) _ _ _ _ c.loop-test.false) ∙ c.loop.invariant.1
