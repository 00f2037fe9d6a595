-- The steps left, from the state reached, lead where all of them lead.
use mathlib.Core.Path.{sym, ◌∙◌}
use Rattle.std.proofs.lemmas.Result.{err_from_is_err_and}
use Rattle.replay.specs.Trail.{walk_step}
use Rattle.replay.proofs.Walks.{run_more, run_stop, run_done}
use Rattle.replay.proofs.Replays.{walk_below}
use Rattle.replay.proofs.walk.replay_walk.Goals as goal

pub returns-in_err-s : goal.returns-in_err-s
returns-in_err-s c =
    let p = err_from_is_err_and c.from_residual.result c.from_residual.ensures.1 in
    rw (p.1, p.2) (sym (run_stop (walk_step _ _) _ _ _ _ _ c.loop-test.true (sym c.in_err-s.ensures)) ∙ c.loop.invariant.1)

pub loop-preserved : goal.loop-preserved
loop-preserved c =
    let e = sym c.in_ok-s.ensures in
    (walk_below _ _ _ _ _ _ e, sym (run_more (walk_step _ _) _ _ _ _ _ _ c.loop-test.true e) ∙ c.loop.invariant.1)

pub returns : goal.returns
returns c = sym (run_done (walk_step _ _) _ _ _ _ c.loop-test.false) ∙ c.loop.invariant.1
