-- What was read is replayed: a region as it is kept does for the one that is spelled (`Steps`).
use mathlib.Core.Path.{◌∙◌}
use Rattle.std.proofs.lemmas.Result.{err_from_is_err_and}
use Rattle.graph.proofs.States.{clocks_of}
use Rattle.replay.proofs.Steps.{step_stops, step_goes}
use Rattle.replay.proofs.one_step.Goals as goal

pub read_step-requires : goal.read_step-requires
read_step-requires c = clocks_of _ c.args.space.now.plan.now.lawful

pub returns-in_err-step : goal.returns-in_err-step
returns-in_err-step c =
    let p = err_from_is_err_and c.from_residual.result c.from_residual.ensures.1 in
    rw (p.1, p.2) (step_stops _ c.args.space.now.plan.now.lawful _ _ _ _ c.in_err-step.ensures)

pub returns : goal.returns
returns c = c.advance.ensures ∙ step_goes _ c.args.space.now.plan.now.lawful _ _ _ _ _ c.in_ok-step.ensures
