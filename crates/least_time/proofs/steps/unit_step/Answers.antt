-- `least_time::steps::unit_step` meets its contract.
use mathlib.Core.Path.{◌≡◌, sym, ◌∙◌}
use Rattle.std.specs.Prelude.{None}
use Rattle.std.proofs.Common.{rules}
use Rattle.least_time.proofs.Leading.{unit_none, unit_some}
use Rattle.least_time.proofs.steps.unit_step.Goals as goal

pub returns-in_err-half : goal.returns-in_err-half
returns-in_err-half c = let e = unit_none c.args.space.now.plan.now.model c.args.p (sym c.time_step.ensures ∙ c.in_err-half.was) in let r : c.from_residual.result ≡ None = search rules in r ∙ e

pub returns : goal.returns
returns c =
    unit_some c.args.space.now.plan.now.model c.args.p c.in_ok-half.half c.time_step-2.result
    (sym c.time_step.ensures ∙ c.in_ok-half.was) c.time_step-2.ensures
