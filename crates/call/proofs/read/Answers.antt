-- `call::read` meets its contract.
use mathlib.Core.Path.{ap, ◌∙◌}
use Rattle.parser.specs.Parse.{Reading}
use Rattle.call.proofs.Calls.{passed_number}
use Rattle.call.proofs.read.Goals as goal

pub returns-in_err-plan-clause-refused : goal.returns-in_err-plan-clause-refused
returns-in_err-plan-clause-refused c = passed_number _ _ c.from_residual.ensures.1 ∙ ap (λ (x : Reading). x.refusal) c.in_err-plan.ensures
