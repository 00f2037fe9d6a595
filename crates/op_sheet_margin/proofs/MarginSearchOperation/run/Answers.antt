-- The margin past number 8.
use mathlib.Core.Path.{refl, ◌∙◌}
use Rattle.call.proofs.Calls.{told}
use Rattle.op_sheet_margin.proofs.Answered.{found_values}
use Rattle.op_sheet_margin.proofs.MarginSearchOperation.run.Goals as goal

pub returns-clause-value : goal.returns-clause-value
returns-clause-value c =
    told 0 _ _ refl (c.bound_of.ensures ∙ found_values c.args.plan.now.model _ _ c.requires.first c.find-found.ensures)
