-- By where the label leads.
use mathlib.Core.Path.{◌∙◌}
use Rattle.step_writer.proofs.Least.{leads_is}
use Rattle.step_writer.proofs.label.leads_to.Goals as goal

pub returns : goal.returns
returns c = c.eq.ensures ∙ leads_is _ _ _ _ c.requires.0 _ c.step_by.ensures
