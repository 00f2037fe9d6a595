-- The check past number 8.
use mathlib.Core.Path.{ap, ◌∙◌}
use Rattle.op_check.specs.Check.{evidence_answer}
use Rattle.op_check.proofs.Check.{answered_check}
use Rattle.op_check.proofs.CheckingOperation.run.Goals as goal

pub returns-clause-value : goal.returns-clause-value
returns-clause-value c = answered_check _ ∙ ap evidence_answer c.check.ensures
