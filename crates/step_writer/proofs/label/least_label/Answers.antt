-- No label passed so far leads there.
use mathlib.Core.Path.{refl, sym, ◌∙◌}
use native.Mathlib.Omega.{arith}
use Rattle.step_writer.proofs.Least.{least_found, least_missing}
use Rattle.step_writer.proofs.label.least_label.Goals as goal

pub returns-then-leads_to-clause-value : goal.returns-then-leads_to-clause-value
returns-then-leads_to-clause-value c =
    least_found _ _ _ 0 (omega arith) (sym c.leads_to.ensures ∙ c.if-leads_to.true) (λ j h. absurd (omega arith))

pub returns-then-leads_to-2-clause-value : goal.returns-then-leads_to-2-clause-value
returns-then-leads_to-2-clause-value c =
    least_found _ _ _ _ (omega (arith, c.from-e-end.ensures)) (sym c.leads_to-in-loop-e.ensures ∙ c.if-leads_to-2.true) c.loop-e.invariant

pub returns-clause-value : goal.returns-clause-value
returns-clause-value c = least_missing _ _ _ _ refl (λ j h. c.loop-e.invariant j (omega (arith, c.from-e-end.ensures)))
