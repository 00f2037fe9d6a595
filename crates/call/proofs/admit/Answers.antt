-- `call::admit` meets its contract.
use mathlib.Core.Path.{sym, ap, ◌∙◌}
use mathlib.Core.Bool.{Bool, cond}
use Rattle.call.proofs.Calls.{passed_number, refused_as, measured_as}
use Rattle.call.proofs.admit.Goals as goal

pub returns-in_err-a-clause-refused : goal.returns-in_err-a-clause-refused
returns-in_err-a-clause-refused c =
    passed_number _ _ c.from_residual.ensures.1 ∙ sym (refused_as _ _ c.in_err-a.field-0.0 c.in_err-a.ensures.refused)

pub returns-then-is_enough-clause-refused : goal.returns-then-is_enough-clause-refused
returns-then-is_enough-clause-refused c =
    sym (measured_as _ _ c.in_ok-a.ensures.refused _ c.in_ok-a.ensures.admitted.states
    ∙ ap (λ (b : Bool). cond b 0 8) (sym c.is_enough.ensures ∙ c.if-is_enough.true))

pub returns-clause-refused : goal.returns-clause-refused
returns-clause-refused c =
    sym (measured_as _ _ c.in_ok-a.ensures.refused _ c.in_ok-a.ensures.admitted.states
    ∙ ap (λ (b : Bool). cond b 0 8) (sym c.is_enough.ensures ∙ c.if-is_enough.false))
