-- The end of the steps left is the end of all; a label leads on, within the bytes.
use native.Mathlib.Omega.{arith}
use mathlib.Core.Path.{sym, ap, ◌∙◌}
use Rattle.trail_numbers.specs.Numbers.{numbered_label}
use Rattle.replay.proofs.Walks.{label_within, end_more, end_stop, end_done}
use Rattle.replay.proofs.walk.steps_end.Goals as goal

pub returns-in_default-clause-value : goal.returns-in_default-clause-value
returns-in_default-clause-value c =
    sym (end_stop _ _ _ _ _ c.loop-test.true (sym c.read_label.ensures ∙ ap numbered_label c.in_default.is)) ∙ c.loop.invariant.2

pub loop-preserved : goal.loop-preserved
loop-preserved c =
    let e = sym c.read_label.ensures ∙ ap numbered_label c.in-Ok.is in
    let (a, b) = label_within _ _ _ _ e in
    (omega (arith, c.loop.invariant.0), b, sym (end_more _ _ _ _ _ _ c.loop-test.true e) ∙ c.loop.invariant.2)

pub returns-clause-value : goal.returns-clause-value
returns-clause-value c = sym (end_done _ _ _ _ c.loop-test.false) ∙ c.loop.invariant.2
