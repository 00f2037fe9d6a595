-- `trail_delay::walk_jumps` meets its contract. The jumps so far go with those from p through the states that are left.
use native.Mathlib.Omega.{arith}
use mathlib.Core.Path.{ap, ◌∙◌}
use Rattle.theory.specs.Labels.{label_kind}
use Rattle.trail_delay.proofs.Jumps.{counted_none, counted_next, counted_all}
use Rattle.trail_delay.proofs.walk_jumps.Goals as goal

pub loop-q-init : goal.loop-q-init
loop-q-init c = (c.requires.0, counted_none _ _ _)

pub walk_label-requires : goal.walk_label-requires
walk_label-requires c =
    (c.loop-q.invariant.0, omega (arith, c.from-q.ensures, c.requires.1 c.loop-q.q-index c.loop-q-test.true))

pub overflow_add-jumps : goal.overflow_add-jumps
overflow_add-jumps c = omega (arith, c.loop-q.invariant.1.few, c.label_jumps-jumps.ensures.upper_bound)

pub loop-q-preserved : goal.loop-q-preserved
loop-q-preserved c = (
  omega (arith, c.from-q.ensures, c.requires.1 c.loop-q.q-index c.loop-q-test.true),
  counted_next c.loop-q.invariant.1 _ _ c.loop-q-test.true c.from-q.ensures
      (c.label_jumps-jumps.ensures.value ∙ ap label_kind c.walk_label.ensures) c.label_jumps-jumps.ensures.upper_bound,
)

pub returns : goal.returns
returns c =
    let C = c.loop-q.invariant.1 in
    record { value = counted_all C c.loop-q-test.false; upper_bound = omega (arith, C.few) }
