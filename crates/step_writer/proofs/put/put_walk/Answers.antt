-- Laid so far are the labels up to state p; the rest are those from p through the states that are left.
use mathlib.Core.Path.{ap}
use lib.ListN.{length}
use native.Mathlib.Omega.{arith}
use Rattle.number.specs.Number.{spell_all}
use Rattle.replay.specs.Spelling.{label_numbers}
use Rattle.spelling.proofs.Lays.{lays_as}
use Rattle.step_writer.proofs.Least.{least_few}
use Rattle.step_writer.proofs.Written.{walked_none, walked_fits, walked_more, walked_all}
use Rattle.step_writer.proofs.put.put_walk.Goals as goal

pub loop-s-init : goal.loop-s-init
loop-s-init c = (c.requires.0, walked_none _ _ _ _ _)

pub walk_label-requires : goal.walk_label-requires
walk_label-requires c =
    (c.loop-s.invariant.0, omega (arith, c.from-s.ensures, c.requires.1 c.loop-s.s-index c.loop-s-test.true))

pub put_label-end-requires : goal.put_label-end-requires
put_label-end-requires c =
    let fits = walked_fits _ _ _ _ _ _ _ _ _ c.loop-s.invariant.1 _ c.loop-s-test.true c.from-s.ensures in (
      omega (arith, c.walk_label.ensures, least_few c.args.space.now.plan.now.model c.loop-s.p c.from-s.result c.args.space.now.plan.now.lawful),
      omega (arith, fits, c.requires.2, ap (λ x. length (spell_all (label_numbers x))) c.walk_label.ensures),
    )

pub loop-s-preserved : goal.loop-s-preserved
loop-s-preserved c = (
  omega (arith, c.from-s.ensures, c.requires.1 c.loop-s.s-index c.loop-s-test.true),
  walked_more _ _ _ _ _ _ _ _ _ c.loop-s.invariant.1 _ c.loop-s-test.true c.from-s.ensures _ _
      (lays_as c.put_label-end.ensures (ap (λ x. spell_all (label_numbers x)) c.walk_label.ensures)),
)

pub returns : goal.returns
returns c = walked_all _ _ _ _ _ _ _ _ _ c.loop-s.invariant.1 c.loop-s-test.false
