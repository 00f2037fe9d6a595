-- `evidence_writer::write_trail` meets its contract.
use native.Mathlib.Omega.{arith}
use mathlib.Core.Path.{ap, ◌∙◌}
use lib.ListN.{length}
use Rattle.spelling.proofs.Lays.{none_lent}
use Rattle.evidence_writer.proofs.Output.{trail_goes, trail_is, measured, laid_in, left_out}
use Rattle.evidence_writer.proofs.write_trail.Goals as goal

pub put_trail-need-requires : goal.put_trail-need-requires
put_trail-need-requires c =
    let goes = trail_goes c.args.touch c.args.space.now.plan.now.model c.requires.0.lawful c.requires.1 c.args.path.now c.requires.2 in
    (c.requires.0, goes.0, goes.1)

pub put_trail-requires : goal.put_trail-requires
put_trail-requires c =
    let R = c.requires.0 in
    let goes = trail_goes c.args.touch c.args.space.now.plan.now.model R.lawful c.requires.1 c.args.path.now c.requires.2 in
    let kept = c.put_trail-need.auto in (
      record {
        lawful = R.lawful;
        listed = R.listed;
        flow = R.flow;
        level_long = kept.level ∙ R.level_long;
        queue_long = kept.queue ∙ R.queue_long;
        walk_long = kept.walk ∙ R.walk_long;
      },
      goes.0,
      goes.1,
    )

pub returns-then-need-out : goal.returns-then-need-out
returns-then-need-out c =
    let m = c.args.space.now.plan.now.model in
    let touch = c.args.touch in
    let is = trail_is touch m c.requires.0.lawful c.requires.1 c.args.path.now c.requires.2 in
    let measure = c.put_trail-need.ensures in
    let kept = none_lent c.put_trail-need.new.out c.args.out.now measure.long in
    (measured touch m is measure, laid_in touch m is kept c.put_trail.ensures (omega (arith, c.if-need-out.true, measured touch m is measure, measured touch m is c.put_trail.ensures, ap length kept)))

pub returns-else-need-out : goal.returns-else-need-out
returns-else-need-out c =
    let m = c.args.space.now.plan.now.model in
    let touch = c.args.touch in
    let is = trail_is touch m c.requires.0.lawful c.requires.1 c.args.path.now c.requires.2 in
    let measure = c.put_trail-need.ensures in
    let kept = none_lent c.put_trail-need.new.out c.args.out.now measure.long in
    (measured touch m is measure, left_out touch m kept (measured touch m is measure) (omega (arith, c.if-need-out.false, ap length kept)))
