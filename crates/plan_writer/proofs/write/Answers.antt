-- What is laid into enough room fills the output.
use native.Mathlib.Omega.{arith}
use mathlib.Core.Path.{refl, ap}
use lib.ListN.{length}
use Rattle.parser.specs.Parse.{reading_of}
use Rattle.canonical.specs.Canonical.{shortest_plan}
use Rattle.spelling.proofs.Lays.{none_lent, fills}
use Rattle.plan_writer.proofs.write.Goals as goal

pub returns-then-need-out-clause-out_after : goal.returns-then-need-out-clause-out_after
returns-then-need-out-clause-out_after c =
    let measure = c.put_plan-need.ensures in
    let kept = none_lent c.put_plan-need.new.out c.args.out.now measure.long in
    fills (shortest_plan (reading_of c.args.plan.now)) refl kept c.put_plan.ensures
    (omega (arith, c.if-need-out.true, measure.end, c.put_plan.ensures.end, ap length kept))
