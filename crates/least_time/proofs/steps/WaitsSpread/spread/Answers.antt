-- Units of waiting as a relation.
use native.Mathlib.Omega.{arith}
use mathlib.Core.Path.{sym, ◌∙◌}
use Rattle.search.proofs.Queue.{takes_same}
use Rattle.graph.proofs.Numbers.{next_to}
use Rattle.least_time.proofs.Leading.{unit↔}
use Rattle.least_time.proofs.steps.WaitsSpread.spread.Goals as goal

pub unit_step-requires : goal.unit_step-requires
unit_step-requires c = omega (arith, c.requires.states.1, c.requires.marks)

pub take_next-requires : goal.take_next-requires
take_next-requires c =
    let m = c.args.self.now.space.now.plan.now.model in
    (c.requires.states.0, λ q e. omega (arith, (next_to m _ q (sym c.unit_step.ensures ∙ e)).1, c.requires.marks), c.requires.states.2)

pub returns : goal.returns
returns c =
    let m = c.args.self.now.space.now.plan.now.model in
    let u = c.unit_step.ensures in
    let t = c.take_next.ensures in
    record {
      takes = takes_same t.takes (λ q d. (unit↔ m c.args.p q).0 (sym u ∙ d)) (λ q d. u ∙ (unit↔ m c.args.p q).1 d);
      same = t.same;
      marks = t.takes.takes.long ∙ c.requires.marks;
    }
