-- `near` meets its contract.
use mathlib.Core.Path.{◌∙◌}
use Rattle.graph.proofs.States.{small_of, shares_of, beside_in, beside_out}
use Rattle.theory.specs.Region.{shares}
use Rattle.graph.proofs.Space.near.Goals as goal

pub shares_corner-requires : goal.shares_corner-requires
shares_corner-requires c =
    let s = c.args.self.now in (
      small_of s.plan.now.model s.plan.now.lawful c.region_of.result c.region_of.ensures.0,
      small_of s.plan.now.model s.plan.now.lawful c.region_of-then-together.result c.region_of-then-together.ensures.0,
    )

pub returns-then-together : goal.returns-then-together
returns-then-together c =
    let s = c.args.self.now in
    c.shares_corner.ensures
    ∙ shares_of s.plan.now.model s.plan.now.lawful c.args.p c.args.q c.region_of.result c.region_of-then-together.result
    c.region_of.ensures c.region_of-then-together.ensures
    ∙ beside_in s.plan.now.model s.plan.now.lawful c.args.p c.args.q c.together.result
    c.together.ensures shares c.if-together.true

pub returns-else-together : goal.returns-else-together
returns-else-together c =
    let s = c.args.self.now in
    c.if-together.false
    ∙ beside_out s.plan.now.model s.plan.now.lawful c.args.p c.args.q c.together.result
    c.together.ensures shares c.if-together.false
