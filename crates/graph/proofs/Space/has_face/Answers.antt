-- `has_face` meets its contract.
use mathlib.Core.Path.{◌∙◌}
use Rattle.graph.proofs.States.{small_of, face_of_lem, beside_in, beside_out}
use Rattle.theory.specs.Region.{face}
use Rattle.graph.proofs.Space.has_face.Goals as goal

pub has_face-requires : goal.has_face-requires
has_face-requires c =
    let s = c.args.self.now in (
      small_of s.plan.now.model s.plan.now.lawful c.region_of.result c.region_of.ensures.0,
      small_of s.plan.now.model s.plan.now.lawful c.region_of-then-together.result c.region_of-then-together.ensures.0,
    )

pub returns-then-together : goal.returns-then-together
returns-then-together c =
    let s = c.args.self.now in
    c.has_face.ensures
    ∙ face_of_lem s.plan.now.model s.plan.now.lawful c.args.p c.args.q c.region_of.result c.region_of-then-together.result
    c.region_of.ensures c.region_of-then-together.ensures
    ∙ beside_in s.plan.now.model s.plan.now.lawful c.args.p c.args.q c.together.result
    c.together.ensures face c.if-together.true

pub returns-else-together : goal.returns-else-together
returns-else-together c =
    let s = c.args.self.now in
    c.if-together.false
    ∙ beside_out s.plan.now.model s.plan.now.lawful c.args.p c.args.q c.together.result
    c.together.ensures face c.if-together.false
