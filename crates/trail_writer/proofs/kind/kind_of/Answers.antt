-- `kind::kind_of` meets its contract.
use mathlib.Core.Path.{sym, ◌∙◌}
use native.Mathlib.Omega.{arith}
use Rattle.trail_writer.proofs.Moves.{flow_is, face_is, face_to_is, touch_is, touched}
use Rattle.trail_writer.proofs.kind.kind_of.Goals as goal

pub returns-in-Some-clause-value : goal.returns-in-Some-clause-value
returns-in-Some-clause-value c =
    let plan = c.args.space.now.plan.now in
    sym (flow_is plan.model plan.lawful c.args.p c.args.q _ c.in-Some.ensures.value c.in-Some.ensures.few)

pub returns-then-has_face-clause-value : goal.returns-then-has_face-clause-value
returns-then-has_face-clause-value c =
    let plan = c.args.space.now.plan.now in
    sym (face_to_is plan.model plan.lawful c.args.p c.args.q (omega (arith, c.in_default.ensures.value))
    (sym (face_is plan.model plan.lawful c.args.p c.args.q) ∙ (sym c.has_face.ensures ∙ c.if-has_face.true)))

pub returns-clause-value : goal.returns-clause-value
returns-clause-value c =
    let plan = c.args.space.now.plan.now in
    sym (touch_is plan.model plan.lawful c.args.p c.args.q (omega (arith, c.in_default.ensures.value))
    (sym (face_is plan.model plan.lawful c.args.p c.args.q) ∙ (sym c.has_face.ensures ∙ c.if-has_face.false)))

pub returns-clause-sound : goal.returns-clause-sound
returns-clause-sound c =
    let plan = c.args.space.now.plan.now in
    touched plan.model plan.lawful c.args.p c.args.q (omega (arith, c.in_default.ensures.value)) c.requires.2
    (sym (face_is plan.model plan.lawful c.args.p c.args.q) ∙ (sym c.has_face.ensures ∙ c.if-has_face.false))
