-- By what is looked up, then by whether it is a face.
use mathlib.Core.Path.{◌≡◌, sym, ◌∙◌}
use native.Mathlib.Omega.{arith}
use Rattle.std.proofs.Common.{Some, None}
use Rattle.std.proofs.lemmas.Result.{err_from_is_err_and}
use Rattle.limits.specs.declared.refusal.Refusal.TheVariants.{TrailStep}
use Rattle.theory.specs.StateGraph.{system_of}
use Rattle.replay.proofs.Regions.{look_to, look_shut}
use Rattle.replay.proofs.Steps.{face_shut, face_opens, face_fails}
use Rattle.replay.proofs.to_face.Goals as goal

pub returns-in_err-q : goal.returns-in_err-q
returns-in_err-q c =
    let none : c.look_up.result ≡ None = grind arith in
    let why : c.in_err-q.field-0.0 ≡ TrailStep = grind arith in
    let p = err_from_is_err_and c.from_residual.result c.from_residual.ensures.1 in
    rw (p.1, p.2, why) (sym (face_shut _ _ _ _ (look_shut _ c.args.space.now.plan.now.lawful _ c.requires _ (sym c.look_up.ensures ∙ none))))

pub has_face-requires : goal.has_face-requires
has_face-requires c =
    let some : c.look_up.result ≡ Some c.in_ok-q.q = grind arith in
    (c.requires, (look_to _ c.args.space.now.plan.now.lawful _ c.requires _ _ (sym c.look_up.ensures ∙ some)).2)

pub returns-then-not-has_face : goal.returns-then-not-has_face
unfolding system_of
returns-then-not-has_face c =
    let some : c.look_up.result ≡ Some c.in_ok-q.q = grind arith in
    let (t, e, b) = look_to _ c.args.space.now.plan.now.lawful _ c.requires _ _ (sym c.look_up.ensures ∙ some) in
    face_fails _ _ _ _ _ t e (sym c.has_face.ensures ∙ c.if-not-has_face.true)

pub returns : goal.returns
unfolding system_of
returns c =
    let some : c.look_up.result ≡ Some c.in_ok-q.q = grind arith in
    let (t, e, b) = look_to _ c.args.space.now.plan.now.lawful _ c.requires _ _ (sym c.look_up.ensures ∙ some) in
    face_opens _ _ _ _ _ t e (sym c.has_face.ensures ∙ c.if-not-has_face.false)
