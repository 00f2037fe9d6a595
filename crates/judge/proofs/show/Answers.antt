-- What three prints write is what they write one after the other, or a front of it where one fails.
use Rattle.std.proofs.Common.{◌≡◌, ℕ, List, [], ◌∷◌, ◌++◌, Result, Ok, IsErr, codes, refl, sym, subst, ap, ◌∙◌}
use Rattle.std.specs.declared.option.Option.{Option}
use Rattle.std.specs.Io.KnownBytes.{Appends}
use Rattle.std.proofs.KnownBytes.{Appends-trans}
use Rattle.limits.specs.declared.refusal.Refusal.{Refusal}
use Rattle.op_judge.specs.declared.Judgement.{Judgement}
use Rattle.op_judge.specs.declared.Judgement.TheVariants.{Safe, Unsafe}
use Rattle.printing.specs.Text.{AppendsFront, Writes, line_text}
use Rattle.printing.proofs.Writes.{writes_then, behind, cut, failed, same_text}
use Rattle.judge.specs.Verdict.{verdict_text}
use Rattle.judge.proofs.show.Goals as goal

module _ {T E : Type 0} (r : Result T E) (first second third : List ℕ) (f g : Result Judgement Refusal) (is : f ≡ g) (whole : verdict_text g ≡ (first ++ second) ++ third) where
  first_fails : (a b : Option (List ℕ)) → IsErr r → AppendsFront a b first → Writes a b r (verdict_text f)
  first_fails a b failure p = same_text verdict_text f g is a b r (subst (Writes a b r) (sym whole) (failed a b _ r failure (cut a b _ _ (cut a b _ _ p))))

  second_fails : (a b c : Option (List ℕ)) → IsErr r → Appends a b first → AppendsFront b c second → Writes a c r (verdict_text f)
  second_fails a b c failure p q = same_text verdict_text f g is a c r (subst (Writes a c r) (sym whole) (failed a c _ r failure (cut a c _ _ (behind a b c _ _ p q))))

  all_told : (a b c d : Option (List ℕ)) → Appends a b first → Appends b c second → Writes c d r third → Writes a d r (verdict_text f)
  all_told a b c d p q s = same_text verdict_text f g is a d r (subst (Writes a d r) (sym whole) (writes_then a c d _ _ r (Appends-trans a b c _ _ p q) s))

pub returns-in_err-say-in-Ok-Safe : goal.returns-in_err-say-in-Ok-Safe
returns-in_err-say-in-Ok-Safe g c =
    let w = c.in-Ok-Safe in
    first_fails c.from_residual.result (codes "verdict safe" ++ 10 ∷ []) (line_text (codes "states ") w.states) (line_text (codes "in ") w.count) c.args.found (Ok (Safe w.states w.count)) (w.is ∙ ap Ok (rw w.is at w.field-0-is)) refl _ _ c.from_residual.ensures.0 c.in_err-say-in-Ok-Safe.ensures

pub returns-in_err-line-in-Ok-Safe : goal.returns-in_err-line-in-Ok-Safe
returns-in_err-line-in-Ok-Safe g c =
    let w = c.in-Ok-Safe in
    second_fails c.from_residual-in_err-line-in-Ok-Safe.result (codes "verdict safe" ++ 10 ∷ []) (line_text (codes "states ") w.states) (line_text (codes "in ") w.count) c.args.found (Ok (Safe w.states w.count)) (w.is ∙ ap Ok (rw w.is at w.field-0-is)) refl _ _ _ c.from_residual-in_err-line-in-Ok-Safe.ensures.0 c.in_ok-say-in-Ok-Safe.ensures
    c.in_err-line-in-Ok-Safe.ensures

pub returns-in_ok-line-in-Ok-Safe : goal.returns-in_ok-line-in-Ok-Safe
returns-in_ok-line-in-Ok-Safe g c =
    let w = c.in-Ok-Safe in
    all_told c.line-in-Ok-Safe.result (codes "verdict safe" ++ 10 ∷ []) (line_text (codes "states ") w.states) (line_text (codes "in ") w.count) c.args.found (Ok (Safe w.states w.count)) (w.is ∙ ap Ok (rw w.is at w.field-0-is)) refl _ _ _ _ c.in_ok-say-in-Ok-Safe.ensures
    c.in_ok-line-in-Ok-Safe.ensures c.line-in-Ok-Safe.ensures

pub returns-in_err-say-in-Ok-Unsafe : goal.returns-in_err-say-in-Ok-Unsafe
returns-in_err-say-in-Ok-Unsafe g c =
    let w = c.in-Ok-Unsafe in
    first_fails c.from_residual-in_err-say-in-Ok-Unsafe.result (codes "verdict unsafe" ++ 10 ∷ []) (line_text (codes "states ") w.states) (line_text (codes "steps ") w.count) c.args.found (Ok (Unsafe w.states w.count)) (w.is ∙ ap Ok (rw w.is at w.field-0-is)) refl _ _ c.from_residual-in_err-say-in-Ok-Unsafe.ensures.0 c.in_err-say-in-Ok-Unsafe.ensures

pub returns-in_err-line-in-Ok-Unsafe : goal.returns-in_err-line-in-Ok-Unsafe
returns-in_err-line-in-Ok-Unsafe g c =
    let w = c.in-Ok-Unsafe in
    second_fails c.from_residual-in_err-line-in-Ok-Unsafe.result (codes "verdict unsafe" ++ 10 ∷ []) (line_text (codes "states ") w.states) (line_text (codes "steps ") w.count) c.args.found (Ok (Unsafe w.states w.count)) (w.is ∙ ap Ok (rw w.is at w.field-0-is)) refl _ _ _ c.from_residual-in_err-line-in-Ok-Unsafe.ensures.0 c.in_ok-say-in-Ok-Unsafe.ensures
    c.in_err-line-in-Ok-Unsafe.ensures

pub returns-in_ok-line-in-Ok-Unsafe : goal.returns-in_ok-line-in-Ok-Unsafe
returns-in_ok-line-in-Ok-Unsafe g c =
    let w = c.in-Ok-Unsafe in
    all_told c.line-in-Ok-Unsafe-2.result (codes "verdict unsafe" ++ 10 ∷ []) (line_text (codes "states ") w.states) (line_text (codes "steps ") w.count) c.args.found (Ok (Unsafe w.states w.count)) (w.is ∙ ap Ok (rw w.is at w.field-0-is)) refl _ _ _ _ c.in_ok-say-in-Ok-Unsafe.ensures
    c.in_ok-line-in-Ok-Unsafe.ensures c.line-in-Ok-Unsafe-2.ensures
