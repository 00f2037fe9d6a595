-- What two prints write is what they write one after the other, or a front of it where one fails.
use Rattle.std.proofs.Common.{◌≡◌, ℕ, List, [], ◌∷◌, ◌++◌, codes, sym, ap, ◌∙◌, subst, append_assoc}
use Rattle.std.specs.Prelude.{Result, Ok, Err}
use Rattle.limits.specs.declared.refusal.Refusal.{Refusal}
use Rattle.limits.specs.declared.refusal.Refusal.TheVariants.{Unreached}
use Rattle.printing.specs.Text.{word_text, line_text, AppendsFront}
use Rattle.printing.proofs.Writes.{behind, cut, failed, same_text}
use Rattle.soonest.specs.Arrivals.{arrival_text}
use Rattle.soonest.proofs.show.Goals as goal

unreached : {x : Result ℕ Refusal} {r : Refusal} → x ≡ Err r → r ≡ Unreached → x ≡ Err Unreached
unreached p q = p ∙ ap (λ (e : Refusal). Err e) q

abbrev located : ℕ → List ℕ
located location = word_text (codes "location ") location

abbrev never : List ℕ
never = codes " never"

pub returns-in_err-put-in-Ok-clause-text : goal.returns-in_err-put-in-Ok-clause-text
returns-in_err-put-in-Ok-clause-text g c =
    let t = c.in-Ok in
    let told = cut _ _ (located c.args.location) (line_text (codes " time ") t.units) c.in_err-put-in-Ok.ensures in
    let r = c.from_residual.result in
    same_text (arrival_text c.args.location) c.args.found (Ok t.units) t.is _ _ r (failed _ _ _ r c.from_residual.ensures.0 told)

pub returns-in_err-line-in-Ok-clause-text : goal.returns-in_err-line-in-Ok-clause-text
returns-in_err-line-in-Ok-clause-text g c =
    let t = c.in-Ok in
    let told = behind _ _ _ (located c.args.location) (line_text (codes " time ") t.units) c.in_ok-put-in-Ok.ensures c.in_err-line-in-Ok.ensures in
    let r = c.from_residual-in_err-line-in-Ok.result in
    same_text (arrival_text c.args.location) c.args.found (Ok t.units) t.is _ _ r (failed _ _ _ r c.from_residual-in_err-line-in-Ok.ensures.0 told)

pub returns-in_err-put-in-Err-Unreached-clause-text : goal.returns-in_err-put-in-Err-Unreached-clause-text
returns-in_err-put-in-Err-Unreached-clause-text g c =
    let told = cut _ _ (located c.args.location ++ never) (10 ∷ []) (cut _ _ (located c.args.location) never c.in_err-put-in-Err-Unreached.ensures) in
    let r = c.from_residual-in_err-put-in-Err-Unreached.result in
    let is : c.args.found ≡ Err Unreached = unreached c.in-Err-Unreached.is (rw c.in-Err-Unreached.is at c.in-Err-Unreached.field-0-is) in
    same_text (arrival_text c.args.location) c.args.found (Err Unreached) is _ _ r (failed _ _ _ r c.from_residual-in_err-put-in-Err-Unreached.ensures.0 told)

pub returns-in_err-say-in-Err-Unreached-clause-text : goal.returns-in_err-say-in-Err-Unreached-clause-text
returns-in_err-say-in-Err-Unreached-clause-text g c =
    let told = behind _ _ _ (located c.args.location) (never ++ 10 ∷ []) c.in_ok-put-in-Err-Unreached.ensures c.in_err-say-in-Err-Unreached.ensures in
    let split = append_assoc (located c.args.location) never (10 ∷ []) in
    let r = c.from_residual-in_err-say-in-Err-Unreached.result in
    let is : c.args.found ≡ Err Unreached = unreached c.in-Err-Unreached.is (rw c.in-Err-Unreached.is at c.in-Err-Unreached.field-0-is) in
    same_text (arrival_text c.args.location) c.args.found (Err Unreached) is _ _ r
    (failed _ _ _ r c.from_residual-in_err-say-in-Err-Unreached.ensures.0 (subst (AppendsFront _ _) (sym split) told))
