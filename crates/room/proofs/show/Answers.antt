-- What four prints write is what they write one after the other, or a front of it where one fails.
use Rattle.std.proofs.Common.{◌≡◌, ℕ, List, Result, Ok, IsErr, codes}
use Rattle.std.specs.declared.option.Option.{Option}
use Rattle.std.specs.Io.KnownBytes.{Appends}
use Rattle.std.proofs.KnownBytes.{Appends-trans}
use Rattle.op_room.specs.declared.Space.{Space}
use Rattle.limits.specs.declared.refusal.Refusal.{Refusal}
use Rattle.printing.specs.Text.{line_text, AppendsFront, Writes}
use Rattle.printing.proofs.Writes.{writes_then, behind, cut, failed, same_text}
use Rattle.room.specs.Needs.{needs_text}
use Rattle.room.proofs.show.Goals as goal

module _ {T E : Type 0} (r : Result T E) (n : Space) where
  first_fails : (f : Result Space Refusal) (a b : Option (List ℕ)) → f ≡ Ok n → IsErr r → AppendsFront a b (line_text (codes "states ") n.states)
      → Writes a b r (needs_text f)
  first_fails f a b e is p = same_text needs_text f _ e _ _ r (failed a b _ r is (cut a b _ _ (cut a b _ _ (cut a b _ _ p))))

  second_fails : (f : Result Space Refusal) (a b c : Option (List ℕ)) → f ≡ Ok n → IsErr r → Appends a b (line_text (codes "states ") n.states)
      → AppendsFront b c (line_text (codes "scratch ") n.scratch) → Writes a c r (needs_text f)
  second_fails f a b c e is p q = same_text needs_text f _ e _ _ r (failed a c _ r is (cut a c _ _ (cut a c _ _ (behind a b c _ _ p q))))

  third_fails : (f : Result Space Refusal) (a b c d : Option (List ℕ)) → f ≡ Ok n → IsErr r → Appends a b (line_text (codes "states ") n.states)
      → Appends b c (line_text (codes "scratch ") n.scratch) → AppendsFront c d (line_text (codes "sheet ") n.sheet) → Writes a d r (needs_text f)
  third_fails f a b c d e is p q s = same_text needs_text f _ e _ _ r (failed a d _ r is (cut a d _ _ (behind a c d _ _ (Appends-trans a b c _ _ p q) s)))

  all_told : (f : Result Space Refusal) (a b c d e : Option (List ℕ)) → f ≡ Ok n → Appends a b (line_text (codes "states ") n.states)
      → Appends b c (line_text (codes "scratch ") n.scratch) → Appends c d (line_text (codes "sheet ") n.sheet) → Writes d e r (line_text (codes "steps ") n.steps)
      → Writes a e r (needs_text f)
  all_told f a b c d e is p q s t = same_text needs_text f _ is _ _ r (writes_then a d e _ _ r (Appends-trans a c d _ _ (Appends-trans a b c _ _ p q) s) t)

pub returns-in_err-line-in-Ok : goal.returns-in_err-line-in-Ok
returns-in_err-line-in-Ok g c =
    let w = c.in-Ok in
    first_fails _ w.needs _ _ _ w.is c.from_residual.ensures.0 c.in_err-line-in-Ok.ensures

pub returns-in_err-line-in-Ok-2 : goal.returns-in_err-line-in-Ok-2
returns-in_err-line-in-Ok-2 g c =
    let w = c.in-Ok in
    second_fails _ w.needs _ _ _ _ w.is c.from_residual-in_err-line-in-Ok-2.ensures.0 c.in_ok-line-in-Ok.ensures c.in_err-line-in-Ok-2.ensures

pub returns-in_err-line-in-Ok-3 : goal.returns-in_err-line-in-Ok-3
returns-in_err-line-in-Ok-3 g c =
    let w = c.in-Ok in
    third_fails _ w.needs _ _ _ _ _ w.is c.from_residual-in_err-line-in-Ok-3.ensures.0 c.in_ok-line-in-Ok.ensures c.in_ok-line-in-Ok-2.ensures
    c.in_err-line-in-Ok-3.ensures

pub returns-in_ok-line-in-Ok-3 : goal.returns-in_ok-line-in-Ok-3
returns-in_ok-line-in-Ok-3 g c =
    let w = c.in-Ok in
    all_told c.line-in-Ok-3.result w.needs _ _ _ _ _ _ w.is c.in_ok-line-in-Ok.ensures c.in_ok-line-in-Ok-2.ensures
    c.in_ok-line-in-Ok-3.ensures c.line-in-Ok-3.ensures
