-- Request (b) of 02: "No padding in evidence", from bytes. `bytes` spell an accepted model and each scratch slice is long enough.
--
-- Demand 3 keeps its statements: what `SheetPasses` and `TrailPasses` mean has moved with the spelling of evidence.
use mathlib.Core.Path.{◌≡◌, refl, sym, ap, subst, ◌∙◌}
use mathlib.Core.Logic.{◌↔◌, ◌⊎◌, inl, inr, ⊎_elim}
use mathlib.Core.List.{List, [], ◌∷◌, ◌++◌}
use Prim.Native.Nat.{ℕ, zero, suc, ◌≤◌, ◌<◌}
use native.Mathlib.Omega.{arith}
use lib.ListN.{length, length-append}
use Rattle.number.specs.Number.{Number, Value, Refused, read_number, spell, spell_all}
use Rattle.number.specs.Shortest.{AreBytes}
use Rattle.number.specs.Sequence.{SpelledBy, SpellsAll, SpellsShortest}
use Rattle.number.specs.Answer.{Answer}
use Rattle.number.proofs.Laws.{read_value, read_none, spells_some}
use Rattle.number.proofs.Sequence.{plain, not_value, value_within, spelled, spelled_fit, in_any_form, shortest_sequence, one_spelling}
use Rattle.model.specs.declared.Model.{Model}
use Rattle.evidence.specs.Evidence.{Evidence}
use Rattle.call.specs.Call.{model_of, refusal}
use Rattle.op_check.specs.Check.{evidence_answer, check_answer}
use Rattle.demands.proofs.Admitted.{check_done}
use Rattle.demands.specs.Told.{kind_answer}
use Rattle.demands.specs.Padding.{SheetPassedBefore, TrailPassedBefore, Unpadded, Respelled}
use Rattle.demands.proofs.Demand3.{sheet_exactly, trail_exactly, zero_exactly}
use Rattle.demands.proofs.Respelled.{EvidencePair, checked_pair}
use Rattle.evidence.specs.Evidence as evidence
use Rattle.number.proofs.Sequence as sequence

-- bytes without padding spell no other numbers, by the old rules either
unpadded_only : {bs : List ℕ} (vs : List ℕ) → SpellsAll bs vs → Unpadded bs → SpellsShortest bs vs
unpadded_only {bs} vs s (ws, t) = subst (SpellsShortest bs) (sequence.spelled_once plain ws vs (in_any_form t) s) t

respelled_all : {bs vs : List ℕ} → SpellsAll bs vs → Respelled bs (spell_all vs)
unfolding spell_all
respelled_all SpelledBy.none = Respelled.rest [] (λ v to e. not_value (sym e ∙ read_none [] 0 (omega arith)))
respelled_all (SpelledBy.more k s) = Respelled.more k (respelled_all s)

module _ (bytes lent : List ℕ) (taken : refusal bytes lent ≡ 0) (shown : List ℕ) where
  abbrev m : Model
  m = model_of bytes

  -- ---- it passes now exactly where it passed under the old rules and every number is in shortest form

  pub sheet_as_before : (check_answer bytes shown lent ≡ kind_answer 1) ↔ (SheetPassedBefore m shown × Unpadded shown)
  sheet_as_before = (
    λ e. let (l, s, K) = (sheet_exactly bytes lent taken shown).0 e in ((l, in_any_form s, K), (1 ∷ l, s)),
    λ ((l, s, K), u). (sheet_exactly bytes lent taken shown).1 (l, unpadded_only _ s u, K),
  )

  pub trail_as_before : (check_answer bytes shown lent ≡ kind_answer 2) ↔ (TrailPassedBefore m shown × Unpadded shown)
  trail_as_before = (
    λ e. let (vs, s, w) = (trail_exactly bytes lent taken shown).0 e in ((vs, in_any_form s, w), (_, s)),
    λ ((vs, s, w), u). (trail_exactly bytes lent taken shown).1 (vs, unpadded_only _ s u, w),
  )

  -- ---- what passes, in bytes

  module _ (passes : (check_answer bytes shown lent).number ≡ 0) where
    passing_unpadded : Unpadded shown
    passing_unpadded = ⊎_elim (λ (l, s, K). (_, s)) (λ (vs, s, w). (_, s)) ((zero_exactly bytes lent taken shown).0 passes)

    module _ (vs : List ℕ) (s : SpellsAll shown vs) where
      -- no spelling of its numbers has fewer bytes
      pub passing_least : (other : List ℕ) → SpellsAll other vs → length shown ≤ length other
      passing_least = (shortest_sequence.0 (unpadded_only vs s passing_unpadded)).1

      -- and of bytes its numbers determine them
      pub passing_bytes : AreBytes shown → shown ≡ spell_all vs
      passing_bytes b = ((one_spelling b).0 (unpadded_only vs s passing_unpadded)).0

  -- ---- what padding does to an answer

  -- for any bytes: with each number in shortest form they have the same answer, and that is not 15; or the answer is 15, and that form is shorter
  pub padding_only : (short : List ℕ) → Respelled shown short
      → ((check_answer bytes shown lent ≡ check_answer bytes short lent) × ((check_answer bytes shown lent).number ≡ 15 → ⊥))
      ⊎ ((check_answer bytes shown lent ≡ record { number = 15; values = [] }) × (length short < length shown))
  unfolding evidence_answer
  padding_only short t = rw (check_done bytes shown lent taken, check_done bytes short lent taken) (by (checked_pair shown short m t))
    where
      fifteen : (e : Evidence) → (evidence_answer e).number ≡ 15 → e ≡ evidence.Refused 15
      fifteen evidence.Sheet z = absurd (omega (arith, z))
      fifteen evidence.Trail z = absurd (omega (arith, z))
      fifteen (evidence.Refused r) z = ap evidence.Refused z

      by : {e e' : Evidence} → EvidencePair shown short e e'
          → ((evidence_answer e ≡ evidence_answer e') × ((evidence_answer e).number ≡ 15 → ⊥))
          ⊎ ((evidence_answer e ≡ record { number = 15; values = [] }) × (length short < length shown))
      by (EvidencePair.alike {e = e} d) = inl (refl, λ z. d (fifteen e z))
      by (EvidencePair.padded s) = inr (refl, s)

  -- so a padded copy of what passes gets 15
  pub padded_copy : (vs : List ℕ) → SpellsAll shown vs → length (spell_all vs) < length shown
      → (check_answer bytes (spell_all vs) lent).number ≡ 0 → check_answer bytes shown lent ≡ record { number = 15; values = [] }
  padded_copy vs s long passes =
      ⊎_elim
      (λ (same, _).
      let least = passing_least (ap (λ (a : Answer). a.number) same ∙ passes) vs s (spell_all vs) (spelled vs (spelled_fit s)) in
      absurd (omega (arith, least, long)))
      (λ (e, _). e)
      (padding_only (spell_all vs) (respelled_all s))

respell_within : (n : ℕ) (bs : List ℕ) → length bs ≤ n → (short : List ℕ) × Respelled bs short
respell_within zero bs h = (bs, Respelled.rest bs (λ v to e. omega (arith, h, value_within bs 0 v to e)))
respell_within (suc n) bs h = by (respell_within n) (read_number bs 0) refl
  where
    by : ((rest : List ℕ) → length rest ≤ n → (short : List ℕ) × Respelled rest short) → (x : Number) → read_number bs 0 ≡ x
        → (short : List ℕ) × Respelled bs short
    by others (Value v to) e =
        let (g, rest, d, k, q) = (read_value bs 0 v to).0 e in
        let (short, t) = others rest (omega (arith, h, ap length d, length-append g rest, spells_some k)) in
        (spell v ++ short, subst (λ (l : List ℕ). Respelled l (spell v ++ short)) (sym d) (Respelled.more k t))
    by others (Refused r) e = (bs, Respelled.rest bs (λ v to f. not_value (sym f ∙ e)))

-- any bytes have such a form
pub respell : (bs : List ℕ) → (short : List ℕ) × Respelled bs short
respell bs = respell_within (length bs) bs (omega arith)

-- two pieces of evidence that pass, for whichever plans, and have the same numbers are the same bytes
pub same_numbers : (bytes lent bytes' lent' : List ℕ) → refusal bytes lent ≡ 0 → refusal bytes' lent' ≡ 0
    → (shown shown' vs : List ℕ) → AreBytes shown → AreBytes shown' → SpellsAll shown vs → SpellsAll shown' vs
    → (check_answer bytes shown lent).number ≡ 0 → (check_answer bytes' shown' lent').number ≡ 0 → shown ≡ shown'
same_numbers bytes lent bytes' lent' taken taken' shown shown' vs b b' s s' p p' =
    passing_bytes bytes lent taken shown p vs s b ∙ sym (passing_bytes bytes' lent' taken' shown' p' vs s' b')
