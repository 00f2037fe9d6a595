-- What the answers mean: a sheet passed exactly where the bytes spell one that keeps the rules, a trail exactly where they spell one that passes.
use mathlib.Core.Path.{◌≡◌, refl, sym, subst}
use mathlib.Core.Logic.{◌↔◌, ◌⊎◌, inl, inr}
use mathlib.Core.List.{List}
use Prim.Native.Nat.{ℕ, ◌≤◌, ◌<◌}
use native.Mathlib.Omega.{arith}
use lib.Dec.{eqb}
use borrow.Author.Tests.{eqb-true, eqb-false}
use Rattle.theory.proofs.Below.{cond_ind}
use Rattle.evidence_number.specs.Evidence.{NumberRefusal, read_evidence}
use Rattle.evidence_number.proofs.Reading.{refused_within, refusal_positive, spelled_first, first_spelled}
use Rattle.model.specs.declared.Model.{Model}
use Rattle.model.specs.Model.{Lawful}
use Rattle.graph.specs.Plan.{system_of_model}
use Rattle.sheet.specs.Answer.{sheet_answer}
use Rattle.sheet.proofs.Answer.{sheet_law}
use Rattle.replay.specs.Trail.{trail_answer}
use Rattle.replay.proofs.Answers.{passes_law}
use Rattle.replay.proofs.Ways.{number_ind}
use Rattle.evidence.specs.Evidence.{Evidence}
use Rattle.evidence.specs.Evidence.{SheetPasses, TrailPasses, EvidenceRefusal, found, of_kind, checked}
use Rattle.evidence.specs.Evidence as evidence
use Rattle.sheet.proofs.Answer as sheet
use Rattle.replay.proofs.Answers as trail

-- ---- the answers

-- those of a sheet and of a trail are of the table
ranged : {r : ℕ} (number rule : ℕ) → (10 ≤ number) × (number ≤ 14) → (10 ≤ rule) × (rule ≤ 14)
    → (r ≡ 0) ⊎ ((NumberRefusal r ⊎ (r ≡ number)) ⊎ ((r ≡ 6) ⊎ (r ≡ rule))) → (r ≡ 0) ⊎ EvidenceRefusal r
ranged number rule a b (inl z) = inl z
ranged number rule a b (inr (inl (inl n))) = inr (inl n)
ranged number rule a b (inr (inl (inr e))) = inr (inr (inr (omega arith, omega arith)))
ranged number rule a b (inr (inr (inl e))) = inr (inr (inl e))
ranged number rule a b (inr (inr (inr e))) = inr (inr (inr (omega arith, omega arith)))

module _ (m : Model) (bs : List ℕ) where
  -- what each answer says of the bytes
  Means : Evidence → Type 0
  Means evidence.Sheet = SheetPasses m bs
  Means evidence.Trail = TrailPasses m bs
  Means (evidence.Refused r) = EvidenceRefusal r

  of_refusal : (kind : Evidence) (r : ℕ) → (r ≡ 0) ⊎ EvidenceRefusal r → (r ≡ 0 → Means kind) → Means (found kind r)
  unfolding Means
  of_refusal kind r k h = cond_ind Means (eqb r 0) (λ z. h (eqb-true r 0 z)) (λ z. not_zero k (eqb-false r 0 z))
    where
      not_zero : (r ≡ 0) ⊎ EvidenceRefusal r → (r ≡ 0 → ⊥) → EvidenceRefusal r
      not_zero (inl z) n = absurd (n z)
      not_zero (inr known) n = known

  sheet_known : (at : ℕ) → (sheet_answer m bs at ≡ 0) ⊎ EvidenceRefusal (sheet_answer m bs at)
  sheet_known at = ranged 11 12 (omega arith, omega arith) (omega arith, omega arith) (sheet.answer_range (system_of_model m) bs at)

  trail_known : (at : ℕ) → (trail_answer m bs at ≡ 0) ⊎ EvidenceRefusal (trail_answer m bs at)
  trail_known at = ranged 13 14 (omega arith, omega arith) (omega arith, omega arith) (trail.answer_range m bs at)

  means : Lawful m → Means (checked m bs)
  unfolding checked of_kind Means
  means ok =
      number_ind Means (read_evidence bs 0)
      (λ v to e. cond_ind Means (eqb v 1)
      (λ t. of_refusal evidence.Sheet (sheet_answer m bs to) (sheet_known to) λ z.
      let (l, s, K) = (sheet_law m ok bs to).0 z in
      (l, rw (sym (eqb-true v 1 t)) (first_spelled bs l v to e s), K))
      (λ _. cond_ind Means (eqb v 2)
      (λ t. of_refusal evidence.Trail (trail_answer m bs to) (trail_known to) λ z.
      let (vs, s, w) = (passes_law m bs to).0 z in
      (vs, rw (sym (eqb-true v 2 t)) (first_spelled bs _ v to e s), w))
      (λ _. inr (inr (omega arith, omega arith)))))
      (λ r e. inl (refused_within bs 0 r e))

  -- 01: "the check's is 1 for a passing sheet"
  pub sheet_passes : Lawful m → (checked m bs ≡ evidence.Sheet) ↔ SheetPasses m bs
  unfolding checked of_kind Means
  sheet_passes ok = (
    λ e. subst Means e (means ok),
    λ (l, s, K).
        let (to, e, t) = spelled_first s in
        simp (e, (sheet_law m ok bs to).1 (l, t, K)) refl,
  )

  -- "2 for a passing trail"
  pub trail_passes : Lawful m → (checked m bs ≡ evidence.Trail) ↔ TrailPasses m bs
  unfolding checked of_kind Means
  trail_passes ok = (
    λ e. subst Means e (means ok),
    λ (vs, s, w).
        let (to, e, t) = spelled_first s in
        simp (e, (passes_law m bs to).1 (vs, t, w)) refl,
  )

  -- or a refusal of the table, which is never 0
  pub refusal_known : Lawful m → (r : ℕ) → checked m bs ≡ evidence.Refused r → EvidenceRefusal r
  unfolding Means
  refusal_known ok r e = subst Means e (means ok)

  pub refusal_above : Lawful m → (r : ℕ) → checked m bs ≡ evidence.Refused r → 0 < r
  refusal_above ok r e = by (refusal_known ok r e)
    where
      by : EvidenceRefusal r → 0 < r
      by (inl n) = refusal_positive r n
      by (inr (inl six)) = omega arith
      by (inr (inr range)) = omega arith
