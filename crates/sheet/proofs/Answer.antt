-- What the answer means: 0 exactly where the bytes spell, with nothing after, a sheet that keeps the rules.
use mathlib.Core.Path.{◌≡◌, refl, sym, ap, subst, ◌∙◌}
use mathlib.Core.Bool.{Bool, true, false, cond, true≢false}
use mathlib.Core.Logic.{◌↔◌, ◌⊎◌, inl, inr, ⊎_elim}
use mathlib.Core.List.{List, [], ◌∷◌}
use Prim.Native.Nat.{ℕ, zero, suc, ◌+◌, ◌-◌, ◌*◌, ◌≤◌, ◌<◌}
use native.Mathlib.Omega.{arith}
use native.Mathlib.Nat.{add-zero, zero-add}
use lib.ListN.{length, get_or, drop}
use lib.Dec.{ltb}
use borrow.Author.Tests.{ltb-false, lt-ltb, le-ltb}
use Rattle.theory.specs.System.{System, Laws}
use Rattle.theory.specs.Sheet.{Sheet, keeps, in_of, height_of}
use Rattle.theory.proofs.Below.{either, cond_ind, test↔, leb↔, eqb↔, and↔, or↔}
use Rattle.theory.proofs.Sheet.{keeps_law}
use Rattle.number.specs.Number.{Number, on_number}
use Rattle.evidence_number.specs.Evidence.{SpellsEvidence, NumberRefusal, read_evidence}
use Rattle.evidence_number.proofs.Reading.{Reads, none, more, refused_within, refusal_positive, reads_spelled, spelled_reads}
use Rattle.model.specs.declared.Model.{Model}
use Rattle.model.specs.Model.{Lawful}
use Rattle.graph.specs.Plan.{system_of_model}
use Rattle.graph.proofs.Models.{system_laws}
use Rattle.evidence_number.specs.Numbers.{Numbers, got, refused, on_numbers, after}
use Rattle.sheet_numbers.specs.Numbers.{number_keeps, numbers_from}
use Rattle.sheet_rules.specs.Rules.{Blank}
use Rattle.sheet.specs.Answer.{sheet_numbers, sheet_refusal, sheet_answer}
use Rattle.number.specs.Number as number

-- ---- the reading

number↔ : (allowed : Bool) (top v : ℕ) → (number_keeps allowed top v ≡ true) ↔ ((v ≤ top) × ((allowed ≡ true) ⊎ (v ≡ 0)))
unfolding number_keeps
number↔ allowed top v = and↔ (leb↔ v top) (or↔ (test↔ allowed) (eqb↔ v 0))

-- the refusals of a sheet's numbers
abbrev pub Refusal : ℕ → Type 0
Refusal r = NumberRefusal r ⊎ (r ≡ 11)

not_zero : (r : ℕ) → Refusal r → r ≡ 0 → ⊥
not_zero r (inl n) z = omega (arith, refusal_positive r n)
not_zero r (inr e) z = omega arith

-- the numbers of the states from i on keep
Keep : (ℕ → Bool) → ℕ → ℕ → List ℕ → Type 0
Keep allowed top i l = (j : ℕ) → j < length l → number_keeps (allowed (i + j)) top (get_or l j 0) ≡ true

module _ (allowed : ℕ → Bool) (top : ℕ) (bs : List ℕ) where
  first_keeps : (i v : ℕ) (l : List ℕ) → Keep allowed top i (v ∷ l) → number_keeps (allowed i) top v ≡ true
  unfolding Keep
  first_keeps i v l k = subst (λ (x : ℕ). number_keeps (allowed x) top v ≡ true) (add-zero i) (k 0 (omega arith))

  rest_keeps : (i v : ℕ) (l : List ℕ) → Keep allowed top i (v ∷ l) → Keep allowed top (i + 1) l
  unfolding Keep
  rest_keeps i v l k j h = subst (λ (x : ℕ). number_keeps (allowed x) top (get_or l j 0) ≡ true) (omega arith) (k (suc j) (omega arith))

  both_keep : (i v : ℕ) (l : List ℕ) → number_keeps (allowed i) top v ≡ true → Keep allowed top (i + 1) l → Keep allowed top i (v ∷ l)
  unfolding Keep
  both_keep i v l t k zero h = subst (λ (x : ℕ). number_keeps (allowed x) top v ≡ true) (sym (add-zero i)) t
  both_keep i v l t k (suc j) h = subst (λ (x : ℕ). number_keeps (allowed x) top (get_or l j 0) ≡ true) (omega arith) (k j (omega arith))

  -- numbers that keep are read
  reads_numbers : {at e : ℕ} {l : List ℕ} (i : ℕ) → Reads bs at l e → Keep allowed top i l → numbers_from allowed top bs (length l) i at ≡ got l e
  unfolding numbers_from
  reads_numbers i none k = refl
  reads_numbers i (more {to = p} {v = v} {vs = l} r w) k =
      let t = first_keeps i v l k in
      let ih = reads_numbers (i + 1) w (rest_keeps i v l k) in
      simp (r, t, ih)

  -- and no others
  Answers : ℕ → ℕ → ℕ → Numbers → Type 0
  Answers n i at (got l e) = (length l ≡ n) × Reads bs at l e × Keep allowed top i l
  Answers n i at (refused r) = Refusal r

  answers : (n i at : ℕ) → Answers n i at (numbers_from allowed top bs n i at)
  unfolding numbers_from Answers Keep
  answers zero i at = (refl, none, λ j h. absurd (omega arith))
  answers (suc n) i at = by (answers n (i + 1)) (read_evidence bs at) refl
    where
      next : (v p : ℕ) → read_evidence bs at ≡ number.Value v p → number_keeps (allowed i) top v ≡ true → (c : Numbers) → Answers n (i + 1) p c
          → Answers (suc n) i at (after (v ∷ []) c)
      next v p r t (got l e) (h, w, k) = (ap suc h, more r w, both_keep i v l t k)
      next v p r t (refused x) h = h

      by : ((p : ℕ) → Answers n (i + 1) p (numbers_from allowed top bs n (i + 1) p)) → (x : Number) → read_evidence bs at ≡ x
          → Answers (suc n) i at
          (on_number x (λ v p. cond (number_keeps (allowed i) top v) (after (v ∷ []) (numbers_from allowed top bs n (i + 1) p)) (refused 11)) refused)
      by ih (number.Value v p) r =
          cond_ind (Answers (suc n) i at) (number_keeps (allowed i) top v)
          (λ t. next v p r t (numbers_from allowed top bs n (i + 1) p) (ih p)) (λ _. inr refl)
      by ih (number.Refused x) r = inl (refused_within bs at x r)

-- ---- the ways through the check

module _ (Y : System) (bs : List ℕ) (at : ℕ) where
  Sheets : Numbers → Type 0
  Sheets = Answers Y.allowed (2 * Y.size - 1) bs Y.size 0 at

  sheets : Sheets (sheet_numbers Y bs at)
  unfolding Sheets
  sheets = answers Y.allowed (2 * Y.size - 1) bs Y.size 0 at

  -- the number of a state
  sheets_at : (l : List ℕ) (end : ℕ) → Sheets (got l end) → (p : ℕ) → p < Y.size
      → (get_or l p 0 ≤ 2 * Y.size - 1) × ((Y.allowed p ≡ true) ⊎ (get_or l p 0 ≡ 0))
  unfolding Sheets Answers Keep
  sheets_at l end (h, w, k) p b = (number↔ (Y.allowed p) (2 * Y.size - 1) (get_or l p 0)).0 (rw (zero-add p) at (k p (omega (arith, h))))

  sheets_blank : (l : List ℕ) (end : ℕ) → Sheets (got l end) → Blank Y l
  sheets_blank l end t p b o = ⊎_elim (λ a. absurd (true≢false (sym a ∙ o))) (λ z. z) (sheets_at l end t p b).1

  -- the answers that there are
  pub answer_range : (sheet_refusal Y bs at ≡ 0) ⊎ (Refusal (sheet_refusal Y bs at) ⊎ ((sheet_refusal Y bs at ≡ 6) ⊎ (sheet_refusal Y bs at ≡ 12)))
  unfolding sheet_refusal Sheets Answers
  answer_range = by (sheet_numbers Y bs at) sheets
    where
      Known : ℕ → Type 0
      Known n = (n ≡ 0) ⊎ (Refusal n ⊎ ((n ≡ 6) ⊎ (n ≡ 12)))

      by : (c : Numbers) → Sheets c
          → Known (on_numbers c (λ l end. cond (ltb end (length bs)) 6 (cond (keeps Y (in_of l) (height_of l)) 0 12)) (λ r. r))
      by (got l end) t =
          cond_ind Known (ltb end (length bs)) (λ _. inr (inr (inl refl)))
          (λ _. cond_ind Known (keeps Y (in_of l) (height_of l)) (λ _. inl refl) (λ _. inr (inr (inr refl))))
      by (refused r) t = inr (inl t)

  pub answer_refused : (r : ℕ) → sheet_numbers Y bs at ≡ refused r → r ≡ sheet_refusal Y bs at
  unfolding sheet_refusal
  answer_refused r e = simp e

  module _ (l : List ℕ) (end : ℕ) (e : sheet_numbers Y bs at ≡ got l end) where
    pub answer_blank : Blank Y l
    answer_blank = sheets_blank l end (subst Sheets e sheets)

    pub answer_left : end < length bs → 6 ≡ sheet_refusal Y bs at
    unfolding sheet_refusal
    answer_left h = simp (e, lt-ltb end (length bs) h)

    module _ (h : length bs ≤ end) where
      pub answer_keeps : keeps Y (in_of l) (height_of l) ≡ true → 0 ≡ sheet_refusal Y bs at
      unfolding sheet_refusal
      answer_keeps k = simp (e, le-ltb end (length bs) h, k)

      pub answer_broken : keeps Y (in_of l) (height_of l) ≡ false → 12 ≡ sheet_refusal Y bs at
      unfolding sheet_refusal
      answer_broken k = simp (e, le-ltb end (length bs) h, k)

-- ---- the answer

module _ (Y : System) (L : Laws Y) (bs : List ℕ) (at : ℕ) where
  -- 01: "Evidence passes when its bytes spell, with nothing after, a sheet that keeps the rules"
  abbrev Passes : Type 0
  Passes = (l : List ℕ) × SpellsEvidence (drop at bs) l × Sheet Y l

  passes_end : (l : List ℕ) (end : ℕ) → Sheets Y bs at (got l end) → length bs ≤ end → keeps Y (in_of l) (height_of l) ≡ true → Passes
  unfolding Sheets Answers
  passes_end l end t h k = (
    l,
    reads_spelled bs t.1 h,
    record {
      long = t.0;
      bounded = λ p b. (sheets_at Y bs at l end t p b).0;
      blank = sheets_blank Y bs at l end t;
      rules = (keeps_law Y L (in_of l) (height_of l)).0 k;
    },
  )

  refusal_is : sheet_refusal Y bs at ≡ 0 → Passes
  unfolding sheet_refusal Sheets Answers
  refusal_is = by (sheet_numbers Y bs at) (sheets Y bs at)
    where
      tested : (l : List ℕ) (end : ℕ) → Sheets Y bs at (got l end) → (b d : Bool) → ltb end (length bs) ≡ b → keeps Y (in_of l) (height_of l) ≡ d
          → ◌≡◌ {A = ℕ} (cond b 6 (cond d 0 12)) 0 → Passes
      tested l end t true d x y e = absurd (omega arith)
      tested l end t false true x y e = passes_end l end t (ltb-false end (length bs) x) y
      tested l end t false false x y e = absurd (omega arith)

      by : (c : Numbers) → Sheets Y bs at c
          → on_numbers c (λ l end. cond (ltb end (length bs)) 6 (cond (keeps Y (in_of l) (height_of l)) 0 12)) (λ r. r) ≡ 0 → Passes
      by (got l end) t e = tested l end t (ltb end (length bs)) (keeps Y (in_of l) (height_of l)) refl refl e
      by (refused r) t e = absurd (not_zero r t e)

  sheet_keep : (l : List ℕ) → Sheet Y l → Keep Y.allowed (2 * Y.size - 1) 0 l
  unfolding Keep
  sheet_keep l S j h =
      let b : j < Y.size = omega (arith, S.long) in
      rw (zero-add j) ((number↔ (Y.allowed j) (2 * Y.size - 1) (get_or l j 0)).1 (S.bounded j b, blank b (either (Y.allowed j))))
    where
      blank : j < Y.size → (Y.allowed j ≡ true) ⊎ (Y.allowed j ≡ false) → (Y.allowed j ≡ true) ⊎ (get_or l j 0 ≡ 0)
      blank b (inl a) = inl a
      blank b (inr o) = inr (S.blank j b o)

  is_refusal : Passes → sheet_refusal Y bs at ≡ 0
  is_refusal (l, s, S) =
      let (end, w, h) = spelled_reads bs s at refl in
      let n = rw S.long at (reads_numbers Y.allowed (2 * Y.size - 1) bs 0 w (sheet_keep l S)) in
      sym (answer_keeps Y bs at l end n h ((keeps_law Y L (in_of l) (height_of l)).1 S.rules))

  pub refusal_law : (sheet_refusal Y bs at ≡ 0) ↔ ((l : List ℕ) × SpellsEvidence (drop at bs) l × Sheet Y l)
  refusal_law = (refusal_is, is_refusal)

-- for a lawful model
pub sheet_law : (m : Model) → Lawful m → (bs : List ℕ) (at : ℕ)
    → (sheet_answer m bs at ≡ 0) ↔ ((l : List ℕ) × SpellsEvidence (drop at bs) l × Sheet (system_of_model m) l)
sheet_law m ok = refusal_law (system_of_model m) (system_laws m ok)
