-- What the marks call says and leaves: refused, or a byte for each state from its distance.
use Prim.Native.Nat.{ℕ, ◌≤◌, ◌<◌}
use native.Mathlib.Omega.{arith}
use mir.Val.{bool_byte}
use mathlib.Core.Path.{◌≡◌, refl, sym, ap, ◌∙◌}
use mathlib.Core.Bool.{Bool, true, false}
use mathlib.Core.List.{List, [], ◌∷◌, ◌++◌}
use lib.ListN.{length, get_or, drop}
use lib.Dec.{ltb}
use borrow.Author.Tests.{ne_eqb, lt-ltb, le-ltb}
use Rattle.theory.specs.Below.{bit}
use Rattle.theory.specs.System.{System, Laws}
use Rattle.theory.specs.Marked.{marks}
use Rattle.theory.specs.WithoutTouch.{with_touch}
use Rattle.theory.proofs.Below.{is_table}
use Rattle.theory.proofs.Levels.{mark-marks}
use Rattle.model.specs.declared.Model.{Model}
use Rattle.graph.specs.Plan.{system_of_model}
use Rattle.graph.specs.States.{states}
use Rattle.graph.proofs.Plan.{size-states}
use Rattle.marking.specs.Tables.{Distances}
use Rattle.call.specs.Call.{model_of}
use Rattle.call.specs.Admitted.{called, written}
use Rattle.call.specs.Joint.{disjoint_for}
use Rattle.call.proofs.Calls.{code_ne, passed_told, told, refused_told, called_answer}
use Rattle.std.specs.Prelude.{Result, IsErrAnd}
use Rattle.limits.specs.declared.refusal.Refusal.{Refusal}
use Rattle.limits.specs.declared.refusal.Refusal.TheVariants.{OutputShort}
use Rattle.limits.specs.Refusal.{code_of}
use Rattle.number.specs.Answer.{answer}
use Rattle.op_marks.specs.Marks.{short, marks_refusal, marked, marks_of, marks_in, output, marking_values, marking_answer, marking_refusal, marking_says, marking_writes}

-- with touch steps or without, a state has the same number
pub touch_size : (touch : Bool) (m : Model) → (with_touch touch (system_of_model m)).size ≡ states m
unfolding with_touch
touch_size touch m = size-states m

-- ---- a byte for each state

pub byte_bit : (b : Bool) → bool_byte b ≡ bit b
byte_bit true = refl
byte_bit false = refl

module _ (Y : System) (L : Laws Y) where
  -- marks from distances
  pub marks_written : (out far : List ℕ) → Distances Y far → length out ≡ Y.size
      → ((p : ℕ) → p < Y.size → get_or out p 0 ≡ bit (ltb 0 (get_or far p 0))) → out ≡ marks_of Y
  unfolding marks_of
  marks_written out far D e h =
      is_table out Y.size (λ p. bit (marks Y p)) e
      (λ p b. rw (h p b, D.is p b, mark-marks Y L p) refl)

-- ---- whatever resets the plan has

module _ (m : Model) (k : ℕ) where
  pub answer_short : k < states m → record { number = 9; values = [] } ≡ answer (short k m) (states m ∷ [])
  unfolding answer
  answer_short b = simp (lt-ltb k (states m) b) refl

  pub answer_marked : (s : ℕ) → s ≡ states m → s ≤ k → record { number = 0; values = s ∷ [] } ≡ answer (short k m) (states m ∷ [])
  unfolding answer
  answer_marked s e b =
      let c : states m ≤ k = omega arith in
      simp (le-ltb k (states m) c) (ap (λ (n : ℕ). record { number = 0; values = n ∷ [] }) e)

module _ (touch : Bool) (m : Model) (out : List ℕ) where
  pub short_kept : length out < states m → out ≡ marks_in (with_touch touch (system_of_model m)) out
  unfolding marks_in
  short_kept b =
      let c : length out < (with_touch touch (system_of_model m)).size = omega (arith, touch_size touch m) in
      simp (lt-ltb (length out) (with_touch touch (system_of_model m)).size c) refl

  pub marked_in : (s : ℕ) (xs : List ℕ) → s ≡ states m → s ≤ length out → xs ≡ marks_of (with_touch touch (system_of_model m))
      → xs ++ drop s out ≡ marks_in (with_touch touch (system_of_model m)) out
  unfolding marks_in
  marked_in s xs e b f =
      let Y = with_touch touch (system_of_model m) in
      let g : s ≡ Y.size = e ∙ sym (touch_size touch m) in
      let c : Y.size ≤ length out = omega arith in
      simp (le-ltb (length out) Y.size c) (rw (g, f) refl)

-- ---- past number 8

module _ (touch : Bool) (m : Model) where
  pub refused_at : (k : ℕ) (x : Result ℕ Refusal) (r : Refusal) → IsErrAnd x (λ e. e ≡ r) → code_of r ≡ disjoint_for touch m
      → marking_answer x ≡ marking_says touch k m
  unfolding marking_says
  refused_at k x r h e =
      passed_told marking_values x r h
      ∙ refused_told (marking_refusal touch k m) r (states m ∷ []) (simp (sym e, ne_eqb (code_of r) 0 (code_ne r)) refl)

  pub refused_alone : (out : List ℕ) (r : Refusal) → code_of r ≡ disjoint_for touch m → out ≡ marking_writes touch m out
  unfolding marking_writes
  refused_alone out r e = simp (sym e, ne_eqb (code_of r) 0 (code_ne r)) refl

  module _ (z : 0 ≡ disjoint_for touch m) where
    pub short_told : (k : ℕ) → k < states m → record { number = 9; values = [] } ≡ marking_says touch k m
    unfolding marking_says
    short_told k b = refused_told (marking_refusal touch k m) OutputShort (states m ∷ []) (simp (sym z, lt-ltb k (states m) b) refl)

    pub short_alone : (out : List ℕ) → length out < states m → out ≡ marking_writes touch m out
    unfolding marking_writes marks_in
    short_alone out b =
        let c : length out < (with_touch touch (system_of_model m)).size = omega (arith, touch_size touch m) in
        simp (sym z, lt-ltb (length out) (with_touch touch (system_of_model m)).size c) refl

    pub marks_told : (k s : ℕ) → s ≡ states m → s ≤ k → record { number = 0; values = s ∷ [] } ≡ marking_says touch k m
    unfolding marking_says
    marks_told k s e b =
        let c : states m ≤ k = omega arith in
        told (marking_refusal touch k m) (s ∷ []) (states m ∷ []) (simp (sym z, le-ltb k (states m) c) refl) (ap (λ (n : ℕ). n ∷ []) e)

    pub marks_put : (out : List ℕ) (s : ℕ) (xs : List ℕ) → s ≡ states m → s ≤ length out → xs ≡ marks_of (with_touch touch (system_of_model m))
        → xs ++ drop s out ≡ marking_writes touch m out
    unfolding marking_writes marks_in
    marks_put out s xs e b f =
        let Y = with_touch touch (system_of_model m) in
        let g : s ≡ Y.size = e ∙ sym (touch_size touch m) in
        let c : Y.size ≤ length out = omega arith in
        simp (sym z, le-ltb (length out) Y.size c) (rw (g, f) refl)

-- ---- a call

module _ (bytes lent : List ℕ) where
  pub marks_said : (k : ℕ) → called (marking_says true k (model_of bytes)) bytes lent ≡ marked bytes lent k
  unfolding marking_says marked marks_refusal
  marks_said k = called_answer bytes lent _ _

  pub marks_left : (xs : List ℕ) → written (marking_writes true (model_of bytes) xs) bytes lent xs ≡ output bytes lent xs
  unfolding marking_writes output with_touch
  marks_left xs = refl
