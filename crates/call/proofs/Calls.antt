-- The ways of a call: refused for its bytes, refused for its scratch, or past number 8.
use Prim.Native.Nat.{ℕ, zero, suc, ◌≤◌}
use native.Mathlib.Omega.{arith}
use mathlib.Core.Path.{◌≡◌, refl, sym, ◌∙◌, ap}
use mathlib.Core.Bool.{true, cond}
use mathlib.Core.List.{List, [], ◌∷◌}
use lib.ListN.{length}
use lib.Dec.{eqb}
use borrow.Author.Tests.{eqb-true, eqb-false, ne_eqb}
use Rattle.std.specs.Prelude.{Result, Ok, Err, IsErrAnd}
use Rattle.limits.specs.declared.refusal.Refusal.{Refusal}
use Rattle.limits.specs.Refusal.{code_of, refusal_number}
use Rattle.theory.proofs.Below.{and↔, leb↔, test↔, cond_ind}
use Rattle.number.specs.Answer.{Answer, answer}
use Rattle.model.specs.declared.Plan.{Plan}
use Rattle.parser.specs.Parse.{Reading, numbered}
use Rattle.parser.proofs.Stops.{code_some}
use Rattle.plan_reader.specs.Accept.{read_model}
use Rattle.model.specs.Model.{Lawful}
use Rattle.plan_reader.proofs.Accepted.{accepted_lawful}
use Rattle.graph.specs.States.{states}
use Rattle.call.specs.Admitted.{called}
use Rattle.call.specs.Answered.{answered}
use Rattle.call.specs.Call.{model_of, states_of, enough, refusal}
use Rattle.call.specs.Scratch.{lengths, cleared, left, ScratchLeft}

enough_each : (s a b c d : ℕ) → enough s (a ∷ b ∷ c ∷ d ∷ []) ≡ true → (s ≤ a) × (s ≤ b) × (s ≤ c) × (s ≤ d)
unfolding enough
enough_each s a b c d e =
    let (p, e1) = (and↔ (leb↔ s a) (test↔ _)).0 e in
    let (q, e2) = (and↔ (leb↔ s b) (test↔ _)).0 e1 in
    let (r, e3) = (and↔ (leb↔ s c) (test↔ _)).0 e2 in
    (p, q, r, ((and↔ (leb↔ s d) (test↔ _)).0 e3).0)

-- where a call is not refused the model is accepted
pub taken_in : (bytes lent : List ℕ) → refusal bytes lent ≡ 0 → (read_model bytes).refusal ≡ 0
unfolding refusal
taken_in bytes lent e =
    cond_ind (λ (r : ℕ). r ≡ 0 → (read_model bytes).refusal ≡ 0) (eqb (read_model bytes).refusal 0) (λ t _. eqb-true _ _ t) (λ _ z. z) e

pub accepted : (bytes lent : List ℕ) → refusal bytes lent ≡ 0 → Lawful (model_of bytes)
accepted bytes lent e = accepted_lawful bytes (taken_in bytes lent e)

-- and its scratch is long enough
enough_taken : (bytes lent : List ℕ) → refusal bytes lent ≡ 0 → enough (states_of bytes) lent ≡ true
unfolding refusal
enough_taken bytes lent =
    cond_ind (λ (r : ℕ). r ≡ 0 → enough (states_of bytes) lent ≡ true) (eqb (read_model bytes).refusal 0)
    (λ _. cond_ind (λ (r : ℕ). r ≡ 0 → enough (states_of bytes) lent ≡ true) (enough (states_of bytes) lent) (λ t _. t) (λ _ x. absurd (omega arith)))
    (λ f x. absurd (eqb-false _ _ f x))

-- ---- how a call is admitted, from a reading

-- no refusal has number 0
pub code_ne : (r : Refusal) → code_of r ≡ 0 → ⊥
code_ne r e = omega (arith, code_some r)

-- the number of what `?` passes on
pub passed_number : {A : Type 0} (x : Result A Refusal) (r : Refusal) → IsErrAnd x (λ e. e ≡ r) → refusal_number x ≡ code_of r
passed_number (Ok v) r h = absurd h
passed_number (Err e) r h = ap code_of h

-- and the answer that it is
pub passed_told : {A : Type 0} (values : A → List ℕ) (x : Result A Refusal) (r : Refusal) → IsErrAnd x (λ e. e ≡ r)
    → answered values x ≡ record { number = code_of r; values = [] }
passed_told values (Ok v) r h = absurd h
passed_told values (Err e) r h = ap (λ (x : Refusal). record { number = code_of x; values = [] }) h

pub passed_answer : {A : Type 0} (values : A → List ℕ) (x : Result A Refusal) (r : Refusal) → IsErrAnd x (λ e. e ≡ r) → (said : Answer) (bytes lent : List ℕ)
    → refusal bytes lent ≡ code_of r → answered values x ≡ called said bytes lent
unfolding answer
passed_answer values x r h said bytes lent is = passed_told values x r h ∙ sym (simp (is, ne_eqb (code_of r) 0 (code_ne r)) refl)

module _ (bytes lent : List ℕ) where
  pub refused_as : (r : Refusal) → code_of r ≡ (read_model bytes).refusal → refusal bytes lent ≡ code_of r
  unfolding refusal
  refused_as r e = simp (sym e, ne_eqb (code_of r) 0 (code_ne r)) refl

  pub refused_read : (r : Refusal) → numbered (Err r) ≡ read_model bytes → refusal bytes lent ≡ code_of r
  refused_read r e = refused_as r (ap (λ (x : Reading). x.refusal) e)

  pub measured_as : 0 ≡ (read_model bytes).refusal → (s : ℕ) → s ≡ states_of bytes → refusal bytes lent ≡ cond (enough s lent) 0 8
  unfolding refusal
  measured_as e s is = simp (sym e, sym is) refl

  pub measured : (p : Plan) → numbered (Ok p) ≡ read_model bytes → (s : ℕ) → s ≡ states p.model
      → refusal bytes lent ≡ cond (enough s lent) 0 8
  measured p e s is = measured_as (ap (λ (x : Reading). x.refusal) e) s (is ∙ ap (λ (x : Reading). states x.model) e)

-- ---- what is left of four slices

module _ (bytes a b c d : List ℕ) where
  abbrev lent : List ℕ
  lent = lengths a b c d

  -- refused: nothing is touched
  pub untouched : (r : Refusal) → refusal bytes lent ≡ code_of r → ScratchLeft bytes a b c d a b c d
  unfolding left
  untouched r is = record { first = alone a; second = alone b; third = alone c; fourth = alone d }
    where
      alone : (xs : List ℕ) → xs ≡ left bytes lent xs
      alone xs = simp (is, ne_eqb (code_of r) 0 (code_ne r)) refl

  module _ (taken : refusal bytes lent ≡ 0) (s : ℕ) (is : s ≡ states_of bytes) where
    -- each slice has room
    pub room : (s ≤ length a) × (s ≤ length b) × (s ≤ length c) × (s ≤ length d)
    room =
        let (p, q, t, u) = enough_each (states_of bytes) (length a) (length b) (length c) (length d) (enough_taken bytes lent taken) in
        (omega arith, omega arith, omega arith, omega arith)

    -- done: the first S of each are zeros
    pub zero_left : (a' b' c' d' : List ℕ) → a' ≡ cleared s a → b' ≡ cleared s b → c' ≡ cleared s c → d' ≡ cleared s d
        → ScratchLeft bytes a b c d a' b' c' d'
    unfolding left
    zero_left a' b' c' d' e f g h =
        record { first = zero a a' e; second = zero b b' f; third = zero c c' g; fourth = zero d d' h }
      where
        zero : (xs ys : List ℕ) → ys ≡ cleared s xs → ys ≡ left bytes lent xs
        zero xs ys e = simp taken (e ∙ ap (λ (k : ℕ). cleared k xs) is)

-- ---- what is said by number

-- past number 8: no refusal, or one
pub told : (n : ℕ) (xs ys : List ℕ) → n ≡ 0 → xs ≡ ys → record { number = 0; values = xs } ≡ answer n ys
unfolding answer
told n xs ys z e = simp z (ap (λ (vs : List ℕ). record { number = 0; values = vs }) e)

pub refused_told : (n : ℕ) (r : Refusal) (ys : List ℕ) → n ≡ code_of r → record { number = code_of r; values = [] } ≡ answer n ys
unfolding answer
refused_told n r ys e = simp (e, ne_eqb (code_of r) 0 (code_ne r)) refl

module _ (bytes lent : List ℕ) where
  -- a number past 8 comes after the others
  pub called_answer : (n : ℕ) (xs : List ℕ) → called (answer n xs) bytes lent ≡ answer (cond (eqb (refusal bytes lent) 0) n (refusal bytes lent)) xs
  unfolding answer
  called_answer n xs = by (refusal bytes lent)
    where
      by : (r : ℕ) → cond (eqb r 0) (answer n xs) (answer r []) ≡ answer (cond (eqb r 0) n r) xs
      by zero = refl
      by (suc r) = simp (ne_eqb (suc r) 0 (λ e. omega (arith, e))) refl

  pub called_plain : (xs : List ℕ) → called (answer 0 xs) bytes lent ≡ answer (refusal bytes lent) xs
  called_plain xs = called_answer 0 xs ∙ ap (λ (k : ℕ). answer k xs) (by (refusal bytes lent))
    where
      by : (r : ℕ) → cond (eqb r 0) 0 r ≡ r
      by zero = refl
      by (suc r) = simp (ne_eqb (suc r) 0 (λ e. omega (arith, e))) refl
