-- What comes of a reading, by its ways: a value or a refusal; a state reached or a refusal.
use Prim.Native.Nat.{ℕ, zero, suc}
use native.Mathlib.Omega.{arith}
use mathlib.Core.Path.{◌≡◌, refl, ap, subst}
use mathlib.Core.Logic.{◌⊎◌, inl, inr}
use mathlib.Core.List.{List, ◌∷◌}
use lib.ListN.{length}
use Rattle.number.specs.Number.{Number, on_number}
use Rattle.evidence_number.specs.Evidence.{read_evidence, NumberRefusal}
use Rattle.evidence_number.proofs.Reading.{Reads, none, more, refused_within, refusal_positive}
use Rattle.evidence_number.specs.Numbers.{Numbers, got, refused, on_numbers}
use Rattle.trail_numbers.specs.Numbers.{numbers_at}
use Rattle.replay.specs.Trail.{Reached}
use Rattle.replay.specs.Trail.{At, Refused}
use Rattle.replay.specs.Trail.{on_reached}
use Rattle.number.specs.Number as number

-- a property of each way is one of what comes of the reading
module _ {A : Type 0} (P : A → Type 0) where
  pub number_ind : (n : Number) {go : ℕ → ℕ → A} {stop : ℕ → A}
      → ((v to : ℕ) → n ≡ number.Value v to → P (go v to)) → ((r : ℕ) → n ≡ number.Refused r → P (stop r)) → P (on_number n go stop)
  number_ind (number.Value v to) a b = a v to refl
  number_ind (number.Refused r) a b = b r refl

  pub numbers_ind : (n : Numbers) {go : List ℕ → ℕ → A} {stop : ℕ → A}
      → ((vs : List ℕ) (to : ℕ) → n ≡ got vs to → P (go vs to)) → ((r : ℕ) → n ≡ refused r → P (stop r)) → P (on_numbers n go stop)
  numbers_ind (got vs to) a b = a vs to refl
  numbers_ind (refused r) a b = b r refl

  pub reached_ind : (n : Reached) {go : ℕ → ℕ → A} {stop : ℕ → A}
      → ((q to : ℕ) → n ≡ At q to → P (go q to)) → ((r : ℕ) → n ≡ Refused r → P (stop r)) → P (on_reached n go stop)
  reached_ind (At q to) a b = a q to refl
  reached_ind (Refused r) a b = b r refl

-- the refusals of numbers and steps
abbrev pub Refusal : ℕ → Type 0
Refusal r = NumberRefusal r ⊎ (r ≡ 13)

pub bad : Refusal 13
bad = inr refl

pub read_refusal : (bs : List ℕ) (at r : ℕ) → read_evidence bs at ≡ number.Refused r → Refusal r
read_refusal bs at r e = inl (refused_within bs at r e)

pub not_zero : (r : ℕ) → Refusal r → r ≡ 0 → ⊥
not_zero r (inl z) h = omega (arith, refusal_positive r z)
not_zero r (inr z) h = omega arith

-- a state and an offset with a property, or a refusal
pub data Told (P : ℕ → ℕ → Type 0) : Reached → Type 0 where
  reached : {q to : ℕ} → P q to → Told P (At q to)
  halted : {r : ℕ} → Refusal r → Told P (Refused r)

module _ {P : ℕ → ℕ → Type 0} where
  pub told_at : {n : Reached} {q to : ℕ} → Told P n → n ≡ At q to → P q to
  told_at {q = q} {to = to} t e = by (subst (Told P) e t)
    where
      by : Told P (At q to) → P q to
      by (reached h) = h

  pub told_refused : {n : Reached} {r : ℕ} → Told P n → n ≡ Refused r → Refusal r
  told_refused {r = r} t e = by (subst (Told P) e t)
    where
      by : Told P (Refused r) → Refusal r
      by (halted h) = h

  pub told_map : {Q : ℕ → ℕ → Type 0} {n : Reached} → ((q to : ℕ) → P q to → Q q to) → Told P n → Told Q n
  told_map f (reached {q = q} {to = to} h) = reached (f q to h)
  told_map f (halted h) = halted h

-- ---- as many numbers as are asked for

module _ (bs : List ℕ) where
  data NumbersTold (k at : ℕ) : Numbers → Type 0 where
    told : {vs : List ℕ} {end : ℕ} → length vs ≡ k → Reads bs at vs end → NumbersTold k at (got vs end)
    stopped : {r : ℕ} → Refusal r → NumbersTold k at (refused r)

  numbers_told : (k at : ℕ) → NumbersTold k at (numbers_at bs k at)
  unfolding numbers_at
  numbers_told zero at = told refl none
  numbers_told (suc k) at =
      number_ind (NumbersTold (suc k) at) (read_evidence bs at)
      (λ v to e. by v to e (numbers_at bs k to) (numbers_told k to))
      (λ r e. stopped (read_refusal bs at r e))
    where
      by : (v to : ℕ) → read_evidence bs at ≡ number.Value v to → (n : Numbers) → NumbersTold k to n
          → NumbersTold (suc k) at (on_numbers n (λ vs end. got (v ∷ vs) end) refused)
      by v to e (got vs end) (told l s) = told (ap suc l) (more e s)
      by v to e (refused r) (stopped h) = stopped h

  pub numbers_is : (k at : ℕ) (vs : List ℕ) (end : ℕ) → numbers_at bs k at ≡ got vs end → (length vs ≡ k) × Reads bs at vs end
  numbers_is k at vs end e = by (subst (NumbersTold k at) e (numbers_told k at))
    where
      by : NumbersTold k at (got vs end) → (length vs ≡ k) × Reads bs at vs end
      by (told l s) = (l, s)

  pub numbers_refused : (k at r : ℕ) → numbers_at bs k at ≡ refused r → Refusal r
  numbers_refused k at r e = by (subst (NumbersTold k at) e (numbers_told k at))
    where
      by : NumbersTold k at (refused r) → Refusal r
      by (stopped h) = h

  pub is_numbers : {at end : ℕ} {vs : List ℕ} → Reads bs at vs end → numbers_at bs (length vs) at ≡ got vs end
  unfolding numbers_at
  is_numbers none = refl
  is_numbers (more e s) = simp (e, is_numbers s)
