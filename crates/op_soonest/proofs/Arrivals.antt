-- What the call says: no such location, no run, or a time; or refused before.
use Prim.Native.Nat.{ℕ, ◌≤◌, ◌<◌}
use mathlib.Core.Path.{◌≡◌, refl, ap}
use mathlib.Core.Bool.{Bool, true, false, ◌&&◌}
use mathlib.Core.List.{List, [], ◌∷◌}
use native.Mathlib.Omega.{arith}
use lib.Dec.{eqb, ltb}
use borrow.Author.Tests.{ne_eqb, eqb-true, eqb-false, ltb-true, lt-ltb, le-ltb}
use Rattle.theory.proofs.Below.{and_right, cond_ind}
use Rattle.model.specs.declared.Model.{Model}
use Rattle.graph.specs.States.{states}
use Rattle.least_time.specs.LeastTime.{least_time}
use Rattle.std.specs.Prelude.{Option, Some, None, unwrap_or, IfSome}
use Rattle.std.specs.Option.{ok_or}
use Rattle.std.specs.Prelude.{Err}
use Rattle.limits.specs.declared.refusal.Refusal.{Refusal}
use Rattle.limits.specs.declared.refusal.Refusal.TheVariants.{Unreached}
use Rattle.limits.specs.Refusal.{code_of}
use Rattle.number.specs.Answer.{answer}
use Rattle.call.specs.Admitted.{called}
use Rattle.call.proofs.Calls.{called_answer, told, refused_told}
use Rattle.call.specs.Call.{model_of, states_of, refusal}
use Rattle.op_soonest.specs.Sounding.{unreached, soonest_refusal, soonest_answer, arrival_answer, soonest_says}

false_right : (b : Bool) → (b && false) ≡ false
false_right true = refl
false_right false = refl

module _ (m : Model) (l : ℕ) where
  pub outside_there : m.locations ≤ l → unreached m l ≡ 16
  unfolding unreached
  outside_there h = rw (le-ltb l m.locations h) refl

  pub never_there : states m ≤ least_time m l → unreached m l ≡ 16
  unfolding unreached
  never_there h = rw (le-ltb (least_time m l) (states m) h, false_right (ltb l m.locations)) refl

  pub time_there : l < m.locations → least_time m l < states m → unreached m l ≡ 0
  unfolding unreached
  time_there h k = rw (lt-ltb l m.locations h, lt-ltb (least_time m l) (states m) k) refl

  sixteen_told : unreached m l ≡ 16 → record { number = 16; values = [] } ≡ soonest_says m l
  sixteen_told e = refused_told (unreached m l) Unreached (least_time m l ∷ []) e

  pub outside_told : m.locations ≤ l → record { number = 16; values = [] } ≡ soonest_says m l
  outside_told h = sixteen_told (outside_there h)

  pub time_told : l < m.locations → (x : Option ℕ) → unwrap_or x (states m) ≡ least_time m l → IfSome x (λ t. t < states m)
      → arrival_answer (ok_or x Unreached) ≡ soonest_says m l
  time_told b None e h = sixteen_told (never_there (omega (arith, e)))
  time_told b (Some t) e h = told (unreached m l) (t ∷ []) (least_time m l ∷ []) (time_there b (omega (arith, e, h))) (ap (λ (n : ℕ). n ∷ []) e)

module _ (bytes : List ℕ) (l : ℕ) (lent : List ℕ) where
  -- what refuses every call refuses this one
  pub soonest_refused : (r : Refusal) → refusal bytes lent ≡ code_of r → (code_of r ≡ 0 → ⊥) → arrival_answer (Err r) ≡ soonest_answer bytes l lent
  unfolding soonest_answer soonest_refusal answer
  soonest_refused r is ne = simp (is, ne_eqb (code_of r) 0 ne) refl

  pub soonest_done : refusal bytes lent ≡ 0 → soonest_answer bytes l lent ≡ answer (unreached (model_of bytes) l) (least_time (model_of bytes) l ∷ [])
  unfolding soonest_answer soonest_refusal
  soonest_done is = simp is refl

  -- the answer, from what is said past number 8
  pub soonest_said : called (soonest_says (model_of bytes) l) bytes lent ≡ soonest_answer bytes l lent
  unfolding soonest_answer soonest_refusal
  soonest_said = called_answer bytes lent _ _

  -- where a time is told, the call is admitted and the time is below the number of states
  pub soonest_taken : soonest_refusal bytes l lent ≡ 0 → (refusal bytes lent ≡ 0) × (least_time (model_of bytes) l < states_of bytes)
  unfolding soonest_refusal unreached
  soonest_taken =
      let m = model_of bytes in
      cond_ind (λ (r : ℕ). r ≡ 0 → (refusal bytes lent ≡ 0) × (least_time m l < states m)) (eqb (refusal bytes lent) 0)
      (λ t z. (
        eqb-true _ _ t,
        cond_ind (λ (r : ℕ). r ≡ 0 → least_time m l < states m) (ltb l m.locations && ltb (least_time m l) (states m))
            (λ b _. ltb-true (least_time m l) (states m) (and_right (ltb l m.locations) (ltb (least_time m l) (states m)) b)) (λ _ x. absurd (omega arith)) z,
      ))
      (λ f z. absurd (eqb-false _ _ f z))
