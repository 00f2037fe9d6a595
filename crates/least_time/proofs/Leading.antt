-- Jumps and units of waiting by the numbers that the functions on states answer.
use mathlib.Core.Path.{◌≡◌, refl, sym, ap, ◌∙◌}
use mathlib.Core.Bool.{true}
use mathlib.Core.Logic.{◌↔◌}
use Prim.Native.Nat.{ℕ, ◌≤◌, ◌<◌}
use native.Mathlib.Omega.{arith}
use native.Mathlib.Decide.{dec_lt}
use Rattle.theory.specs.Soonest.{jump_step, unit_step}
use Rattle.theory.specs.StateGraph.{time_from, jump_from}
use Rattle.theory.proofs.StateGraph.{time_is}
use Rattle.theory.proofs.TimedRuns.{jump_step↔, unit_step↔}
use Rattle.model.specs.declared.Model.{Model}
use Rattle.graph.specs.Plan.{automaton_of, labelled_of_model}
use Rattle.graph.specs.States.{states, next_of}
use Rattle.std.specs.Prelude.{Option, Some, None}
use Rattle.graph.proofs.Plan.{edges_length}
use Rattle.graph.proofs.Numbers.{to_next, none_next, next_to, next_none}
use Rattle.search.specs.Queue.{Between}

module _ (m : Model) where
  -- ---- a unit of waiting

  abbrev time : ℕ → ℕ
  time p = time_from (automaton_of m) m.locations p

  -- there is no time step from what is no state
  time_state : (p : ℕ) → time p < states m → p < states m
  time_state p h = (time_is (automaton_of m) m.locations p (time p) refl h).0

  pub unit_none : (p : ℕ) → next_of m (time p) ≡ None → None ≡ next_of m (time (time p))
  unit_none p e = by (dec_lt (time (time p)) (states m))
    where
      by : Dec (time (time p) < states m) → None ≡ next_of m (time (time p))
      by (yes h) = absurd (omega (arith, time_state (time p) h, next_none m (time p) e))
      by (no h) = let k : states m ≤ time (time p) = omega arith in sym (none_next m (time (time p)) k)

  pub unit_state : (p q : ℕ) → next_of m (time p) ≡ Some q → q < states m
  unit_state p q e = (next_to m (time p) q e).1

  pub unit_some : (p q : ℕ) (r : Option ℕ) → next_of m (time p) ≡ Some q → r ≡ next_of m (time q) → r ≡ next_of m (time (time p))
  unit_some p q r e d = d ∙ ap (λ (x : ℕ). next_of m (time x)) (sym (next_to m (time p) q e).0)

  pub unit↔ : (p q : ℕ) → (next_of m (time (time p)) ≡ Some q) ↔ (unit_step (labelled_of_model m) p q ≡ true)
  unit↔ p q = (
    λ e.
        let (d, h) = next_to m (time (time p)) q e in
        (unit_step↔ (automaton_of m) m.locations p q).1 (time_state (time p) (rw d h), d, h),
    λ u.
        let (a, d, h) = (unit_step↔ (automaton_of m) m.locations p q).0 u in
        rw d (to_next m q h),
  )

  -- ---- the jumps of a state

  abbrev pub JumpsTo : ℕ → ℕ → ℕ → Type 0
  JumpsTo p e q = next_of m (jump_from (automaton_of m) m.locations e p) ≡ Some q

  pub jump_some : (p q : ℕ) → Between 0 m.edges (JumpsTo p) q → jump_step (labelled_of_model m) p q ≡ true
  jump_some p q t =
      let (d, h) = next_to m _ q t.is in
      (jump_step↔ (automaton_of m) m.locations p q).1 (t.place, omega (arith, t.before, edges_length m), d, h)

  pub jump_all : (p q : ℕ) → jump_step (labelled_of_model m) p q ≡ true → Between 0 m.edges (JumpsTo p) q
  jump_all p q j =
      let (e, b, d, h) = (jump_step↔ (automaton_of m) m.locations p q).0 j in
      record { place = e; after = omega arith; before = omega (arith, edges_length m); is = rw d (to_next m q h) }
