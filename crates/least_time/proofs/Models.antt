-- The labelled system of a lawful model: its steps join states, its start, its size, the states of a location. And what its least times mean.
use mathlib.Core.Path.{◌≡◌, sym, ap, ◌∙◌}
use mathlib.Core.Logic.{◌↔◌}
use mathlib.Core.List.{List}
use Prim.Native.Nat.{ℕ, ◌+◌, ◌*◌, ◌≤◌, ◌<◌}
use native.Mathlib.Omega.{arith}
use native.Mathlib.Nat.{mul-le-mul_right}
use lib.ListN.{length}
use Rattle.limits.specs.Limits.{max_states}
use Rattle.theory.specs.Soonest.{Soonest, Never, Clean, NoTime}
use Rattle.theory.specs.StateGraph.{labelled_of}
use Rattle.theory.proofs.Timed.{Joined}
use Rattle.model.specs.declared.Model.{Model}
use Rattle.model.specs.Model.{Lawful}
use Rattle.graph.specs.Plan.{automaton_of, labelled_of_model}
use Rattle.graph.specs.States.{Listed, states}
use Rattle.graph.proofs.Plan.{capped, within, start_at, size-states}
use Rattle.graph.proofs.States.{count_length, states_limit}
use Rattle.least_time.specs.LeastTime.{least_time}
use Rattle.theory.proofs.TimedRuns as runs

module _ (m : Model) where
  pub size_is : (labelled_of_model m).system.size ≡ states m
  unfolding labelled_of
  size_is = size-states m

module _ (m : Model) (ok : Lawful m) where
  pub joined : Joined (labelled_of_model m)
  joined = runs.joined (automaton_of m) m.locations (within m ok) (capped m ok)

  pub start_below : (labelled_of_model m).system.start < (labelled_of_model m).system.size
  start_below = runs.start_below (automaton_of m) m.locations (within m ok) (capped m ok)

  module _ (table : List ℕ) (listed : Listed m table) where
    -- the start is the first state of its location
    pub start_is : (labelled_of_model m).system.start ≡ m.start * length table
    unfolding labelled_of
    start_is = start_at m ∙ ap (λ (c : ℕ). m.start * c) (sym (count_length m ok table listed))

    pub start_in : m.start * length table < states m
    start_in = omega (arith, start_is, start_below, size_is m)

    -- and so is its product with the location as code reads it
    pub start_room : (l : ℕ) → l ≡ m.start → (l * length table < states m) × (states m ≤ max_states)
    start_room l e = (rw e start_in, states_limit m ok)

    -- the states of a location
    pub location_in : (l : ℕ) → l < m.locations → l * length table + length table ≤ states m
    location_in l h =
        let e : states m ≡ m.locations * length table = ap (λ (c : ℕ). m.locations * c) (sym (count_length m ok table listed)) in
        let k : l + 1 ≤ m.locations = omega arith in
        omega (arith, mul-le-mul_right (length table) k)

  -- ---- what the least times mean

  pub soonest_law : (l T : ℕ) → ((least_time m l < states m) × (least_time m l ≡ T)) ↔ Soonest (automaton_of m) l T
  soonest_law = runs.soonest_law (automaton_of m) m.locations (within m ok) (capped m ok)

  pub never_law : (l : ℕ) → (states m ≤ least_time m l) ↔ Never (automaton_of m) l
  never_law = runs.never_law (automaton_of m) m.locations (within m ok) (capped m ok)

  -- the start is entered at once, and a location that is none never
  pub start_soonest : Soonest (automaton_of m) (automaton_of m).start 0
  start_soonest = runs.start_soonest (automaton_of m) m.locations (within m ok) (capped m ok)

  pub outside_never : (l : ℕ) → m.locations ≤ l → Never (automaton_of m) l
  outside_never = runs.outside_never (automaton_of m) m.locations (within m ok) (capped m ok)

  pub clean_law : Clean (automaton_of m) ↔ NoTime (automaton_of m) m.locations
  clean_law = runs.clean_law (automaton_of m) m.locations (within m ok) (capped m ok)
