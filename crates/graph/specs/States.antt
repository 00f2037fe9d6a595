-- What the functions on states are lent, and how a number of a state is answered.
use Rattle.std.specs.Prelude.{ℕ, ◌≡◌, Bool, cond, ◌&&◌, List, ltb, eqb, Option, Some, None}
use Rattle.theory.specs.StateGraph.{state_count, location_of, allowed_state}
use Rattle.region_table.specs.Table.{packed_regions}
use Rattle.model.specs.declared.Model.{Model}
use Rattle.graph.specs.Plan.{automaton_of}

-- the table is the list of the model's regions, packed
abbrev pub Listed : Model → List ℕ → Type 0
Listed m table = table ≡ packed_regions m.clocks m.ceiling

-- 01's S
abbrev pub states : Model → ℕ
states m = state_count (automaton_of m) m.locations

-- a number below S is a state; S stands for none
abbrev pub next_of : Model → ℕ → Option ℕ
next_of m q = cond (ltb q (states m)) (Some q) None

-- two allowed states of one location
abbrev pub joined : Model → ℕ → ℕ → Bool
joined m p q =
    (allowed_state (automaton_of m) m.locations p && allowed_state (automaton_of m) m.locations q)
    && eqb (location_of (automaton_of m) p) (location_of (automaton_of m) q)
