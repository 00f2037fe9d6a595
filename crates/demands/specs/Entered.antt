-- Beyond 01: a location that the marks tell of.
use Rattle.std.specs.Prelude.{◌≡◌, List, ℕ, ◌<◌, get_or}
use Rattle.theory.specs.StateGraph.{location_of}
use Rattle.graph.specs.Plan.{automaton_of}
use Rattle.call.specs.Call.{model_of, states_of}

-- among the bytes that the marks call has written, one for each state, some state of the location has a 1
abbrev pub MarkIn : List ℕ → ℕ → List ℕ → Type 0
MarkIn bytes l marks = (p : ℕ) × (p < states_of bytes) × (location_of (automaton_of (model_of bytes)) p ≡ l) × (get_or marks p 0 ≡ 1)
