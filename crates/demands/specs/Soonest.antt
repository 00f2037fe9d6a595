-- Request (e) of 02: what the call for the least time answers, and what the answers for all forbidden locations say together.
use Rattle.std.specs.Prelude.{◌≡◌, true, List, [], ◌∷◌, ℕ, ◌<◌}
use Rattle.number.specs.Answer.{Answer}
use Rattle.graph.specs.Plan.{automaton_of}
use Rattle.call.specs.Call.{model_of}
use Rattle.op_soonest.specs.Sounding.{soonest_answer}

-- "a whole number of units"
abbrev pub time_answer : ℕ → Answer
time_answer T = record { number = 0; values = T ∷ [] }

-- "16 when the location number is L or more, or no run gets there"
abbrev pub no_time : Answer
no_time = record { number = 16; values = [] }

-- no forbidden location has a time
abbrev pub ForbiddenNoTime : List ℕ → List ℕ → Type 0
ForbiddenNoTime bytes lent =
    (l : ℕ) → l < (model_of bytes).locations → (automaton_of (model_of bytes)).forbidden l ≡ true → soonest_answer bytes l lent ≡ no_time
