-- Request (h) of 02: "From the model alone, without marking, a new part gives S, the scratch length, an upper limit on the sheet's bytes, and an upper limit
-- on the number of steps in our trail. A refused model gets its number from 1 to 7 instead."
use Rattle.std.specs.Prelude.{◌≡◌, Result, List, [], ◌∷◌, ℕ, ◌+◌, ◌-◌, ◌*◌, ◌≤◌, length}
use Rattle.number.specs.Number.{spell}
use Rattle.number.specs.Shortest.{ShortestForm}
use Rattle.number.specs.Answer.{Answer, answer}
use Rattle.plan_reader.specs.Accept.{read_model}
use Rattle.call.specs.Answered.{answered}
use Rattle.call.specs.Call.{states_of}
use Rattle.limits.specs.declared.refusal.Refusal.{Refusal}
use Rattle.op_room.specs.declared.Space.{Space}

-- ---- what is meant

-- "the longest shortest-form spelling of 2S-1": as long as that of this number, and so the longest of all numbers up to it
pub record LongestForm (top k : ℕ) : Type 0 where
  pub met : (g : List ℕ) × ShortestForm g top × (length g ≡ k)
  pub longest : (g : List ℕ) (v : ℕ) → v ≤ top → ShortestForm g v → length g ≤ k

-- "the sheet limit is the sum of the longest shortest-form spelling of 2S-1 over S numbers, plus one"
pub record SheetLimit (s limit : ℕ) : Type 0 where
  pub bytes : ℕ
  pub each : LongestForm (2 * s - 1) bytes
  pub sum : limit ≡ s * bytes + 1

-- ---- what computes it

unfoldable pub sheet_limit : ℕ → ℕ
sheet_limit s = s * length (spell (2 * s - 1)) + 1

-- ---- the answer

-- "S, the scratch length", which is that of each slice and exact, the sheet limit, and "the step limit is S-1"
unfoldable pub room_for : ℕ → List ℕ
room_for s = s ∷ s ∷ sheet_limit s ∷ (s - 1) ∷ []

unfoldable pub room_answer : List ℕ → Answer
room_answer bytes = answer (read_model bytes).refusal (room_for (states_of bytes))

-- the four values
abbrev pub space_values : Space → List ℕ
space_values r = r.states ∷ r.scratch ∷ r.sheet ∷ r.steps ∷ []

-- the number and the values
abbrev pub space_answer : Result Space Refusal → Answer
space_answer = answered space_values
