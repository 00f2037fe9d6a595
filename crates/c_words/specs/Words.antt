-- Answers as one number each, made of fields. On a refusal the fields beside the number are 0.
use Rattle.std.specs.Prelude.{◌≡◌, Result, Bool, cond, ◌&&◌, List, [], ◌∷◌, ℕ, ◌+◌, ◌-◌, ◌*◌, ◌%◌, ◌^◌, ◌≤◌, ◌<◌, length, get_or, drop, eqb, ltb, leb}
use Rattle.number.specs.Number.{Number, Value, Refused}
use Rattle.number.specs.Shortest.{Spelled}
use Rattle.limits.specs.declared.refusal.Refusal.{Refusal}
use Rattle.number.specs.Answer.{Answer}
use Rattle.call.specs.Answered.{answered}
use Rattle.number.specs.Shortest as spelled

-- a value of an answer; 0 past the last
abbrev pub value : Answer → ℕ → ℕ
value a i = get_or a.values i 0

-- number + 2^8 · verdict (0 safe, 1 unsafe) + 2^16 · S + 2^40 · count
unfoldable pub judge_word : Answer → ℕ
judge_word a = a.number + 2 ^ 8 * value a 0 + 2 ^ 16 * value a 1 + 2 ^ 40 * value a 2

-- number + 2^16 · a count, of states, of bytes or of units of time
unfoldable pub count_word : Answer → ℕ
count_word a = a.number + 2 ^ 16 * value a 0

-- number + 2^8 · kind (1 sheet, 2 trail)
unfoldable pub check_word : Answer → ℕ
check_word a = a.number + 2 ^ 8 * value a 0

-- number + 2^8 · verdict (0 safe, 1 unsafe) + 2^16 · bytes
unfoldable pub write_word : Answer → ℕ
write_word a = a.number + 2 ^ 8 * value a 0 + 2 ^ 16 * value a 1

-- number + 2^16 · S + 2^40 · A
unfoldable pub margin_word : Answer → ℕ
margin_word a = a.number + 2 ^ 16 * value a 0 + 2 ^ 40 * value a 1

-- number + 2^16 · S + 2^40 · the most bytes of a sheet; the scratch length is S, and the step limit S-1
unfoldable pub room_word : Answer → ℕ
room_word a = a.number + 2 ^ 16 * value a 0 + 2 ^ 40 * value a 2

-- Harm is told in a word and in two numbers, base and rate, at the front of an output; it is refused by 9 where there is harm and no room for them.
unfoldable pub harm_short : Answer → ℕ → Bool
harm_short a room = eqb (value a 0) 1 && ltb room 2

-- number + 2^8 · verdict (0 safe, 1 unsafe) + 2^16 · S
unfoldable pub harm_word : Answer → ℕ → ℕ
harm_word a room = cond (harm_short a room) 9 (a.number + 2 ^ 8 * value a 0 + 2 ^ 16 * value a 1)

unfoldable pub harm_out : Answer → List ℕ → List ℕ
harm_out a out = cond (eqb (value a 0) 1 && leb 2 (length out)) (value a 2 ∷ value a 3 ∷ drop 2 out) out

-- number + 2^8 · value + 2^31 · padded (0 shortest, 1 padded) + 2^32 · next, the offset after the number, of which a word has room for the lower 32 bits
unfoldable pub number_word : Spelled → ℕ
number_word (spelled.Shortest v to) = 2 ^ 8 * v + 2 ^ 32 * (to % 2 ^ 32)
number_word (spelled.Padded v to) = 2 ^ 8 * v + 2 ^ 31 + 2 ^ 32 * (to % 2 ^ 32)
number_word (spelled.Refused r) = r

-- a value below 2^21 fits its field
abbrev pub SmallValue : Number → Type 0
SmallValue (Value v to) = v < 2 ^ 21
SmallValue (Refused r) = r ≡ r

-- the number of bytes fits its field
pub record BytesFit (a : Answer) : Type 0 where
  pub few : value a 1 ≤ 2 ^ 40

-- and so where it is the only value
pub record StoredFit (a : Answer) : Type 0 where
  pub few : value a 0 ≤ 2 ^ 40

-- the states and the count have 24 bits each
abbrev pub max_field : ℕ
max_field = 2 ^ 24 - 1

-- the number of states fits its field
pub record StatesFit (a : Answer) : Type 0 where
  pub few : value a 1 ≤ max_field

-- the values fit their fields
pub record Fields (a : Answer) : Type 0 where
  pub fit : (i : ℕ) → value a i ≤ max_field

-- the only value of an answer that is a count
abbrev pub only : ℕ → List ℕ
only n = n ∷ []

-- which fits its field
abbrev pub CountFits : Result ℕ Refusal → Type 0
CountFits answer = value (answered only answer) 0 ≤ 2 ^ 40
