-- Calls that write bytes. 02: "its answer, as of any later call that writes bytes and names no other, is their number."
use Rattle.std.specs.Prelude.{cond, List, [], ◌∷◌, ℕ, Result, Ok, Err, eqb, ltb, length}
use Rattle.limits.specs.declared.refusal.Refusal.{Refusal}
use Rattle.limits.specs.Refusal.{code_of}
use Rattle.number.specs.Answer.{Answer, answer}
use Rattle.spelling.specs.Lays.{filled}

-- the number and the value of each case
unfoldable pub stored_answer : Result ℕ Refusal → Answer
stored_answer (Ok n) = record { number = 0; values = n ∷ [] }
stored_answer (Err r) = record { number = code_of r; values = [] }

-- "Output too short is 9, after" every other refusal
abbrev pub last_refusal : ℕ → ℕ → ℕ → ℕ
last_refusal refusal need room = cond (eqb refusal 0) (cond (ltb room need) 9 0) refusal

-- what such a call says that is refused for another reason, or has these bytes to write
unfoldable pub bytes_answer : ℕ → List ℕ → ℕ → Answer
bytes_answer refusal bs room = answer (last_refusal refusal (length bs) room) (length bs ∷ [])

-- what it leaves in the output
unfoldable pub bytes_output : ℕ → List ℕ → List ℕ → List ℕ
bytes_output refusal bs out = cond (eqb refusal 0) (filled bs out) out
