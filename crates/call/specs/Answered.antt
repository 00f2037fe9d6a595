-- A result as 01 tells it.
use Rattle.std.specs.Prelude.{List, [], ℕ, Result, Ok, Err}
use Rattle.limits.specs.declared.refusal.Refusal.{Refusal}
use Rattle.limits.specs.Refusal.{code_of}
use Rattle.number.specs.Answer.{Answer}

-- 01's number, and the values of an answer
abbrev pub answered : {A : Type 0} → (A → List ℕ) → Result A Refusal → Answer
answered values (Ok a) = record { number = 0; values = values a }
answered values (Err r) = record { number = code_of r; values = [] }
