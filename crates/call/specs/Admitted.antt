-- What a call goes on with, and what comes of it.
use Rattle.std.specs.Prelude.{◌≡◌, cond, List, [], ℕ, eqb}
use Rattle.number.specs.Answer.{Answer, answer}
use Rattle.call.specs.declared.Admission.{Admission}
use Rattle.call.specs.Call.{model_of, states_of, refusal}

-- the plan that the bytes spell, and S
pub record Admitted (bytes : List ℕ) (a : Admission) : Type 0 where
  pub states : a.states ≡ states_of bytes
  pub model : a.plan.model ≡ model_of bytes

-- what is said past number 8; earlier, the refusal
abbrev pub called : Answer → List ℕ → List ℕ → Answer
called said bytes lent = cond (eqb (refusal bytes lent) 0) said (answer (refusal bytes lent) [])

-- what is left in the output past number 8; earlier, it is untouched
abbrev pub written : List ℕ → List ℕ → List ℕ → List ℕ → List ℕ
written past bytes lent out = cond (eqb (refusal bytes lent) 0) past out
