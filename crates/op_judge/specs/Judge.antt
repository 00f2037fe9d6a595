-- The judge. 01: "The judge's answer is the verdict, S, and the count that the program below prints".
use Rattle.std.specs.Prelude.{Bool, Result, cond, List, [], ◌∷◌, ℕ}
use Rattle.theory.specs.Below.{bit, count}
use Rattle.theory.specs.System.{System}
use Rattle.theory.specs.Marked.{marks, unsafe}
use Rattle.theory.specs.Trail.{trail_steps}
use Rattle.theory.specs.WithoutTouch.{with_touch}
use Rattle.graph.specs.Plan.{system_of_model}
use Rattle.op_judge.specs.declared.Judgement.{Judgement}
use Rattle.op_judge.specs.declared.Judgement.TheVariants.{Safe, Unsafe}
use Rattle.limits.specs.declared.refusal.Refusal.{Refusal}
use Rattle.number.specs.Answer.{Answer, answer}
use Rattle.model.specs.declared.Model.{Model}
use Rattle.call.specs.Answered.{answered}
use Rattle.call.specs.Call.{model_of, refusal}
use Rattle.call.specs.Joint.{disjoint_for}

-- "the count of in-states if safe, or .. our trail's count"
unfoldable pub count_of : System → ℕ
count_of Y = cond (unsafe Y) (trail_steps Y) (count Y.size (marks Y))

-- the verdict, 0 safe and 1 unsafe, S, and the count
unfoldable pub verdict : System → List ℕ
verdict Y = bit (unsafe Y) ∷ Y.size ∷ count_of Y ∷ []

-- what the judge says of these bytes with scratch of these lengths
unfoldable pub judged : List ℕ → List ℕ → Answer
judged bytes lent = answer (refusal bytes lent) (verdict (system_of_model (model_of bytes)))

-- 01's values for each case
abbrev pub judgement_values : Judgement → List ℕ
judgement_values (Safe s k) = 0 ∷ s ∷ k ∷ []
judgement_values (Unsafe s k) = 1 ∷ s ∷ k ∷ []

-- 01's number and values
abbrev pub judgement_answer : Result Judgement Refusal → Answer
judgement_answer = answered judgement_values

-- past number 8, with touch steps or without
unfoldable pub judge_says : Bool → Model → Answer
judge_says touch m = answer (disjoint_for touch m) (verdict (with_touch touch (system_of_model m)))
