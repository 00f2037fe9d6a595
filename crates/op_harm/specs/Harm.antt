-- How soon drift does harm, by our own trail.
use Rattle.std.specs.Prelude.{Result, cond, List, [], ◌∷◌, ℕ}
use Rattle.theory.specs.Below.{bit}
use Rattle.theory.specs.Marked.{unsafe}
use Rattle.number.specs.Answer.{Answer, answer}
use Rattle.model.specs.declared.Model.{Model}
use Rattle.graph.specs.Plan.{system_of_model}
use Rattle.graph.specs.States.{states}
use Rattle.trail_delay.specs.Ours.{our_delay}
use Rattle.outlook.specs.declared.Outlook.{Outlook}
use Rattle.limits.specs.declared.refusal.Refusal.{Refusal}
use Rattle.call.specs.Answered.{answered}
use Rattle.call.specs.Call.{model_of, refusal}
use Rattle.op_harm.specs.declared.Onset.{Onset}
use Rattle.op_harm.specs.declared.Onset.TheVariants.{Safe, Within}
use Rattle.outlook.specs.declared.Outlook.TheVariants as outlook

-- the verdict, 0 safe and 1 unsafe, S, base and rate, 0 where there is no harm
unfoldable pub harm_values : Model → List ℕ
harm_values m =
    bit (unsafe (system_of_model m))
    ∷ states m
    ∷ cond (unsafe (system_of_model m)) (our_delay m).base 0
    ∷ cond (unsafe (system_of_model m)) (our_delay m).rate 0
    ∷ []

-- what the call says of these bytes with scratch of these lengths
unfoldable pub harm_answer : List ℕ → List ℕ → Answer
harm_answer bytes lent = answer (refusal bytes lent) (harm_values (model_of bytes))

-- the values for each case
abbrev pub onset_values : Onset → List ℕ
onset_values (Safe s) = 0 ∷ s ∷ 0 ∷ 0 ∷ []
onset_values (Within s b r) = 1 ∷ s ∷ b ∷ r ∷ []

-- number and values
abbrev pub onset_answer : Result Onset Refusal → Answer
onset_answer = answered onset_values

-- the values by what is found
unfoldable pub harm_in : ℕ → Outlook → List ℕ
harm_in s (outlook.Safe a) = 0 ∷ s ∷ 0 ∷ 0 ∷ []
harm_in s (outlook.Unsafe b r) = 1 ∷ s ∷ b ∷ r ∷ []
