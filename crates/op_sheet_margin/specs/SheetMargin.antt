-- How slight a drift is harmless for ever, by our own sheet.
use Rattle.std.specs.Prelude.{Result, cond, List, [], ◌∷◌, ℕ}
use Rattle.theory.specs.Below.{bit}
use Rattle.theory.specs.Marked.{unsafe}
use Rattle.number.specs.Answer.{Answer, answer}
use Rattle.model.specs.declared.Model.{Model}
use Rattle.graph.specs.Plan.{system_of_model}
use Rattle.graph.specs.States.{states}
use Rattle.outlook.specs.declared.Outlook.{Outlook}
use Rattle.outlook.specs.Outlook.{our_margin}
use Rattle.limits.specs.declared.refusal.Refusal.{Refusal}
use Rattle.call.specs.Answered.{answered}
use Rattle.call.specs.Call.{model_of, refusal}
use Rattle.op_sheet_margin.specs.declared.Bound.{Bound}
use Rattle.op_sheet_margin.specs.declared.Bound.TheVariants.{Safe, Unsafe}
use Rattle.outlook.specs.declared.Outlook.TheVariants as outlook

-- the verdict, 0 safe and 1 unsafe, S, and the margin A, 0 where there is none
unfoldable pub bound_values : Model → List ℕ
bound_values m = bit (unsafe (system_of_model m)) ∷ states m ∷ cond (unsafe (system_of_model m)) 0 (our_margin m) ∷ []

-- what the call says of these bytes with scratch of these lengths
unfoldable pub sheet_margin_answer : List ℕ → List ℕ → Answer
sheet_margin_answer bytes lent = answer (refusal bytes lent) (bound_values (model_of bytes))

-- the values for each case
abbrev pub bound_values_of : Bound → List ℕ
bound_values_of (Safe s a) = 0 ∷ s ∷ a ∷ []
bound_values_of (Unsafe s) = 1 ∷ s ∷ 0 ∷ []

-- number and values
abbrev pub bound_answer : Result Bound Refusal → Answer
bound_answer = answered bound_values_of

-- the values by what is found
unfoldable pub bound_in : ℕ → Outlook → List ℕ
bound_in s (outlook.Safe a) = 0 ∷ s ∷ a ∷ []
bound_in s (outlook.Unsafe b r) = 1 ∷ s ∷ 0 ∷ []
