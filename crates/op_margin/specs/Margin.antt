-- The margin, beyond 01: how slight a drift is harmless for ever if the plan is safe. Refusals are the model's, 1 to 7.
use Rattle.std.specs.Prelude.{Result, List, [], ◌∷◌, ℕ}
use Rattle.plan_reader.specs.Accept.{read_model}
use Rattle.graph.specs.Plan.{automaton_of}
use Rattle.robust.specs.Margin.{margin}
use Rattle.op_margin.specs.declared.Tolerance.{Tolerance}
use Rattle.limits.specs.declared.refusal.Refusal.{Refusal}
use Rattle.number.specs.Answer.{Answer, answer}
use Rattle.call.specs.Answered.{answered}
use Rattle.call.specs.Call.{model_of, states_of}

-- S, and the number A such that every drift e/D below 1/A is harmless for ever if the plan is safe
unfoldable pub margin_answer : List ℕ → Answer
margin_answer bytes =
    answer (read_model bytes).refusal (states_of bytes ∷ margin (automaton_of (model_of bytes)) (model_of bytes).locations ∷ [])

-- the two values
abbrev pub tolerance_values : Tolerance → List ℕ
tolerance_values t = t.states ∷ t.margin ∷ []

-- the number and the values
abbrev pub tolerance_answer : Result Tolerance Refusal → Answer
tolerance_answer = answered tolerance_values
