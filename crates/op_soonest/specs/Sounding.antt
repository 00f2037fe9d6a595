-- 02 (e), soonest sounding. "The location number is tested after 8. 16 when the location number is L or more, or no run gets there."
use Rattle.std.specs.Prelude.{Result, cond, ◌&&◌, List, [], ◌∷◌, ℕ, eqb, ltb}
use Rattle.limits.specs.declared.refusal.Refusal.{Refusal}
use Rattle.number.specs.Answer.{Answer, answer}
use Rattle.model.specs.declared.Model.{Model}
use Rattle.graph.specs.States.{states}
use Rattle.call.specs.Answered.{answered}
use Rattle.call.specs.Call.{model_of, refusal}
use Rattle.least_time.specs.LeastTime.{least_time}

-- 0 where the number is a location's and some run gets there, else 16
unfoldable pub unreached : Model → ℕ → ℕ
unreached m l = cond (ltb l m.locations && ltb (least_time m l) (states m)) 0 16

-- 1 to 8, then 16
unfoldable pub soonest_refusal : List ℕ → ℕ → List ℕ → ℕ
soonest_refusal bytes l lent = cond (eqb (refusal bytes lent) 0) (unreached (model_of bytes) l) (refusal bytes lent)

-- "The new part returns a whole number of units": what is said of these bytes and this location with scratch of these lengths
unfoldable pub soonest_answer : List ℕ → ℕ → List ℕ → Answer
soonest_answer bytes l lent = answer (soonest_refusal bytes l lent) (least_time (model_of bytes) l ∷ [])

-- 01's only value
abbrev pub arrival_values : ℕ → List ℕ
arrival_values t = t ∷ []

-- 01's number and values
abbrev pub arrival_answer : Result ℕ Refusal → Answer
arrival_answer = answered arrival_values

-- past number 8
abbrev pub soonest_says : Model → ℕ → Answer
soonest_says m l = answer (unreached m l) (least_time m l ∷ [])
