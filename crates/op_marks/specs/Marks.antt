-- The marks. 01: "the S marks of 1 and 0, a byte each", which "fill the output from its first byte".
use Rattle.std.specs.Prelude.{Bool, Result, cond, List, [], ◌∷◌, ◌++◌, ℕ, eqb, ltb, length, drop}
use Rattle.theory.specs.Below.{bit, tab}
use Rattle.theory.specs.System.{System}
use Rattle.theory.specs.Marked.{marks}
use Rattle.theory.specs.WithoutTouch.{with_touch}
use Rattle.model.specs.declared.Model.{Model}
use Rattle.graph.specs.Plan.{system_of_model}
use Rattle.graph.specs.States.{states}
use Rattle.limits.specs.declared.refusal.Refusal.{Refusal}
use Rattle.number.specs.Answer.{Answer, answer}
use Rattle.call.specs.Answered.{answered}
use Rattle.call.specs.Call.{model_of, states_of, refusal}
use Rattle.call.specs.Joint.{disjoint_for}

-- "output too short for the marks"
abbrev pub short : ℕ → Model → ℕ
short room m = cond (ltb room (states m)) 9 0

-- "9 is last"
unfoldable pub marks_refusal : List ℕ → List ℕ → ℕ → ℕ
marks_refusal bytes lent room = cond (eqb (refusal bytes lent) 0) (short room (model_of bytes)) (refusal bytes lent)

-- "the marks call's is S"
unfoldable pub marked : List ℕ → List ℕ → ℕ → Answer
marked bytes lent room = answer (marks_refusal bytes lent room) (states_of bytes ∷ [])

unfoldable pub marks_of : System → List ℕ
marks_of Y = tab Y.size (λ p. bit (marks Y p))

-- the marks in an output that is long enough; a shorter one is untouched
unfoldable pub marks_in : System → List ℕ → List ℕ
marks_in Y out = cond (ltb (length out) Y.size) out (marks_of Y ++ drop Y.size out)

-- "Output is untouched on refusal; on success only .. the S marks .. change"
unfoldable pub output : List ℕ → List ℕ → List ℕ → List ℕ
output bytes lent out = cond (eqb (refusal bytes lent) 0) (marks_in (system_of_model (model_of bytes)) out) out

-- 01's only value
abbrev pub marking_values : ℕ → List ℕ
marking_values s = s ∷ []

-- 01's number and values
abbrev pub marking_answer : Result ℕ Refusal → Answer
marking_answer = answered marking_values

-- past number 8: 17 where touch steps are left out, then 9
abbrev pub marking_refusal : Bool → ℕ → Model → ℕ
marking_refusal touch room m = cond (eqb (disjoint_for touch m) 0) (short room m) (disjoint_for touch m)

unfoldable pub marking_says : Bool → ℕ → Model → Answer
marking_says touch room m = answer (marking_refusal touch room m) (states m ∷ [])

-- and the marks of the plans that are not refused
unfoldable pub marking_writes : Bool → Model → List ℕ → List ℕ
marking_writes touch m out = cond (eqb (disjoint_for touch m) 0) (marks_in (with_touch touch (system_of_model m)) out) out
