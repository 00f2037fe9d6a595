-- The evidence check. 01: "the check's is 1 for a passing sheet, 2 for a passing trail".
use Rattle.std.specs.Prelude.{cond, List, [], ◌∷◌, ℕ, eqb}
use Rattle.evidence.specs.Evidence.{Evidence}
use Rattle.evidence.specs.Evidence.{Sheet, Trail, Refused}
use Rattle.evidence.specs.Evidence.{checked}
use Rattle.evidence.specs.declared.Evidence as declared
use Rattle.evidence.specs.declared.Evidence.TheVariants as code
use Rattle.number.specs.Answer.{Answer, answer}
use Rattle.call.specs.Call.{model_of, refusal}

-- 01's number and values for each case
unfoldable pub evidence_answer : Evidence → Answer
evidence_answer Sheet = record { number = 0; values = 1 ∷ [] }
evidence_answer Trail = record { number = 0; values = 2 ∷ [] }
evidence_answer (Refused r) = record { number = r; values = [] }

-- 01's values for what passed
abbrev pub evidence_values : declared.Evidence → List ℕ
evidence_values code.Sheet = 1 ∷ []
evidence_values code.Trail = 2 ∷ []

-- what the check says of these bytes as a model and as evidence, with scratch of these lengths: "Evidence next"
unfoldable pub check_answer : List ℕ → List ℕ → List ℕ → Answer
check_answer bytes evidence lent = cond (eqb (refusal bytes lent) 0) (evidence_answer (checked (model_of bytes) evidence)) (answer (refusal bytes lent) [])
