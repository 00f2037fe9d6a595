-- The evidence writer. 01: "the evidence writer's is the verdict and the number of bytes written".
use Rattle.std.specs.Prelude.{Bool, cond, List, [], ◌∷◌, ℕ, eqb}
use Rattle.spelling.specs.Lays.{filled}
use Rattle.model.specs.declared.Model.{Model}
use Rattle.evidence_writer.specs.declared.Written as declared
use Rattle.evidence_writer.specs.declared.Written.TheVariants as code
use Rattle.evidence_writer.specs.Written.{Written, Safe, Unsafe, Refused, evidence_in, evidence_by, written_for, written_by}
use Rattle.number.specs.Answer.{Answer, answer}
use Rattle.call.specs.Call.{model_of, refusal}
use Rattle.call.specs.Joint.{disjoint_for}

-- 01's number and values for each case; the verdict is 0 safe and 1 unsafe
unfoldable pub written_answer : Written → Answer
written_answer (Safe n) = record { number = 0; values = 0 ∷ n ∷ [] }
written_answer (Unsafe n) = record { number = 0; values = 1 ∷ n ∷ [] }
written_answer (Refused r) = record { number = r; values = [] }

-- the values alone
abbrev pub written_values : declared.Written → List ℕ
written_values (code.Safe n) = 0 ∷ n ∷ []
written_values (code.Unsafe n) = 1 ∷ n ∷ []

-- past number 8: 17 where touch steps are left out, then 9 or our evidence
unfoldable pub writing_says : Bool → Model → ℕ → Answer
writing_says touch m room = cond (eqb (disjoint_for touch m) 0) (written_answer (written_by touch m room)) (answer (disjoint_for touch m) [])

unfoldable pub writing_leaves : Bool → Model → List ℕ → List ℕ
writing_leaves touch m out = cond (eqb (disjoint_for touch m) 0) (filled (evidence_by touch m) out) out

-- what the writer says of these bytes with scratch of these lengths and an output of so many bytes: "9 is last"
unfoldable pub write_answer : List ℕ → List ℕ → ℕ → Answer
write_answer bytes lent room = cond (eqb (refusal bytes lent) 0) (written_answer (written_for (model_of bytes) room)) (answer (refusal bytes lent) [])

-- what it leaves in the output
unfoldable pub write_output : List ℕ → List ℕ → List ℕ → List ℕ
write_output bytes lent out = cond (eqb (refusal bytes lent) 0) (evidence_in (model_of bytes) out) out
