-- 02 (g), the evidence: "Marks, verdict and sheet are the full judge's; a trail here has no touch and is the fewest-step one without it".
use Rattle.std.specs.Prelude.{false, cond, List, [], ℕ, eqb}
use Rattle.number.specs.Answer.{Answer, answer}
use Rattle.spelling.specs.Lays.{filled}
use Rattle.evidence_writer.specs.Written.{evidence_by, written_by}
use Rattle.call.specs.Call.{model_of}
use Rattle.call.specs.Joint.{joint_refusal}
use Rattle.op_write.specs.Write.{written_answer}

-- what the writer says of these bytes with scratch of these lengths and an output of so many bytes
unfoldable pub joint_write_answer : List ℕ → List ℕ → ℕ → Answer
joint_write_answer bytes lent room =
    cond (eqb (joint_refusal bytes lent) 0) (written_answer (written_by false (model_of bytes) room)) (answer (joint_refusal bytes lent) [])

-- what it leaves in the output
unfoldable pub joint_write_output : List ℕ → List ℕ → List ℕ → List ℕ
joint_write_output bytes lent out = cond (eqb (joint_refusal bytes lent) 0) (filled (evidence_by false (model_of bytes)) out) out
