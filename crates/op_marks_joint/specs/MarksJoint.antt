-- 02 (g), the marks: "Marks, verdict and sheet are the full judge's".
use Rattle.std.specs.Prelude.{cond, List, [], ◌∷◌, ℕ, eqb}
use Rattle.theory.specs.WithoutTouch.{without_touch}
use Rattle.graph.specs.Plan.{system_of_model}
use Rattle.number.specs.Answer.{Answer, answer}
use Rattle.call.specs.Call.{model_of, states_of}
use Rattle.call.specs.Joint.{joint_refusal}
use Rattle.op_marks.specs.Marks.{short, marks_in}

-- 1 to 8, 17; "9 is last"
unfoldable pub joint_marks_refusal : List ℕ → List ℕ → ℕ → ℕ
joint_marks_refusal bytes lent room = cond (eqb (joint_refusal bytes lent) 0) (short room (model_of bytes)) (joint_refusal bytes lent)

unfoldable pub joint_marked : List ℕ → List ℕ → ℕ → Answer
joint_marked bytes lent room = answer (joint_marks_refusal bytes lent room) (states_of bytes ∷ [])

-- of the plans that are not refused, the marks of time, jump and face steps alone
unfoldable pub joint_output : List ℕ → List ℕ → List ℕ → List ℕ
joint_output bytes lent out = cond (eqb (joint_refusal bytes lent) 0) (marks_in (without_touch (system_of_model (model_of bytes))) out) out
