-- What the check and the marks call say and leave once a plan is admitted.
use Prim.Native.Nat.{ℕ}
use mathlib.Core.Path.{◌≡◌, refl}
use mathlib.Core.List.{List, [], ◌∷◌}
use Rattle.number.specs.Answer.{answer}
use Rattle.graph.specs.Plan.{system_of_model}
use Rattle.evidence.specs.Evidence.{checked}
use Rattle.call.specs.Call.{model_of, states_of, refusal}
use Rattle.op_check.specs.Check.{check_answer, evidence_answer}
use Rattle.op_marks.specs.Marks.{short, marks_refusal, marked, marks_in, output}

module _ (bytes evidence lent : List ℕ) where
  pub check_done : refusal bytes lent ≡ 0 → check_answer bytes evidence lent ≡ evidence_answer (checked (model_of bytes) evidence)
  unfolding check_answer
  check_done is = simp is refl

module _ (bytes lent : List ℕ) (is : refusal bytes lent ≡ 0) where
  pub marks_done : (k : ℕ) → marked bytes lent k ≡ answer (short k (model_of bytes)) (states_of bytes ∷ [])
  unfolding marked marks_refusal
  marks_done k = simp is refl

  pub output_done : (xs : List ℕ) → output bytes lent xs ≡ marks_in (system_of_model (model_of bytes)) xs
  unfolding output
  output_done xs = simp is refl
