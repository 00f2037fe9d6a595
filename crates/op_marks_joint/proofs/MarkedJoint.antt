-- What the marks call of the quicker judge says and leaves, from what it does past number 8.
use Prim.Native.Nat.{ℕ}
use mathlib.Core.Path.{◌≡◌, refl, ap, ◌∙◌}
use mathlib.Core.Bool.{true, false, cond}
use mathlib.Core.List.{List, [], ◌∷◌}
use Rattle.std.specs.Prelude.{Err}
use Rattle.limits.specs.declared.refusal.Refusal.TheVariants.{NotJoint}
use Rattle.number.specs.Answer.{answer}
use Rattle.model.specs.declared.Model.{Model}
use Rattle.edge_walks.specs.Joint.{lacks_joint_reset}
use Rattle.graph.specs.States.{states}
use Rattle.call.specs.Admitted.{called, written}
use Rattle.call.specs.Call.{model_of, states_of, refusal}
use Rattle.call.specs.Joint.{disjoint, joint_refusal}
use Rattle.call.proofs.Calls.{called_answer}
use Rattle.call.proofs.Joint.{past_joint, past_joint_left}
use Rattle.op_marks.specs.Marks.{short, marking_answer, marking_says, marking_writes}
use Rattle.op_marks_joint.specs.MarksJoint.{joint_marks_refusal, joint_marked, joint_output}

-- past number 8 a plan in which a closed walk that counts has no joint reset is refused by 17, whatever the output
pub answer_disjoint : (m : Model) (k : ℕ) → lacks_joint_reset m ≡ true
    → marking_answer (Err NotJoint) ≡ answer (cond (lacks_joint_reset m) 17 (short k m)) (states m ∷ [])
unfolding answer
answer_disjoint m k t = simp t refl

module _ (bytes lent : List ℕ) where
  pub joint_marks_said : (k : ℕ) → called (marking_says false k (model_of bytes)) bytes lent ≡ joint_marked bytes lent k
  unfolding marking_says joint_marked joint_marks_refusal joint_refusal
  joint_marks_said k =
      called_answer bytes lent _ _
      ∙ ap (λ (n : ℕ). answer n (states_of bytes ∷ [])) (past_joint (refusal bytes lent) (disjoint (model_of bytes)) (short k (model_of bytes)))

  pub joint_marks_left : (xs : List ℕ) → written (marking_writes false (model_of bytes) xs) bytes lent xs ≡ joint_output bytes lent xs
  unfolding marking_writes joint_output joint_refusal
  joint_marks_left xs = past_joint_left (refusal bytes lent) (disjoint (model_of bytes)) _ xs
