-- What the writer for plans with a joint reset says and leaves, from what it does past number 8.
use Prim.Native.Nat.{ℕ, zero, suc}
use native.Mathlib.Omega.{arith}
use mathlib.Core.Path.{◌≡◌, refl}
use mathlib.Core.Bool.{true, false, cond}
use mathlib.Core.List.{List, []}
use lib.Dec.{eqb}
use borrow.Author.Tests.{ne_eqb}
use Rattle.number.specs.Answer.{Answer, answer}
use Rattle.model.specs.declared.Model.{Model}
use Rattle.edge_walks.specs.Joint.{lacks_joint_reset}
use Rattle.evidence_writer.specs.Written.{Refused, written_by}
use Rattle.call.specs.Admitted.{called, written}
use Rattle.call.specs.Call.{model_of, refusal}
use Rattle.call.specs.Joint.{disjoint, joint_refusal}
use Rattle.call.proofs.Joint.{past_joint_left}
use Rattle.op_write.specs.Write.{written_answer, writing_says, writing_leaves}
use Rattle.op_write_joint.specs.WriteJoint.{joint_write_answer, joint_write_output}

-- 17 after 1 to 8, then what is said
past_joint_said : (r d : ℕ) (a : Answer) → cond (eqb r 0) (cond (eqb d 0) a (answer d [])) (answer r [])
    ≡ cond (eqb (cond (eqb r 0) d r) 0) a (answer (cond (eqb r 0) d r) [])
past_joint_said zero d a = refl
past_joint_said (suc r) d a = simp (ne_eqb (suc r) 0 (λ e. omega (arith, e))) refl

-- past number 8 a plan in which a closed walk that counts has no joint reset is refused by 17, whatever the output
pub answer_disjoint : (m : Model) (k : ℕ) → lacks_joint_reset m ≡ true
    → written_answer (Refused 17) ≡ cond (lacks_joint_reset m) (answer 17 []) (written_answer (written_by false m k))
unfolding answer written_answer
answer_disjoint m k t = simp t refl

module _ (bytes lent : List ℕ) where
  pub joint_write_said : (k : ℕ) → called (writing_says false (model_of bytes) k) bytes lent ≡ joint_write_answer bytes lent k
  unfolding writing_says joint_write_answer joint_refusal
  joint_write_said k = past_joint_said (refusal bytes lent) (disjoint (model_of bytes)) (written_answer (written_by false (model_of bytes) k))

  pub joint_write_left : (xs : List ℕ) → written (writing_leaves false (model_of bytes) xs) bytes lent xs ≡ joint_write_output bytes lent xs
  unfolding writing_leaves joint_write_output joint_refusal
  joint_write_left xs = past_joint_left (refusal bytes lent) (disjoint (model_of bytes)) _ xs
