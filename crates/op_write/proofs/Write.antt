-- What the writer says and leaves: refused, or our evidence.
use Prim.Native.Nat.{ℕ}
use mathlib.Core.Path.{◌≡◌, refl, sym, ap, ◌∙◌}
use mathlib.Core.Bool.{Bool, true}
use mathlib.Core.List.{List}
use borrow.Author.Tests.{ne_eqb}
use Rattle.std.specs.Prelude.{Result, Ok, Err, IsErrAnd}
use Rattle.limits.specs.declared.refusal.Refusal.{Refusal}
use Rattle.limits.specs.Refusal.{code_of}
use Rattle.number.specs.Answer.{answer}
use Rattle.evidence_writer.specs.declared.Written as declared
use Rattle.evidence_writer.specs.declared.Written.TheVariants as code
use Rattle.spelling.specs.Lays.{filled}
use Rattle.model.specs.declared.Model.{Model}
use Rattle.evidence_writer.specs.Written.{Written, numbered, evidence_by, evidence_in, written_for, written_by}
use Rattle.evidence_writer.proofs.Output.{evidence_by_touch, written_by_touch}
use Rattle.call.specs.Call.{model_of, refusal}
use Rattle.call.specs.Admitted.{called, written}
use Rattle.call.specs.Answered.{answered}
use Rattle.call.specs.Joint.{disjoint_for}
use Rattle.call.proofs.Calls.{code_ne, passed_told}
use Rattle.op_write.specs.Write.{write_answer, write_output, written_answer, written_values, writing_says, writing_leaves}

-- with touch steps the evidence is ours
pub filled_by_touch : (m : Model) (out : List ℕ) → filled (evidence_by true m) out ≡ evidence_in m out
unfolding evidence_in
filled_by_touch m out = ap (λ (bs : List ℕ). filled bs out) (evidence_by_touch m)

-- the answer of the code, by number
pub answered_written : (x : Result declared.Written Refusal) → answered written_values x ≡ written_answer (numbered x)
unfolding written_answer
answered_written (Ok (code.Safe n)) = refl
answered_written (Ok (code.Unsafe n)) = refl
answered_written (Err r) = refl

-- past number 8

module _ (touch : Bool) (m : Model) where
  pub refused_at : (k : ℕ) (x : Result declared.Written Refusal) (r : Refusal) → IsErrAnd x (λ e. e ≡ r) → code_of r ≡ disjoint_for touch m
      → answered written_values x ≡ writing_says touch m k
  unfolding writing_says answer
  refused_at k x r h e = passed_told written_values x r h ∙ sym (simp (sym e, ne_eqb (code_of r) 0 (code_ne r)) refl)

  pub refused_alone : (out : List ℕ) (r : Refusal) → code_of r ≡ disjoint_for touch m → out ≡ writing_leaves touch m out
  unfolding writing_leaves
  refused_alone out r e = simp (sym e, ne_eqb (code_of r) 0 (code_ne r)) refl

  pub writing_told : (k : ℕ) → 0 ≡ disjoint_for touch m → (x : Result declared.Written Refusal) → numbered x ≡ written_by touch m k
      → answered written_values x ≡ writing_says touch m k
  unfolding writing_says
  writing_told k z x e = answered_written x ∙ ap written_answer e ∙ sym (simp (sym z) refl)

  pub writing_left : 0 ≡ disjoint_for touch m → (out out' : List ℕ) → out' ≡ filled (evidence_by touch m) out → out' ≡ writing_leaves touch m out
  unfolding writing_leaves
  writing_left z out out' e = e ∙ sym (simp (sym z) refl)

module _ (bytes lent : List ℕ) where
  module _ (is : refusal bytes lent ≡ 0) where
    pub write_done : (k : ℕ) → write_answer bytes lent k ≡ written_answer (written_for (model_of bytes) k)
    unfolding write_answer
    write_done k = simp is refl

    pub write_output_lem : (xs : List ℕ) → write_output bytes lent xs ≡ evidence_in (model_of bytes) xs
    unfolding write_output
    write_output_lem xs = simp is refl

  -- the answer and the output, from what is said and left past number 8

  pub write_said : (k : ℕ) → called (writing_says true (model_of bytes) k) bytes lent ≡ write_answer bytes lent k
  unfolding writing_says write_answer
  write_said k = ap (λ (w : Written). called (written_answer w) bytes lent) (written_by_touch (model_of bytes) k)

  pub write_left : (xs : List ℕ) → written (writing_leaves true (model_of bytes) xs) bytes lent xs ≡ write_output bytes lent xs
  unfolding writing_leaves write_output
  write_left xs = ap (λ (ys : List ℕ). written ys bytes lent xs) (filled_by_touch (model_of bytes) xs)
