-- The number that each call returns, by what the model and the scratch are refused by: past number 8 none says 8.
use mathlib.Core.Path.{◌≡◌, refl, sym, ap, subst, ◌∙◌}
use mathlib.Core.Bool.{Bool, false, cond, ◌&&◌}
use mathlib.Core.Logic.{inl, inr}
use mathlib.Core.List.{List, []}
use Prim.Native.Nat.{ℕ}
use native.Mathlib.Omega.{arith}
use lib.Dec.{eqb, ltb}
use borrow.Author.Tests.{eqb-true, ne_eqb}
use Rattle.theory.proofs.Below.{cond_ind}
use Rattle.number.specs.Answer.{Answer, answer}
use Rattle.model.specs.declared.Model.{Model}
use Rattle.edge_walks.specs.Joint.{lacks_joint_reset}
use Rattle.graph.specs.States.{states}
use Rattle.evidence.specs.Evidence.{Evidence}
use Rattle.evidence.specs.Evidence.{EvidenceRefusal, checked}
use Rattle.evidence.proofs.Answers.{refusal_known}
use Rattle.evidence_writer.specs.Written.{Written, verdict_with, written_for, written_by}
use Rattle.call.specs.Call.{model_of, refusal}
use Rattle.call.specs.Joint.{disjoint, joint_refusal}
use Rattle.call.proofs.Calls.{accepted}
use Rattle.call.proofs.Joint.{joint_refused, joint_past}
use Rattle.op_judge.specs.Judge.{judged}
use Rattle.op_marks.specs.Marks.{short, marks_refusal, marked}
use Rattle.op_check.specs.Check.{evidence_answer, check_answer}
use Rattle.demands.proofs.Admitted.{check_done}
use Rattle.op_write.specs.Write.{written_answer, write_answer}
use Rattle.op_write.proofs.Write.{write_done}
use Rattle.op_judge_joint.specs.JudgeJoint.{joint_judged}
use Rattle.op_marks_joint.specs.MarksJoint.{joint_marks_refusal, joint_marked}
use Rattle.op_write_joint.specs.WriteJoint.{joint_write_answer}
use Rattle.least_time.specs.LeastTime.{least_time}
use Rattle.op_soonest.specs.Sounding.{unreached, soonest_refusal, soonest_answer}
use Rattle.op_sheet_margin.specs.SheetMargin.{sheet_margin_answer}
use Rattle.op_harm.specs.Harm.{harm_answer}
use Rattle.demands.specs.Room.{EachCall}
use Rattle.evidence.specs.Evidence as evidence

pub answer-number : (r : ℕ) (vs : List ℕ) → (answer r vs).number ≡ r
unfolding answer
answer-number r vs = cond_ind (λ (a : Answer). a.number ≡ r) (eqb r 0) (λ t. sym (eqb-true r 0 t)) (λ _. refl)

abbrev NotEight : ℕ → Type 0
NotEight n = n ≡ 8 → ⊥

not_eight : (b : Bool) {x y : ℕ} → NotEight x → NotEight y → NotEight (cond b x y)
not_eight b h k = cond_ind NotEight b (λ _. h) (λ _. k)

module _ (bytes lent : List ℕ) where
  abbrev r : ℕ
  r = refusal bytes lent

  pub joint_write_refused : (joint_refusal bytes lent ≡ 0 → ⊥) → (room : ℕ) → (joint_write_answer bytes lent room).number ≡ joint_refusal bytes lent
  unfolding joint_write_answer
  joint_write_refused ne room = simp (ne_eqb (joint_refusal bytes lent) 0 ne) (answer-number (joint_refusal bytes lent) [])

  -- refused by 1 to 8: so says each
  pub each_refused : (r ≡ 0 → ⊥) → EachCall (λ n. n ≡ r) bytes lent
  unfolding judged marked marks_refusal check_answer write_answer joint_judged joint_marked joint_marks_refusal joint_write_answer soonest_answer soonest_refusal sheet_margin_answer harm_answer
  each_refused ne =
      let refused = ne_eqb r 0 ne in
      let alike = joint_refused bytes lent r refl ne in
      record {
        judge = answer-number _ _;
        marks = λ room. answer-number _ _ ∙ simp refused refl;
        check = λ shown. simp refused (answer-number r []);
        write = λ room. simp refused (answer-number r []);
        judge_joint = answer-number _ _ ∙ alike;
        marks_joint = λ room. answer-number _ _ ∙ simp (alike, refused) refl;
        write_joint = λ room. simp (alike, refused) (answer-number r []);
        soonest = λ l. answer-number _ _ ∙ simp refused refl;
        sheet_margin = answer-number _ _;
        harm = answer-number _ _;
      }

  -- past number 8 no call says 8
  module _ (taken : r ≡ 0) where
    abbrev n : Model
    n = model_of bytes

    marks_past : (room : ℕ) → marks_refusal bytes lent room ≡ short room n
    unfolding marks_refusal
    marks_past room = simp taken refl

    marks_joint_past : (room : ℕ) → joint_marks_refusal bytes lent room ≡ cond (eqb (disjoint n) 0) (short room n) (disjoint n)
    unfolding joint_marks_refusal
    marks_joint_past room = rw (joint_past bytes lent taken) refl

    write_joint_past : (room : ℕ) → joint_write_answer bytes lent room ≡ cond (eqb (disjoint n) 0) (written_answer (written_by false n room)) (answer (disjoint n) [])
    unfolding joint_write_answer
    write_joint_past room = rw (joint_past bytes lent taken) refl

    soonest_past : (l : ℕ) → soonest_refusal bytes l lent ≡ unreached n l
    unfolding soonest_refusal
    soonest_past l = simp taken refl

    short_not : (room : ℕ) → NotEight (short room n)
    short_not room = not_eight (ltb room (states n)) (λ e. omega arith) (λ e. omega arith)

    disjoint_not : NotEight (disjoint n)
    disjoint_not = not_eight (lacks_joint_reset n) (λ e. omega arith) (λ e. omega arith)

    unreached_not : (l : ℕ) → NotEight (unreached n l)
    unfolding unreached
    unreached_not l = not_eight (ltb l n.locations && ltb (least_time n l) (states n)) (λ e. omega arith) (λ e. omega arith)

    written_not : (bad : Bool) (need room : ℕ) → NotEight (written_answer (verdict_with bad need room)).number
    unfolding written_answer verdict_with
    written_not bad need room =
        cond_ind (λ (w : Written). NotEight (written_answer w).number) (ltb room need) (λ _ e. omega arith)
        (λ _. cond_ind (λ (w : Written). NotEight (written_answer w).number) bad (λ _ e. omega arith) (λ _ e. omega arith))

    checked_not : (shown : List ℕ) → NotEight (evidence_answer (checked n shown)).number
    unfolding evidence_answer
    checked_not shown = by (checked n shown) refl
      where
        known : (k : ℕ) → EvidenceRefusal k → NotEight k
        known k (inl (inl a)) e = omega arith
        known k (inl (inr (inl a))) e = omega arith
        known k (inl (inr (inr a))) e = omega arith
        known k (inr (inl a)) e = omega arith
        known k (inr (inr a)) e = omega arith

        by : (x : Evidence) → checked n shown ≡ x → NotEight (evidence_answer x).number
        by evidence.Sheet c e = omega arith
        by evidence.Trail c e = omega arith
        by (evidence.Refused k) c e = known k (refusal_known n shown (accepted bytes lent taken) k c) e

    pub each_past : EachCall NotEight bytes lent
    unfolding judged marked joint_judged joint_marked soonest_answer sheet_margin_answer harm_answer written_for written_by
    each_past =
        record {
          judge = λ e. omega (arith, sym (answer-number r _) ∙ e);
          marks = λ room. subst NotEight (sym (answer-number _ _ ∙ marks_past room)) (short_not room);
          check = λ shown. subst NotEight (sym (ap (λ (a : Answer). a.number) (check_done bytes shown lent taken))) (checked_not shown);
          write = λ room. subst NotEight (sym (ap (λ (a : Answer). a.number) (write_done bytes lent taken room))) (written_not _ _ room);
          judge_joint = subst NotEight (sym (answer-number _ _ ∙ joint_past bytes lent taken)) disjoint_not;
          marks_joint = λ room.
              subst NotEight (sym (answer-number _ _ ∙ marks_joint_past room)) (not_eight (eqb (disjoint n) 0) (short_not room) disjoint_not);
          write_joint = λ room. subst (λ (a : Answer). NotEight a.number) (sym (write_joint_past room))
              (cond_ind (λ (a : Answer). NotEight a.number) (eqb (disjoint n) 0) (λ _. written_not _ _ room)
              (λ _. subst NotEight (sym (answer-number (disjoint n) [])) disjoint_not));
          soonest = λ l. subst NotEight (sym (answer-number _ _ ∙ soonest_past l)) (unreached_not l);
          sheet_margin = λ e. omega (arith, sym (answer-number r _) ∙ e);
          harm = λ e. omega (arith, sym (answer-number r _) ∙ e);
        }
