-- The operations see a model's bytes only by what is read from them.
use mathlib.Core.Path.{◌≡◌, ap, ap₂}
use mathlib.Core.Bool.{false, cond}
use mathlib.Core.List.{List, [], ◌∷◌}
use Prim.Native.Nat.{ℕ}
use lib.Dec.{eqb}
use Rattle.theory.specs.WithoutTouch.{without_touch}
use Rattle.number.specs.Answer.{answer}
use Rattle.spelling.specs.Lays.{filled}
use Rattle.spelling.specs.Calls.{bytes_answer, bytes_output}
use Rattle.model.specs.declared.Model.{Model}
use Rattle.parser.specs.Parse.{Reading}
use Rattle.plan_reader.specs.Accept.{read_model}
use Rattle.canonical.specs.Canonical.{shortest_plan}
use Rattle.graph.specs.Plan.{automaton_of, system_of_model}
use Rattle.graph.specs.States.{states}
use Rattle.robust.specs.Margin.{margin}
use Rattle.evidence.specs.Evidence.{checked}
use Rattle.evidence_writer.specs.Written.{evidence_in, written_for, evidence_by, written_by}
use Rattle.call.specs.Call.{model_of, enough, refusal}
use Rattle.call.specs.Scratch.{cleared, left}
use Rattle.call.specs.Joint.{disjoint, joint_refusal}
use Rattle.op_judge.specs.Judge.{verdict, judged}
use Rattle.op_marks.specs.Marks.{short, marks_refusal, marked, marks_in, output}
use Rattle.op_check.specs.Check.{evidence_answer, check_answer}
use Rattle.op_write.specs.Write.{written_answer, write_answer, write_output}
use Rattle.op_judge_joint.specs.JudgeJoint.{joint_judged}
use Rattle.op_marks_joint.specs.MarksJoint.{joint_marks_refusal, joint_marked, joint_output}
use Rattle.op_write_joint.specs.WriteJoint.{joint_write_answer, joint_write_output}
use Rattle.op_plan.specs.Plan.{plan_answer, plan_output}
use Rattle.op_margin.specs.Margin.{margin_answer}
use Rattle.op_room.specs.Room.{room_for, room_answer}
use Rattle.op_sheet_margin.specs.SheetMargin.{bound_values, sheet_margin_answer}
use Rattle.op_harm.specs.Harm.{harm_values, harm_answer}
use Rattle.least_time.specs.LeastTime.{least_time}
use Rattle.op_soonest.specs.Sounding.{unreached, soonest_refusal, soonest_answer}
use Rattle.demands.specs.SameAnswers.{SameTimed, SameAnswers}

module _ (bs cs : List ℕ) where
  -- Sets, verdicts and evidence depend on the timing model alone; what stands beside it in the reading, as the mark does, has no part in them.
  module _ (r : (read_model bs).refusal ≡ (read_model cs).refusal) (m : model_of bs ≡ model_of cs) where
    refused : (lent : List ℕ) → refusal bs lent ≡ refusal cs lent
    unfolding refusal
    refused lent = ap₂ (λ (k : ℕ) (n : Model). cond (eqb k 0) (cond (enough (states n) lent) 0 8) k) r m

    -- whatever is made of the refusal and the model
    seen : {A : Type 0} (f : ℕ → Model → A) (lent : List ℕ) → f (refusal bs lent) (model_of bs) ≡ f (refusal cs lent) (model_of cs)
    seen f lent = ap₂ f (refused lent) m

    -- and of the refusal of the calls for plans with a joint reset
    seen_joint : {A : Type 0} (f : ℕ → Model → A) (lent : List ℕ) → f (joint_refusal bs lent) (model_of bs) ≡ f (joint_refusal cs lent) (model_of cs)
    unfolding joint_refusal
    seen_joint f = seen (λ k n. f (cond (eqb k 0) (disjoint n) k) n)

    pub same_timed : SameTimed bs cs
    unfolding joint_judged joint_marks_refusal joint_marked joint_output joint_write_answer joint_write_output judged marks_refusal marked output check_answer write_answer write_output margin_answer room_answer sheet_margin_answer harm_answer soonest_refusal soonest_answer left
    same_timed =
        record {
          judge = seen (λ k n. answer k (verdict (system_of_model n)));
          marks = λ lent room. seen (λ k n. answer (cond (eqb k 0) (short room n) k) (states n ∷ [])) lent;
          marks_output = λ lent out. seen (λ k n. cond (eqb k 0) (marks_in (system_of_model n) out) out) lent;
          check = λ evidence. seen (λ k n. cond (eqb k 0) (evidence_answer (checked n evidence)) (answer k []));
          write = λ lent room. seen (λ k n. cond (eqb k 0) (written_answer (written_for n room)) (answer k [])) lent;
          write_output = λ lent out. seen (λ k n. cond (eqb k 0) (evidence_in n out) out) lent;
          judge_joint = seen_joint (λ k n. answer k (verdict (without_touch (system_of_model n))));
          marks_joint = λ lent room. seen_joint (λ k n. answer (cond (eqb k 0) (short room n) k) (states n ∷ [])) lent;
          marks_joint_output = λ lent out. seen_joint (λ k n. cond (eqb k 0) (marks_in (without_touch (system_of_model n)) out) out) lent;
          write_joint = λ lent room. seen_joint (λ k n. cond (eqb k 0) (written_answer (written_by false n room)) (answer k [])) lent;
          write_joint_output = λ lent out. seen_joint (λ k n. cond (eqb k 0) (filled (evidence_by false n) out) out) lent;
          margin = ap₂ (λ (k : ℕ) (n : Model). answer k (states n ∷ margin (automaton_of n) n.locations ∷ [])) r m;
          room = ap₂ (λ (k : ℕ) (n : Model). answer k (room_for (states n))) r m;
          sheet_margin = seen (λ k n. answer k (bound_values n));
          harm = seen (λ k n. answer k (harm_values n));
          soonest = λ l. seen (λ k n. answer (cond (eqb k 0) (unreached n l) k) (least_time n l ∷ []));
          scratch = λ lent xs. seen (λ k n. cond (eqb k 0) (cleared (states n) xs) xs) lent;
        }

  pub same_answers : read_model bs ≡ read_model cs → SameAnswers bs cs
  unfolding plan_answer plan_output
  same_answers e =
      record {
        timed = same_timed (ap (λ (r : Reading). r.refusal) e) (ap (λ (r : Reading). r.model) e);
        plan = λ room. ap (λ (r : Reading). bytes_answer r.refusal (shortest_plan r) room) e;
        plan_output = λ out. ap (λ (r : Reading). bytes_output r.refusal (shortest_plan r) out) e;
      }
