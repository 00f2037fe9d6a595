-- Every value of an answer fits its field.
use Prim.Native.Nat.{ℕ, zero, suc, ◌^◌, ◌≤◌, ◌<◌, zero-le}
use native.Mathlib.Nat.{le_of_lt, le_trans}
use native.Mathlib.Omega.{arith}
use mathlib.Core.Path.{◌≡◌, refl, sym, ◌∙◌}
use mathlib.Core.Bool.{Bool, true, false, cond}
use mathlib.Core.List.{List, [], ◌∷◌}
use lib.ListN.{length, get_or}
use lib.Dec.{eqb, ltb}
use borrow.Author.Tests.{eqb-true, ltb-true}
use Rattle.limits.specs.Limits.{max_states}
use Rattle.graph.proofs.Plan.{size-states}
use Rattle.theory.specs.System.{System, Laws}
use Rattle.theory.specs.Marked.{marks, unsafe}
use Rattle.theory.specs.WithoutTouch.{with_touch, without_touch}
use Rattle.theory.proofs.WithoutTouch.{touch_laws}
use Rattle.theory.specs.Trail.{trail_steps}
use Rattle.theory.proofs.Below.{bit-le, count-le, cond_ind}
use Rattle.plan_reader.specs.Accept.{read_model}
use Rattle.model.specs.declared.Model.{Model}
use Rattle.model.specs.Model.{Lawful}
use Rattle.plan_reader.proofs.Accepted.{accepted_lawful}
use Rattle.call.proofs.Calls.{accepted}
use Rattle.graph.specs.Plan.{automaton_of, system_of_model}
use Rattle.graph.specs.States.{states}
use Rattle.graph.proofs.Models.{system_laws}
use Rattle.successors.proofs.Room.{states_limit}
use Rattle.number.specs.Number.{Number, read_number}
use Rattle.number.specs.Shortest.{read_spelled, number_in}
use Rattle.number.proofs.Laws.{Sound, sound}
use Rattle.number.proofs.Shortest.{number_in_lem}
use Rattle.evidence_writer.specs.Written.{Written, verdict_with, written_for, written_by}
use Rattle.evidence_writer.proofs.Output.{evidence_most, evidence_by_most}
use Rattle.op_write.specs.Write.{written_answer, write_answer}
use Rattle.robust.specs.Margin.{margin}
use Rattle.robust_models.proofs.Models.{margin_uniform}
use Rattle.spelling.specs.Calls.{last_refusal, bytes_answer}
use Rattle.canonical.specs.Canonical.{shortest_plan}
use Rattle.canonical.proofs.Shortest.{plan_most}
use Rattle.op_plan.specs.Plan.{plan_answer}
use Rattle.op_margin.specs.Margin.{margin_answer}
use Rattle.op_room.specs.Room.{room_for, room_answer}
use Rattle.op_room.proofs.Limits.{limit_few}
use Rattle.outlook.proofs.Found.{margin_few}
use Rattle.op_sheet_margin.specs.SheetMargin.{bound_values, sheet_margin_answer}
use Rattle.op_harm.specs.Harm.{harm_values, harm_answer}
use Rattle.number.specs.Answer.{Answer, answer}
use Rattle.call.specs.Call.{model_of, states_of, refusal}
use Rattle.call.specs.Joint.{joint_refusal}
use Rattle.op_judge.specs.Judge.{count_of, verdict, judged}
use Rattle.op_marks.specs.Marks.{marks_refusal, marked}
use Rattle.op_judge_joint.specs.JudgeJoint.{joint_judged}
use Rattle.op_marks_joint.specs.MarksJoint.{joint_marks_refusal, joint_marked}
use Rattle.op_write_joint.specs.WriteJoint.{joint_write_answer}
use Rattle.least_time.specs.LeastTime.{least_time}
use Rattle.op_soonest.specs.Sounding.{soonest_refusal, soonest_answer}
use Rattle.op_soonest.proofs.Arrivals.{soonest_taken}
use Rattle.theory.proofs.Trail.{steps_verdict}
use Rattle.c_words.specs.Words.{value, SmallValue, max_field, Fields, StatesFit, BytesFit, StoredFit}
use Rattle.number.specs.Number as number

module _ (Y : System) (L : Laws Y) (few : Y.size ≤ max_states) where
  count_small : count_of Y ≤ Y.size
  unfolding count_of
  count_small =
      cond_ind (λ (k : ℕ). k ≤ Y.size) (unsafe Y)
      (λ u. le_of_lt (ltb-true (trail_steps Y) Y.size (sym (steps_verdict Y L) ∙ u)))
      (λ _. count-le Y.size (marks Y))

  verdict_small : (i : ℕ) → get_or (verdict Y) i 0 ≤ max_field
  unfolding verdict
  verdict_small zero = omega (arith, bit-le (unsafe Y))
  verdict_small (suc zero) = omega (arith, few)
  verdict_small (suc (suc zero)) = omega (arith, count_small, few)
  verdict_small (suc (suc (suc i))) = zero-le

size_few : (m : Model) → Lawful m → (system_of_model m).size ≤ max_states
size_few m ok = omega (arith, size-states m, states_limit ok)

pub judge_fields : (bytes lent : List ℕ) → Fields (judged bytes lent)
unfolding judged answer
judge_fields bytes lent =
    record {
      fit = λ i. cond_ind (λ (a : Answer). value a i ≤ max_field) (eqb (refusal bytes lent) 0)
          (λ t.
          let ok = accepted bytes lent (eqb-true _ _ t) in
          verdict_small (system_of_model (model_of bytes)) (system_laws (model_of bytes) ok) (size_few (model_of bytes) ok) i)
          (λ _. zero-le);
    }

-- ---- the same without touch

past_eight : (bytes lent : List ℕ) → joint_refusal bytes lent ≡ 0 → refusal bytes lent ≡ 0
unfolding joint_refusal
past_eight bytes lent = cond_ind (λ (r : ℕ). r ≡ 0 → refusal bytes lent ≡ 0) (eqb (refusal bytes lent) 0) (λ t _. eqb-true _ _ t) (λ _ z. z)

pub judge_joint_fields : (bytes lent : List ℕ) → Fields (joint_judged bytes lent)
unfolding joint_judged answer with_touch
judge_joint_fields bytes lent =
    record {
      fit = λ i. cond_ind (λ (a : Answer). value a i ≤ max_field) (eqb (joint_refusal bytes lent) 0)
          (λ t.
          let ok = accepted bytes lent (past_eight bytes lent (eqb-true _ _ t)) in
          let Y = system_of_model (model_of bytes) in
          verdict_small (without_touch Y) (touch_laws false Y (system_laws (model_of bytes) ok)) (size_few (model_of bytes) ok) i)
          (λ _. zero-le);
    }

states_small : (m : Model) → Lawful m → (i : ℕ) → get_or (states m ∷ []) i 0 ≤ max_field
states_small m ok zero = omega (arith, states_limit ok)
states_small m ok (suc i) = zero-le

pub marks_fields : (bytes lent : List ℕ) (room : ℕ) → Fields (marked bytes lent room)
unfolding marked answer marks_refusal
marks_fields bytes lent room =
    record {
      fit = λ i. cond_ind (λ (a : Answer). value a i ≤ max_field) (eqb (marks_refusal bytes lent room) 0)
          (λ t. states_small (model_of bytes) (accepted bytes lent (past (eqb-true (marks_refusal bytes lent room) 0 t))) i)
          (λ _. zero-le);
    }
  where
    past : marks_refusal bytes lent room ≡ 0 → refusal bytes lent ≡ 0
    past e = cond_ind (λ (r : ℕ). r ≡ 0 → refusal bytes lent ≡ 0) (eqb (refusal bytes lent) 0) (λ t _. eqb-true _ _ t) (λ _ z. z) e

pub marks_joint_fields : (bytes lent : List ℕ) (room : ℕ) → Fields (joint_marked bytes lent room)
unfolding joint_marked answer joint_marks_refusal
marks_joint_fields bytes lent room =
    record {
      fit = λ i. cond_ind (λ (a : Answer). value a i ≤ max_field) (eqb (joint_marks_refusal bytes lent room) 0)
          (λ t. states_small (model_of bytes) (accepted bytes lent (past_eight bytes lent (past (eqb-true (joint_marks_refusal bytes lent room) 0 t)))) i)
          (λ _. zero-le);
    }
  where
    past : joint_marks_refusal bytes lent room ≡ 0 → joint_refusal bytes lent ≡ 0
    past e = cond_ind (λ (r : ℕ). r ≡ 0 → joint_refusal bytes lent ≡ 0) (eqb (joint_refusal bytes lent) 0) (λ t _. eqb-true _ _ t) (λ _ z. z) e

-- a time that is told is below the number of states
pub soonest_fields : (bytes : List ℕ) (l : ℕ) (lent : List ℕ) → Fields (soonest_answer bytes l lent)
unfolding soonest_answer answer
soonest_fields bytes l lent =
    record {
      fit = λ i. cond_ind (λ (a : Answer). value a i ≤ max_field) (eqb (soonest_refusal bytes l lent) 0)
          (λ t. few (soonest_taken bytes l lent (eqb-true _ _ t)) i)
          (λ _. zero-le);
    }
  where
    few : (refusal bytes lent ≡ 0) × (least_time (model_of bytes) l < states_of bytes) → (i : ℕ) → get_or (least_time (model_of bytes) l ∷ []) i 0 ≤ max_field
    few (taken, h) zero = omega (arith, states_limit (accepted bytes lent taken))
    few t (suc i) = zero-le

-- ---- the number of bytes fits

abbrev Few : Answer → Type 0
Few a = value a 1 ≤ 2 ^ 40

few_none : (r : ℕ) → Few (answer r [])
unfolding answer
few_none r = by (eqb r 0)
  where
    by : (b : Bool) → Few (cond b (record { number = 0; values = [] }) (record { number = r; values = [] }))
    by true = zero-le
    by false = zero-le

few_written : (bad : Bool) (need room : ℕ) → need ≤ 2 ^ 40 → Few (written_answer (verdict_with bad need room))
unfolding written_answer verdict_with
few_written bad need room h =
    cond_ind (λ (w : Written). Few (written_answer w)) (ltb room need) (λ _. zero-le)
    (λ _. cond_ind (λ (w : Written). Few (written_answer w)) bad (λ _. h) (λ _. h))

pub write_room : (bytes lent : List ℕ) (room : ℕ) → BytesFit (write_answer bytes lent room)
unfolding write_answer written_for
write_room bytes lent room =
    let m = model_of bytes in
    record {
      few = cond_ind Few (eqb (refusal bytes lent) 0)
          (λ t. few_written (unsafe (system_of_model m)) _ room (le_trans (evidence_most m (accepted bytes lent (eqb-true _ _ t))) (omega arith)))
          (λ _. few_none (refusal bytes lent));
    }

pub write_joint_room : (bytes lent : List ℕ) (room : ℕ) → BytesFit (joint_write_answer bytes lent room)
unfolding joint_write_answer written_by
write_joint_room bytes lent room =
    let m = model_of bytes in
    record {
      few = cond_ind Few (eqb (joint_refusal bytes lent) 0)
          (λ t.
          let ok = accepted bytes lent (past_eight bytes lent (eqb-true _ _ t)) in
          few_written (unsafe (without_touch (system_of_model m))) _ room (le_trans (evidence_by_most false m ok) (omega arith)))
          (λ _. few_none (joint_refusal bytes lent));
    }

pub plan_room : (bytes : List ℕ) (room : ℕ) → StoredFit (plan_answer bytes room)
unfolding plan_answer bytes_answer answer
plan_room bytes room =
    let r = read_model bytes in
    let last = last_refusal r.refusal (length (shortest_plan r)) room in
    record {
      few = cond_ind (λ (a : Answer). value a 0 ≤ 2 ^ 40) (eqb last 0)
          (λ t. omega (arith, plan_most r (accepted_lawful bytes (none_before r.refusal _ room (eqb-true last 0 t)))))
          (λ _. zero-le);
    }
  where
    none_before : (refusal need room : ℕ) → last_refusal refusal need room ≡ 0 → refusal ≡ 0
    none_before refusal need room =
        cond_ind (λ (k : ℕ). k ≡ 0 → refusal ≡ 0) (eqb refusal 0) (λ t _. eqb-true _ _ t) (λ _ z. z)

-- ---- numbers

pub small_value : (bs : List ℕ) (at : ℕ) → SmallValue (number_in (read_spelled bs at))
small_value bs at = rw (number_in_lem bs at) (by (read_number bs at) (sound bs at))
  where
    by : (n : Number) → Sound bs at n → SmallValue n
    by (number.Value v to) s = s.0
    by (number.Refused r) s = refl

-- ---- the margin

pub margin_fields : (bytes : List ℕ) → Fields (margin_answer bytes)
unfolding margin_answer answer
margin_fields bytes =
    record {
      fit = λ i. cond_ind (λ (a : Answer). value a i ≤ max_field) (eqb (read_model bytes).refusal 0)
          (λ t. few (accepted_lawful bytes (eqb-true _ _ t)) i)
          (λ _. zero-le);
    }
  where
    few : Lawful (model_of bytes) → (i : ℕ) → get_or (states_of bytes ∷ margin (automaton_of (model_of bytes)) (model_of bytes).locations ∷ []) i 0 ≤ max_field
    few ok zero = omega (arith, states_limit ok)
    few ok (suc zero) = omega (arith, margin_uniform (model_of bytes) ok)
    few ok (suc (suc i)) = zero-le

-- ---- the room

pub room_fields : (bytes : List ℕ) → Fields (room_answer bytes)
unfolding room_answer answer room_for
room_fields bytes =
    record {
      fit = λ i. cond_ind (λ (a : Answer). value a i ≤ max_field) (eqb (read_model bytes).refusal 0)
          (λ t. few (accepted_lawful bytes (eqb-true _ _ t)) i)
          (λ _. zero-le);
    }
  where
    few : Lawful (model_of bytes) → (i : ℕ) → get_or (room_for (states_of bytes)) i 0 ≤ max_field
    few ok zero = omega (arith, states_limit ok)
    few ok (suc zero) = omega (arith, states_limit ok)
    few ok (suc (suc zero)) = omega (arith, states_limit ok, limit_few (states_of bytes))
    few ok (suc (suc (suc zero))) = omega (arith, states_limit ok)
    few ok (suc (suc (suc (suc i)))) = zero-le

-- ---- the margin of the sheet, and harm

pub bound_fields : (bytes lent : List ℕ) → Fields (sheet_margin_answer bytes lent)
unfolding sheet_margin_answer answer bound_values
bound_fields bytes lent =
    record {
      fit = λ i. cond_ind (λ (a : Answer). value a i ≤ max_field) (eqb (refusal bytes lent) 0)
          (λ t. few (accepted bytes lent (eqb-true _ _ t)) i)
          (λ _. zero-le);
    }
  where
    m : Model
    m = model_of bytes

    few : Lawful m → (i : ℕ) → get_or (bound_values m) i 0 ≤ max_field
    few ok zero = omega (arith, bit-le (unsafe (system_of_model m)))
    few ok (suc zero) = omega (arith, states_limit ok)
    few ok (suc (suc zero)) =
        cond_ind (λ (a : ℕ). a ≤ max_field) (unsafe (system_of_model m)) (λ _. zero-le)
        (λ u. omega (arith, states_limit ok, margin_few m ok u, ok.clocks))
    few ok (suc (suc (suc i))) = zero-le

pub harm_states : (bytes lent : List ℕ) → StatesFit (harm_answer bytes lent)
unfolding harm_answer answer harm_values
harm_states bytes lent =
    record {
      few = cond_ind (λ (a : Answer). value a 1 ≤ max_field) (eqb (refusal bytes lent) 0)
          (λ t. omega (arith, states_limit (accepted bytes lent (eqb-true _ _ t))))
          (λ _. zero-le);
    }
