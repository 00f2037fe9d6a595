-- What the judge says: refused, or the verdict from the distances.
use Prim.Native.Nat.{ℕ, ◌≤◌, ◌<◌}
use mathlib.Core.Path.{◌≡◌, refl, sym, ◌∙◌}
use mathlib.Core.Bool.{Bool, true, false}
use mathlib.Core.List.{List}
use borrow.Author.Tests.{lt-ltb, le-ltb}
use Rattle.theory.specs.Below.{count}
use Rattle.theory.specs.System.{System, Laws}
use Rattle.theory.specs.Marked.{marks, unsafe}
use Rattle.theory.specs.Trail.{trail_steps}
use Rattle.theory.proofs.Trail.{steps_verdict}
use Rattle.number.specs.Answer.{answer}
use Rattle.graph.specs.Plan.{system_of_model}
use Rattle.call.specs.Call.{model_of, refusal}
use Rattle.op_judge.specs.declared.Judgement.TheVariants.{Safe, Unsafe}
use Rattle.std.specs.Prelude.{Result, IsErrAnd}
use Rattle.op_judge.specs.declared.Judgement.{Judgement}
use Rattle.op_judge.specs.Judge.{count_of, verdict, judged, judgement_values, judgement_answer, judge_says}
use Rattle.theory.specs.WithoutTouch.{with_touch}
use Rattle.call.specs.Admitted.{called}
use Rattle.call.specs.Joint.{disjoint_for}
use Rattle.call.proofs.Calls.{called_plain, passed_told, told, refused_told}
use Rattle.limits.specs.declared.refusal.Refusal.{Refusal}
use Rattle.limits.specs.Refusal.{code_of}
use Rattle.model.specs.declared.Model.{Model}

module _ (Y : System) (L : Laws Y) where
  pub answer_unsafe : (s k : ℕ) → s ≡ Y.size → k ≡ trail_steps Y → k < s → judgement_values (Unsafe s k) ≡ verdict Y
  unfolding verdict count_of
  answer_unsafe s k e f b =
      let u : unsafe Y ≡ true = steps_verdict Y L ∙ lt-ltb _ _ (rw (e, f) at b) in
      rw (u, e, f) refl

  pub answer_safe : (s k d : ℕ) → s ≡ Y.size → d ≡ trail_steps Y → s ≤ d → k ≡ count Y.size (marks Y)
      → judgement_values (Safe s k) ≡ verdict Y
  unfolding verdict count_of
  answer_safe s k d e f b g =
      let u : unsafe Y ≡ false = steps_verdict Y L ∙ le-ltb _ _ (rw (e, f) at b) in
      rw (u, e, g) refl

module _ (bytes lent : List ℕ) where
  pub judge_done : refusal bytes lent ≡ 0 → judged bytes lent ≡ answer 0 (verdict (system_of_model (model_of bytes)))
  unfolding judged
  judge_done is = simp is refl

  -- the judge's answer, from what it says past number 8
  pub judge_said : called (judge_says true (model_of bytes)) bytes lent ≡ judged bytes lent
  unfolding judged judge_says with_touch
  judge_said = called_plain bytes lent _

-- past number 8
module _ (touch : Bool) (m : Model) where
  pub judge_refused : (x : Result Judgement Refusal) (r : Refusal) → IsErrAnd x (λ e. e ≡ r) → code_of r ≡ disjoint_for touch m
      → judgement_answer x ≡ judge_says touch m
  unfolding judge_says
  judge_refused x r h e = passed_told judgement_values x r h ∙ refused_told (disjoint_for touch m) r (verdict (with_touch touch (system_of_model m))) (sym e)

  pub judge_told : 0 ≡ disjoint_for touch m → (xs : List ℕ) → xs ≡ verdict (with_touch touch (system_of_model m))
      → record { number = 0; values = xs } ≡ judge_says touch m
  unfolding judge_says
  judge_told z xs e = told (disjoint_for touch m) xs (verdict (with_touch touch (system_of_model m))) (sym z) e
