-- Request (g) of 02: "A quicker judge shall take just those plans in which each closed walk of edges, counted as under (f), has an edge resetting every
-- clock. For them the marked set is to be shown equal to the smallest set that holds the start and is closed under time, jump and face", from bytes.
use mathlib.Core.Path.{◌≡◌, refl, sym, ap, ◌∙◌}
use mathlib.Core.Bool.{Bool, true, false, cond, true≢false, false≢true}
use mathlib.Core.Logic.{◌↔◌, ◌⊎◌, inl, inr}
use mathlib.Core.List.{List, [], ◌∷◌, ◌++◌}
use Prim.Native.Nat.{ℕ, suc, ◌+◌, ◌≤◌, ◌<◌}
use native.Mathlib.Omega.{arith}
use native.Mathlib.Decide.{ℕ_discrete}
use lib.ListN.{length, get_or, take, drop}
use lib.Dec.{eqb}
use Rattle.theory.specs.Below.{bit, count}
use Rattle.theory.specs.Lists.{every}
use Rattle.theory.specs.Walk.{Lex}
use Rattle.theory.specs.System.{System, Laws}
use Rattle.theory.specs.Marked.{marks, unsafe}
use Rattle.theory.specs.Trail.{Trail, trail_states}
use Rattle.theory.specs.Labels.{LabelledSystem}
use Rattle.theory.specs.Replay.{Move, flow_by, face_to, touch_to, passes, moves_along, our_moves, trail_key}
use Rattle.theory.specs.WithoutTouch.{with_touch, without_touch, labelled_with_touch, labelled_without_touch, no_touch}
use Rattle.theory.specs.Automaton.{Automaton, Edge, Exact}
use Rattle.theory.specs.Region.{Region}
use Rattle.theory.specs.RegionGraph.{Marked, ForbiddenMarked}
use Rattle.theory.specs.StateGraph.{system_of, labelled_of}
use Rattle.theory.proofs.Below.{cond_ind, either, tab_same, count_mono, false_unless_true}
use Rattle.theory.proofs.Marked.{unsafe_is}
use Rattle.theory.proofs.Trail.{unsafe_trail, trail_length, trail_steps_below}
use Rattle.theory.proofs.Replay.{passes_law, our_moves-length}
use Rattle.theory.proofs.WithoutTouch.{touch_laws, touch_labelled, touch_moves, without_ours, without_least}
use Rattle.number.specs.Answer.{answer}
use Rattle.number.specs.Number.{spell_all}
use Rattle.model.specs.declared.Model.{Model}
use Rattle.model.specs.Model.{Lawful}
use Rattle.edge_walks.specs.Cycle.{DrawingWalk, unreset}
use Rattle.edge_walks.specs.Opening.{OpensAlone}
use Rattle.edge_walks.specs.Joint.{ResetsEvery, resets_every, PartialReset, LacksJointReset, lacks_joint_reset}
use Rattle.edge_walks.proofs.Joints.{resets_law, joint_law, one_clock_joint}
use Rattle.edge_walks.proofs.ClosedWalks.{unreset_law}
use Rattle.plan_reader.specs.Accept.{read_model}
use Rattle.plan_reader.proofs.Accepted.{refusal_bound, accepted_resets}
use Rattle.graph.specs.Plan.{automaton_of, system_of_model, labelled_of_model}
use Rattle.graph.specs.States.{states}
use Rattle.graph.proofs.Plan.{within, capped}
use Rattle.graph.proofs.Models.{system_laws, labelled_laws, unsafe_states, safe_states}
use Rattle.robust.specs.Untouched.{FaceClosed, Untouched, JointResets}
use Rattle.robust.proofs.Joint.{joint_marked_lem, untouched_smallest}
use Rattle.robust.proofs.Untouched.{exactly}
use Rattle.robust.proofs.WithoutTouch.{joint_marks, joint_verdict, joint_sheet}
use Rattle.robust_models.proofs.Joint.{joint_resets_of}
use Rattle.replay.specs.Spelling.{moves_numbers, trail_numbers}
use Rattle.evidence.specs.Evidence.{TrailPasses}
use Rattle.evidence.specs.Ours.{our_sheet_numbers, our_evidence}
use Rattle.evidence.proofs.Ours.{path_trail}
use Rattle.spelling.specs.Lays.{filled}
use Rattle.evidence_writer.specs.Written.{evidence_in, verdict_with, written_for, evidence_by, written_by}
use Rattle.call.specs.Call.{model_of, states_of, enough, refusal}
use Rattle.call.specs.Joint.{joint_refusal}
use Rattle.call.proofs.Calls.{taken_in, accepted}
use Rattle.call.proofs.Joint.{joint_refused, joint_past}
use Rattle.op_judge.specs.Judge.{count_of, verdict, judged}
use Rattle.op_judge.proofs.Judged.{judge_done}
use Rattle.op_judge_joint.specs.JudgeJoint.{joint_judged}
use Rattle.op_marks.specs.Marks.{marks_refusal, marked, marks_of, marks_in, output}
use Rattle.op_marks_joint.specs.MarksJoint.{joint_marks_refusal, joint_marked, joint_output}
use Rattle.op_check.specs.Check.{check_answer}
use Rattle.op_write.specs.Write.{written_answer, write_answer, write_output}
use Rattle.op_write_joint.specs.WriteJoint.{joint_write_answer, joint_write_output}
use Rattle.demands.specs.Told.{verdict_in, kind_answer, Perfect, NoTouch}
use Rattle.demands.specs.Opening.{Has}
use Rattle.demands.specs.Joint.{JointReset}
use Rattle.demands.proofs.Walks.{none_of_both}
use Rattle.demands.proofs.Demand3.{trail_exactly, ours_kind, told_fits, told_short, told_passes}

-- ---- walks of a model

module _ (m : Model) (ok : Lawful m) where
  known_partial : (e : ℕ) → (ResetsEvery m e → ⊥) ⊎ ((ResetsEvery m e → ⊥) → ⊥)
  known_partial e = by (either (resets_every m e))
    where
      by : (resets_every m e ≡ true) ⊎ (resets_every m e ≡ false) → (ResetsEvery m e → ⊥) ⊎ ((ResetsEvery m e → ⊥) → ⊥)
      by (inl t) = inr (λ none. none ((resets_law m ok e).0 t))
      by (inr f) = inl (λ r. false≢true (sym f ∙ (resets_law m ok e).1 r))

  surely : (e : ℕ) → ((ResetsEvery m e → ⊥) → ⊥) → ResetsEvery m e
  surely e sure = by (either (resets_every m e))
    where
      by : (resets_every m e ≡ true) ⊎ (resets_every m e ≡ false) → ResetsEvery m e
      by (inl t) = (resets_law m ok e).0 t
      by (inr f) = absurd (sure (λ r. false≢true (sym f ∙ (resets_law m ok e).1 r)))

  -- "a counted closed walk has no such edge", or each has one
  lacks_law : (LacksJointReset m → ⊥) ↔ JointReset m
  lacks_law = (
    λ none. record { has_one = λ k v w. let (e, q, sure) = each.0 (λ k v w. none (k, v, w)) k v w in (e, q, surely e sure) },
    λ r (k, v, w). each.1 (λ k v w. let (e, q, resets) = r.has_one k v w in (e, q, λ none. none resets)) k v w,
  )
    where
      each : ((k v : ℕ) → DrawingWalk m (PartialReset m) (suc k) v v → ⊥)
          ↔ ((k v : ℕ) (w : DrawingWalk m (OpensAlone m) (suc k) v v) → (e : ℕ) × Has w e × ((ResetsEvery m e → ⊥) → ⊥))
      each =
          none_of_both m (OpensAlone m) (λ e. ResetsEvery m e → ⊥) (PartialReset m) (λ e. (λ (p, o). (o, p), λ (o, p). (p, o))) known_partial

-- a trail without a touch, as a test
no_touch_is : (ms : List Move) → every no_touch ms ≡ true → NoTouch ms
unfolding no_touch
no_touch_is [] e = NoTouch.none
no_touch_is (flow_by x ∷ ms) e = NoTouch.by_flow x (no_touch_is ms e)
no_touch_is (face_to p ∷ ms) e = NoTouch.by_face p (no_touch_is ms e)
no_touch_is (touch_to q xs ∷ ms) e = absurd (false≢true e)

is_no_touch : {ms : List Move} → NoTouch ms → every no_touch ms ≡ true
unfolding no_touch
is_no_touch NoTouch.none = refl
is_no_touch (NoTouch.by_flow x n) = is_no_touch n
is_no_touch (NoTouch.by_face p n) = is_no_touch n

abbrev refused_if : Bool → ℕ
refused_if lacks = cond lacks 17 0

module _ (bytes lent : List ℕ) where
  abbrev m : Model
  m = model_of bytes

  abbrev a : Automaton
  a = automaton_of m

  abbrev Y : System
  Y = system_of_model m

  abbrev P : LabelledSystem
  P = labelled_of_model m

  -- ---- which plans it takes

  bound : refusal bytes lent ≤ 8
  unfolding refusal
  bound =
      cond_ind (λ (r : ℕ). r ≤ 8) (eqb (read_model bytes).refusal 0)
      (λ _. cond_ind (λ (r : ℕ). r ≤ 8) (enough (states_of bytes) lent) (λ _. omega arith) (λ _. omega arith))
      (λ _. omega (arith, refusal_bound bytes))

  -- "after 8": what refuses any call refuses this one alike
  pub refused_alike : (refusal bytes lent ≡ 0 → ⊥) → joint_refusal bytes lent ≡ refusal bytes lent
  refused_alike = joint_refused bytes lent (refusal bytes lent) refl

  -- ".. 17 when a counted closed walk has no such edge"
  pub seventeen_exactly : (joint_refusal bytes lent ≡ 17) ↔ ((refusal bytes lent ≡ 0) × LacksJointReset m)
  seventeen_exactly = (
    λ e. by e (ℕ_discrete (refusal bytes lent) 0),
    λ (z, w). joint_past bytes lent z ∙ ap refused_if ((joint_law m (accepted bytes lent z)).1 w),
  )
    where
      lacks : (b : Bool) → refused_if b ≡ 17 → b ≡ true
      lacks true e = refl
      lacks false e = absurd (let z : ◌≡◌ {A = ℕ} 0 17 = e in omega arith)

      by : joint_refusal bytes lent ≡ 17 → Dec (refusal bytes lent ≡ 0) → (refusal bytes lent ≡ 0) × LacksJointReset m
      by e (yes z) = (z, (joint_law m (accepted bytes lent z)).0 (lacks (lacks_joint_reset m) (sym (joint_past bytes lent z) ∙ e)))
      by e (no n) = absurd (omega (arith, bound, sym (refused_alike n) ∙ e))

  free_of : joint_refusal bytes lent ≡ 0 → (refusal bytes lent ≡ 0) × (lacks_joint_reset m ≡ false)
  free_of e = by (ℕ_discrete (refusal bytes lent) 0)
    where
      free : (b : Bool) → refused_if b ≡ 0 → b ≡ false
      free true q = absurd (let z : ◌≡◌ {A = ℕ} 17 0 = q in omega arith)
      free false q = refl

      by : Dec (refusal bytes lent ≡ 0) → (refusal bytes lent ≡ 0) × (lacks_joint_reset m ≡ false)
      by (yes z) = (z, free (lacks_joint_reset m) (sym (joint_past bytes lent z) ∙ e))
      by (no n) = absurd (n (sym (refused_alike n) ∙ e))

  -- "just those plans in which each closed walk of edges, counted as under (f), has an edge resetting every clock"
  pub takes_exactly : (joint_refusal bytes lent ≡ 0) ↔ ((refusal bytes lent ≡ 0) × JointReset m)
  takes_exactly = (
    λ e.
        let (z, f) = free_of e in
        let ok = accepted bytes lent z in
        (z, (lacks_law m ok).0 (λ w. true≢false (sym ((joint_law m ok).1 w) ∙ f))),
    λ (z, r).
        let ok = accepted bytes lent z in
        let none = (lacks_law m ok).1 r in
        joint_past bytes lent z
        ∙ ap refused_if (false_unless_true (lacks_joint_reset m) (λ t. none ((joint_law m ok).0 t))),
  )

  -- with one clock that is every plan
  pub one_clock : m.clocks ≡ 1 → joint_refusal bytes lent ≡ refusal bytes lent
  one_clock one = by (ℕ_discrete (refusal bytes lent) 0)
    where
      by : Dec (refusal bytes lent ≡ 0) → joint_refusal bytes lent ≡ refusal bytes lent
      by (yes z) =
          let ok = accepted bytes lent z in
          let resets = accepted_resets bytes (taken_in bytes lent z) in
          let f = false_unless_true (unreset m) (λ t. resets ((unreset_law m ok).0 t)) in
          joint_past bytes lent z ∙ ap refused_if (one_clock_joint m ok one f) ∙ sym z
      by (no n) = refused_alike n

  module _ (taken : joint_refusal bytes lent ≡ 0) where
    passed : refusal bytes lent ≡ 0
    passed = (free_of taken).0

    ok : Lawful m
    ok = accepted bytes lent passed

    joint : JointResets a
    joint = joint_resets_of m ok (free_of taken).1

    -- ---- "the marked set is to be shown equal to the smallest set that holds the start and is closed under time, jump and face"

    pub marked_exactly : (l : ℕ) (xs : Region) → Marked a l xs ↔ Untouched a l xs
    marked_exactly = joint_marked_lem (capped m ok) joint

    -- which it is: it holds the start and is closed, and lies in every such set
    pub smallest : FaceClosed a (Untouched a) × ((Q : ℕ → Region → Type 0) → FaceClosed a Q → (l : ℕ) (xs : Region) → Untouched a l xs → Q l xs)
    smallest = untouched_smallest a

    -- Beyond it: drift adds nothing. Each location that has a marked state some exact run enters,
    pub entered : (l : ℕ) (xs : Region) → Marked a l xs → (gs : List Edge) × (v : List ℕ) × (t : ℕ) × Exact a gs l v t
    entered l xs c = let (K, r) = exactly (capped m ok) ((marked_exactly l xs).0 c) 0 in (r.edges, r.values, r.time, r.run)

    -- so where perfect clocks are clean the plan is safe.
    pub clean_safe : Perfect a → ForbiddenMarked a → ⊥
    clean_safe clean (l, xs, c, f) = let (gs, v, t, run) = entered l xs c in true≢false (sym f ∙ clean gs l v t run)

    -- ---- "Marks, verdict and sheet are the full judge's"

    same_verdict : unsafe (without_touch Y) ≡ unsafe Y
    same_verdict = joint_verdict a m.locations (within m ok) (capped m ok) joint

    same_marks : (p : ℕ) → p < states m → marks (without_touch Y) p ≡ marks Y p
    same_marks = joint_marks a m.locations (within m ok) (capped m ok) joint

    marks_of_lem : marks_of (without_touch Y) ≡ marks_of Y
    unfolding marks_of with_touch system_of
    marks_of_lem = tab_same (states m) (λ p. bit (marks (without_touch Y) p)) (λ p. bit (marks Y p)) (λ p b. ap bit (same_marks p b))

    marks_in_lem : (out : List ℕ) → marks_in (without_touch Y) out ≡ marks_in Y out
    unfolding marks_in with_touch
    marks_in_lem out = rw marks_of_lem

    -- the marks: answer and bytes, whatever the output
    pub marks_same : (out : List ℕ)
        → (joint_marked bytes lent (length out) ≡ marked bytes lent (length out)) × (joint_output bytes lent out ≡ output bytes lent out)
    unfolding joint_marked joint_marks_refusal marked marks_refusal joint_output output
    marks_same out = (simp (taken, passed) refl, simp (taken, passed) (marks_in_lem out))

    -- the judge: its verdict and S always, and all of its answer where it is safe
    count_same : count (states m) (marks (without_touch Y)) ≡ count (states m) (marks Y)
    count_same =
        omega (
          arith,
          count_mono (states m) (marks (without_touch Y)) (marks Y) (λ p b t. sym (same_marks p b) ∙ t),
          count_mono (states m) (marks Y) (marks (without_touch Y)) (λ p b t. same_marks p b ∙ t),
        )

    judge_is : joint_judged bytes lent ≡ record { number = 0; values = bit (unsafe Y) ∷ states m ∷ count_of (without_touch Y) ∷ [] }
    unfolding joint_judged answer verdict with_touch system_of
    judge_is = simp taken (rw same_verdict refl)

    full_is : judged bytes lent ≡ record { number = 0; values = bit (unsafe Y) ∷ states m ∷ count_of Y ∷ [] }
    unfolding answer verdict system_of
    full_is = judge_done bytes lent passed

    pub verdict_same : verdict_in (joint_judged bytes lent) ≡ verdict_in (judged bytes lent)
    verdict_same = ap verdict_in judge_is ∙ sym (ap verdict_in full_is)

    safe_count : unsafe Y ≡ false → count_of (without_touch Y) ≡ count_of Y
    unfolding count_of with_touch system_of
    safe_count u = rw (same_verdict, u) count_same

    pub judge_safe : (ForbiddenMarked a → ⊥) → joint_judged bytes lent ≡ judged bytes lent
    judge_safe n =
        judge_is
        ∙ ap (λ (k : ℕ). record { number = 0; values = bit (unsafe Y) ∷ states m ∷ k ∷ [] }) (safe_count ((safe_states m ok).1 n))
        ∙ sym full_is

    -- ---- the evidence

    abbrev ours : List Move
    ours = our_moves (labelled_without_touch P)

    -- the sheet is the full judge's, byte for byte
    pub sheet_same : (ForbiddenMarked a → ⊥) → evidence_by false m ≡ our_evidence m
    unfolding evidence_by our_evidence our_sheet_numbers
    sheet_same n =
        let u = (safe_states m ok).1 n in
        rw (same_verdict, u, joint_sheet a m.locations (within m ok) (capped m ok) joint) refl

    -- and so is what the writer says and leaves then
    pub writes_same : (ForbiddenMarked a → ⊥) → (out : List ℕ)
        → (joint_write_answer bytes lent (length out) ≡ write_answer bytes lent (length out)) × (joint_write_output bytes lent out ≡ write_output bytes lent out)
    unfolding joint_write_answer write_answer joint_write_output write_output written_by written_for evidence_in
    writes_same n out =
        (simp (taken, passed) (rw (same_verdict, sheet_same n) refl), simp (taken, passed) (rw (sheet_same n) refl))

    module _ (f : ForbiddenMarked a) where
      pub unsafe_without : unsafe (without_touch Y) ≡ true
      unsafe_without = same_verdict ∙ (unsafe_states m ok).1 f

      laws_without : Laws (without_touch Y)
      laws_without = touch_laws false Y (system_laws m ok)

      trail_there : (l : List ℕ) × Trail (without_touch Y) l
      trail_there = unsafe_trail (without_touch Y) laws_without (unsafe_is (without_touch Y) laws_without unsafe_without)

      our_count : count_of (without_touch Y) ≡ length ours
      unfolding count_of labelled_with_touch labelled_of
      our_count =
          let (l, t) = trail_there in
          rw unsafe_without (sym (our_moves-length (labelled_without_touch P) (touch_labelled false P (labelled_laws m ok)) l t))

      -- the judge answers the steps of our trail without touch, which its bytes carry
      pub judge_unsafe : (k : ℕ) × (joint_judged bytes lent ≡ record { number = 0; values = 1 ∷ states m ∷ k ∷ [] })
          × (k ≡ length ours) × (evidence_by false m ≡ spell_all (2 ∷ k ∷ moves_numbers a ours))
      unfolding evidence_by trail_numbers
      judge_unsafe = (
        count_of (without_touch Y),
        judge_is ∙ ap (λ (v : ℕ). record { number = 0; values = v ∷ states m ∷ count_of (without_touch Y) ∷ [] }) (ap bit ((unsafe_states m ok).1 f)),
        our_count,
        rw (unsafe_without, our_count) refl,
      )

      ours_pass : (every no_touch ours ≡ true) × (passes P ours ≡ true)
      unfolding labelled_of
      ours_pass = without_ours P (labelled_laws m ok) (unsafe_is (without_touch Y) laws_without unsafe_without)

      -- "a trail here has no touch"
      pub trail_untouched : NoTouch ours
      trail_untouched = no_touch_is ours ours_pass.0

      ours_along : ours ≡ moves_along P Y.start (trail_states (without_touch Y))
      unfolding our_moves labelled_of labelled_with_touch with_touch
      ours_along = touch_moves false P (trail_states (without_touch Y)) Y.start

      -- and passes for the plan
      pub trail_passes : TrailPasses m (evidence_by false m)
      unfolding evidence_by with_touch
      trail_passes =
          let (l, t) = trail_there in
          let few = trail_steps_below (without_touch Y) laws_without l t in
          rw (unsafe_without, ours_along)
          (path_trail m ok (trail_states (without_touch Y)) (omega (arith, few, trail_length (without_touch Y) laws_without))
          (rw ours_along at ((passes_law P ours).0 ours_pass.1)))

    -- ".. and is the fewest-step one without it, ties as in 01": least of all that pass without touch in count, states, kinds, edges
    pub trail_least : (shown : List ℕ) (p : TrailPasses m shown) → NoTouch p.0 → Lex (trail_key P ours) (trail_key P p.0)
    trail_least shown (vs, s, w) n = without_least P (labelled_laws m ok) vs (is_no_touch n) ((passes_law P vs).1 w)

    -- what is written passes, with the kind of the verdict, whichever scratch the check is lent
    pub evidence_passes : (lent' : List ℕ) → refusal bytes lent' ≡ 0
        → check_answer bytes (evidence_by false m) lent' ≡ kind_answer (cond (unsafe (without_touch Y)) 2 1)
    evidence_passes lent' passed' = by (either (unsafe Y))
      where
        by : (unsafe Y ≡ true) ⊎ (unsafe Y ≡ false) → check_answer bytes (evidence_by false m) lent' ≡ kind_answer (cond (unsafe (without_touch Y)) 2 1)
        by (inl u) =
            (trail_exactly bytes lent' passed' (evidence_by false m)).1 (trail_passes ((unsafe_states m ok).0 u))
            ∙ ap (λ (b : Bool). kind_answer (cond b 2 1)) (sym (same_verdict ∙ u))
        by (inr u) = rw (same_verdict, sheet_same ((safe_states m ok).0 u)) (ours_kind bytes lent' passed')

    -- ---- what is written, and that it passes

    module _ (out : List ℕ) where
      abbrev evidence : List ℕ
      evidence = evidence_by false m

      told : joint_write_answer bytes lent (length out) ≡ written_answer (verdict_with (unsafe (without_touch Y)) (length evidence) (length out))
      unfolding joint_write_answer written_by
      told = simp taken refl

      left : joint_write_output bytes lent out ≡ filled evidence out
      unfolding joint_write_output
      left = simp taken refl

      -- with room for it the evidence fills the output from its first byte; 9 and nothing written without
      pub writes : length evidence ≤ length out
          → (joint_write_answer bytes lent (length out) ≡ record { number = 0; values = bit (unsafe (without_touch Y)) ∷ length evidence ∷ [] })
          × (joint_write_output bytes lent out ≡ evidence ++ drop (length evidence) out)
      writes h = let (t, o) = told_fits (unsafe (without_touch Y)) evidence out h in (told ∙ t, left ∙ o)

      pub writes_nothing : length out < length evidence
          → (joint_write_answer bytes lent (length out) ≡ record { number = 9; values = [] }) × (joint_write_output bytes lent out ≡ out)
      writes_nothing h = let (t, o) = told_short (unsafe (without_touch Y)) evidence out h in (told ∙ t, left ∙ o)

      -- where the writer returns 0, with a verdict and a number of bytes, as many first bytes of the output pass the check
      pub written_passes : (lent' : List ℕ) → refusal bytes lent' ≡ 0 → (joint_write_answer bytes lent (length out)).number ≡ 0
          → check_answer bytes (take (get_or (joint_write_answer bytes lent (length out)).values 1 0) (joint_write_output bytes lent out)) lent'
          ≡ kind_answer (get_or (joint_write_answer bytes lent (length out)).values 0 0 + 1)
      written_passes lent' passed' z =
          told_passes (unsafe (without_touch Y)) evidence out (λ shown. check_answer bytes shown lent')
          (joint_write_answer bytes lent (length out)) (joint_write_output bytes lent out) told left (evidence_passes lent' passed') z
