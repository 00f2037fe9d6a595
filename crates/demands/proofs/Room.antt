-- Request (h) of 02: "From the model alone, without marking, a new part gives S, the scratch length, an upper limit on the sheet's bytes, and an upper limit on
-- the number of steps in our trail", from bytes: whoever lends what is told never hears 8, nor 9 of a sheet.
use mathlib.Core.Path.{◌≡◌, refl, sym, ap, subst, ◌∙◌}
use mathlib.Core.Bool.{Bool, true, false, cond}
use mathlib.Core.Logic.{◌↔◌, ◌⊎◌, inl, inr}
use mathlib.Core.List.{List, [], ◌∷◌, Memᴰ}
use Prim.Native.Nat.{ℕ, ◌+◌, ◌-◌, ◌*◌, ◌≤◌, ◌<◌}
use native.Mathlib.Nat.{le_trans}
use native.Mathlib.Decide.{ℕ_discrete}
use native.Mathlib.Omega.{arith}
use lib.ListN.{length, get_or, replicate, length-append}
use borrow.Author.Tests.{ne_eqb}
use Rattle.theory.specs.Below.{bit}
use Rattle.theory.specs.Enumeration.{count_of}
use Rattle.theory.specs.System.{System}
use Rattle.theory.specs.Marked.{unsafe}
use Rattle.theory.specs.Labels.{LabelledSystem, LabelledLaws}
use Rattle.theory.specs.Replay.{our_moves}
use Rattle.theory.specs.WithoutTouch.{with_touch, labelled_with_touch, labelled_without_touch}
use Rattle.theory.specs.Automaton.{Automaton}
use Rattle.theory.specs.RegionGraph.{ForbiddenMarked}
use Rattle.theory.specs.StateGraph.{region_count, labelled_of}
use Rattle.theory.proofs.Below.{either, leb↔}
use Rattle.theory.proofs.Lists.{every_law}
use Rattle.theory.proofs.RegionCount.{count_law}
use Rattle.theory.proofs.Trail.{unsafe_trail, trail_steps_below}
use Rattle.theory.proofs.Marked.{unsafe_is}
use Rattle.theory.proofs.Sheet.{full_sheet}
use Rattle.theory.proofs.Replay.{our_moves-length}
use Rattle.theory.proofs.WithoutTouch.{touch_labelled}
use Rattle.number.specs.Number.{spell, spell_all}
use Rattle.number.specs.Answer.{Answer, answer}
use Rattle.number.proofs.Spelling.{spell_1, spell_all_most, spell_all_least, spell_all_alike}
use Rattle.number.proofs.Sequence.{fit_more, fit_alike, shortest_total}
use Rattle.model.specs.declared.Model.{Model}
use Rattle.model.specs.Model.{Lawful}
use Rattle.edge_walks.specs.Joint.{lacks_joint_reset}
use Rattle.plan_reader.specs.Accept.{read_model}
use Rattle.plan_reader.proofs.Accepted.{refusal_bound, accepted_lawful}
use Rattle.graph.specs.Plan.{automaton_of, system_of_model, labelled_of_model}
use Rattle.graph.proofs.Plan.{size-states}
use Rattle.graph.proofs.Models.{system_laws, labelled_laws, unsafe_states, safe_states}
use Rattle.replay.specs.Spelling.{moves_numbers}
use Rattle.evidence_number.proofs.Reading.{shortest_spelled}
use Rattle.evidence.specs.Evidence.{SheetPasses}
use Rattle.evidence.specs.Ours.{our_evidence}
use Rattle.evidence.proofs.Ours.{our_sheet_lem}
use Rattle.evidence_writer.specs.Written.{evidence_by}
use Rattle.call.specs.Call.{model_of, states_of, enough, refusal}
use Rattle.call.specs.Joint.{joint_refusal}
use Rattle.call.proofs.Joint.{joint_past}
use Rattle.op_judge.specs.Judge.{judged}
use Rattle.op_check.specs.Check.{check_answer}
use Rattle.op_write.specs.Write.{write_answer}
use Rattle.op_judge_joint.specs.JudgeJoint.{joint_judged}
use Rattle.op_write_joint.specs.WriteJoint.{joint_write_answer}
use Rattle.op_room.specs.Room.{SheetLimit, sheet_limit, room_for, room_answer}
use Rattle.op_room.proofs.Limits.{limit_law}
use Rattle.op_room.proofs.Rooms.{states_within}
use Rattle.demands.specs.Told.{kind_answer}
use Rattle.demands.specs.Room.{EachCall}
use Rattle.demands.proofs.Calls.{answer-number, joint_write_refused, each_refused, each_past}
use Rattle.demands.proofs.Demand2.{judge_unsafe}
use Rattle.demands.proofs.Demand3.{sheet_exactly, writes}
use Rattle.demands.proofs.Joint as joint

-- ---- what is told

abbrev value_of : ℕ → Answer → ℕ
value_of i a = get_or a.values i 0

module _ (bytes : List ℕ) where
  abbrev m : Model
  m = model_of bytes

  abbrev a : Automaton
  a = automaton_of m

  abbrev Y : System
  Y = system_of_model m

  abbrev P : LabelledSystem
  P = labelled_of_model m

  abbrev S : ℕ
  S = states_of bytes

  number_is : (room_answer bytes).number ≡ (read_model bytes).refusal
  unfolding room_answer
  number_is = answer-number _ _

  model_refused : ((read_model bytes).refusal ≡ 0 → ⊥) → (lent : List ℕ) → refusal bytes lent ≡ (read_model bytes).refusal
  unfolding refusal
  model_refused ne lent = simp (ne_eqb (read_model bytes).refusal 0 ne) refl

  -- "A refused model gets its number from 1 to 7 instead": the one that every call gives it, whatever is lent
  pub refused_alike : ((room_answer bytes).number ≡ 0 → ⊥)
      → (room_answer bytes ≡ record { number = (read_model bytes).refusal; values = [] }) × ((room_answer bytes).number ≤ 7)
      × ((lent : List ℕ) → EachCall (λ n. n ≡ (room_answer bytes).number) bytes lent)
  unfolding room_answer answer
  refused_alike ne =
      let refused : (read_model bytes).refusal ≡ 0 → ⊥ = λ z. ne (number_is ∙ z) in (
        simp (ne_eqb (read_model bytes).refusal 0 refused) refl,
        omega (arith, number_is, refusal_bound bytes),
        λ lent.
            let is = model_refused refused lent in
            subst (λ (k : ℕ). EachCall (λ n. n ≡ k) bytes lent) (is ∙ sym number_is) (each_refused bytes lent (λ z. refused (sym is ∙ z))),
      )

  -- an accepted one its room: S, S again as the scratch length, the sheet limit as 02 has it, and "the step limit is S-1"
  pub told_exactly : (read_model bytes).refusal ≡ 0
      → (limit : ℕ) × SheetLimit S limit × (room_answer bytes ≡ record { number = 0; values = S ∷ S ∷ limit ∷ (S - 1) ∷ [] })
  unfolding room_answer answer room_for
  told_exactly z =
      let (some, few) = states_within m (accepted_lawful bytes z) in
      (sheet_limit S, (limit_law S (sheet_limit S) (omega arith)).1 refl, simp z refl)

  -- 01: "S is L times the count"
  pub states_are : (read_model bytes).refusal ≡ 0 → S ≡ m.locations * count_of m.clocks m.ceiling
  unfolding region_count automaton_of
  states_are z =
      let ok = accepted_lawful bytes z in
      ap (λ (k : ℕ). m.locations * k) (sym (count_law m.clocks m.ceiling ok.clocks.0 ok.clocks.1))

  module _ (s scratch sheet steps : ℕ) (told : room_answer bytes ≡ record { number = 0; values = s ∷ scratch ∷ sheet ∷ steps ∷ [] }) where
    accepted_by : (read_model bytes).refusal ≡ 0
    accepted_by = sym number_is ∙ ap (λ (x : Answer). x.number) told

    ok : Lawful m
    ok = accepted_lawful bytes accepted_by

    is : (i : ℕ) → get_or (s ∷ scratch ∷ sheet ∷ steps ∷ []) i 0 ≡ get_or (S ∷ S ∷ sheet_limit S ∷ (S - 1) ∷ []) i 0
    unfolding room_answer answer room_for
    is i =
        let e : room_answer bytes ≡ record { number = 0; values = S ∷ S ∷ sheet_limit S ∷ (S - 1) ∷ [] } = simp accepted_by refl in
        ap (value_of i) (sym told ∙ e)

    -- ---- "S and scratch are exact"

    pub states_exact : s ≡ S
    states_exact = is 0

    refusal_is : (lent : List ℕ) → refusal bytes lent ≡ cond (enough S lent) 0 8
    unfolding refusal
    refusal_is lent = simp accepted_by refl

    enough_law : (lent : List ℕ) → (enough S lent ≡ true) ↔ ((x : ℕ) → Memᴰ x lent → S ≤ x)
    unfolding enough
    enough_law lent = every_law (leb↔ S) lent

    -- a call gets past number 8 exactly where each slice has the length told
    pub scratch_exact : (lent : List ℕ) → (refusal bytes lent ≡ 0) ↔ ((x : ℕ) → Memᴰ x lent → scratch ≤ x)
    scratch_exact lent = (
      λ z x h. omega (arith, is 1, (enough_law lent).0 (held (enough S lent) (sym (refusal_is lent) ∙ z)) x h),
      λ each. refusal_is lent ∙ ap (λ (b : Bool). cond b 0 8) ((enough_law lent).1 (λ x h. omega (arith, is 1, each x h))),
    )
      where
        held : (b : Bool) → ◌≡◌ {A = ℕ} (cond b 0 8) 0 → b ≡ true
        held true e = refl
        held false e = absurd (omega arith)

    -- with scratch of that length no call says 8,
    pub scratch_enough : (lent : List ℕ) → ((x : ℕ) → Memᴰ x lent → scratch ≤ x) → EachCall (λ n. n ≡ 8 → ⊥) bytes lent
    scratch_enough lent each = each_past bytes lent ((scratch_exact lent).1 each)

    -- and with one slice shorter each does
    pub scratch_short : (lent : List ℕ) (x : ℕ) → Memᴰ x lent → x < scratch → EachCall (λ n. n ≡ 8) bytes lent
    scratch_short lent x h less =
        let ne : refusal bytes lent ≡ 0 → ⊥ = λ z. omega (arith, (scratch_exact lent).0 z x h) in
        subst (λ (k : ℕ). EachCall (λ n. n ≡ k) bytes lent) (eight (enough S lent) (refusal_is lent) ne) (each_refused bytes lent ne)
      where
        eight : (b : Bool) → refusal bytes lent ≡ cond b 0 8 → (refusal bytes lent ≡ 0 → ⊥) → refusal bytes lent ≡ 8
        eight true e ne = absurd (ne e)
        eight false e ne = e

    -- ---- the sheet limit

    limit_is : sheet ≡ S * length (spell (2 * S - 1)) + 1
    unfolding sheet_limit
    limit_is = is 2

    sheet_bytes : (shown : List ℕ) (p : SheetPasses m shown) → (length shown ≡ 1 + length (spell_all p.0)) × (length p.0 ≡ S)
    unfolding spell_all
    sheet_bytes shown (l, spells, K) =
        let one : length (spell 1) ≡ 1 = ap length (spell_1 1 (omega arith)) in
        (shortest_total spells ∙ length-append (spell 1) (spell_all l) ∙ ap (λ (k : ℕ). k + length (spell_all l)) one, K.long ∙ size-states m)

    -- every sheet that passes has at most so many bytes, whoever made it;
    pub sheet_fits : (shown : List ℕ) → SheetPasses m shown → length shown ≤ sheet
    sheet_fits shown (l, spells, K) =
        let (bytes_are, long) = sheet_bytes shown (l, spells, K) in
        let most = spell_all_most (2 * S - 1) l (λ p b. omega (arith, K.bounded p (omega (arith, K.long)), size-states m)) in
        omega (arith, limit_is, bytes_are, most, ap (λ (k : ℕ). k * length (spell (2 * S - 1))) long)

    -- so has what the check takes for one
    pub checked_fits : (shown lent : List ℕ) → refusal bytes lent ≡ 0 → check_answer bytes shown lent ≡ kind_answer 1 → length shown ≤ sheet
    checked_fits shown lent taken e = sheet_fits shown ((sheet_exactly bytes lent taken shown).0 e)

    -- up to 64 states it has just so many,
    pub small_exact : s ≤ 64 → (shown : List ℕ) → SheetPasses m shown → length shown ≡ sheet
    small_exact few shown p =
        let (bytes_are, long) = sheet_bytes shown p in
        let one : length (spell (2 * S - 1)) ≡ 1 = ap length (spell_1 (2 * S - 1) (omega (arith, states_exact))) in
        omega (arith, sheet_fits shown p, limit_is, ap (λ (k : ℕ). S * k) one, bytes_are, long, spell_all_least p.0)

    -- and for any number of states a plan that allows every state and forbids none has a sheet that long: by S alone no lower limit can be told
    pub limit_met : ((p : ℕ) → p < S → Y.allowed p ≡ true) → ((p : ℕ) → p < S → Y.forbidden p ≡ false)
        → (shown : List ℕ) × SheetPasses m shown × (length shown ≡ sheet)
    limit_met allowed forbidden =
        let (some, few) = states_within m ok in
        let all : (p : ℕ) → p < Y.size → Y.allowed p ≡ true = λ p b. allowed p (omega (arith, size-states m)) in
        let none : (p : ℕ) → p < Y.size → Y.forbidden p ≡ false = λ p b. forbidden p (omega (arith, size-states m)) in
        let top = 2 * Y.size - 1 in
        let l = replicate Y.size top in
        let spells = shortest_spelled (1 ∷ l) (fit_more (omega arith) (fit_alike Y.size (omega (arith, size-states m)))) in
        let passes : SheetPasses m (spell_all (1 ∷ l)) = (l, spells, full_sheet Y (system_laws m ok) all none) in
        let same = ap (λ (k : ℕ). k * length (spell (2 * k - 1))) (size-states m) in
        (spell_all (1 ∷ l), passes, omega (arith, (sheet_bytes _ passes).0, limit_is, spell_all_alike Y.size top, same))

    -- "With that output a sheet never gets 9": past number 8 our sheet is written, by either writer
    module _ (lent out : List ℕ) (taken : refusal bytes lent ≡ 0) (safe : ForbiddenMarked a → ⊥) (fits : sheet ≤ length out) where
      ours_fit : length (our_evidence m) ≤ length out
      ours_fit = le_trans (sheet_fits (our_evidence m) (our_sheet_lem m ok ((safe_states m ok).1 safe))) fits

      pub sheet_written : write_answer bytes lent (length out) ≡ record { number = 0; values = 0 ∷ length (our_evidence m) ∷ [] }
      sheet_written =
          (writes bytes lent out taken ours_fit).0
          ∙ ap (λ (b : Bool). record { number = 0; values = bit b ∷ length (our_evidence m) ∷ [] }) ((safe_states m ok).1 safe)

      pub joint_sheet_written : joint_refusal bytes lent ≡ 0
          → joint_write_answer bytes lent (length out) ≡ record { number = 0; values = 0 ∷ length (our_evidence m) ∷ [] }
      joint_sheet_written free = (joint.writes_same bytes lent free safe out).0 ∙ sheet_written

    -- so where a writer says 9 with that output, whatever scratch it is lent, it is a trail that is longer
    module _ (lent out : List ℕ) (fits : sheet ≤ length out) where
      -- where the plan is safe, what is no refusal of the model or the scratch is no 9 either
      nine_only : (n : ℕ) → (refusal bytes lent ≡ 0 → (ForbiddenMarked a → ⊥) → n ≡ 9 → ⊥) → ((refusal bytes lent ≡ 0 → ⊥) → n ≡ refusal bytes lent) → n ≡ 9
          → ForbiddenMarked a
      nine_only n past before nine = by (ℕ_discrete (refusal bytes lent) 0) (either (unsafe Y))
        where
          early : (b : Bool) → ◌≡◌ {A = ℕ} (cond b 0 8) 9 → ⊥
          early true e = omega arith
          early false e = omega arith

          by : Dec (refusal bytes lent ≡ 0) → (unsafe Y ≡ true) ⊎ (unsafe Y ≡ false) → ForbiddenMarked a
          by _ (inl u) = (unsafe_states m ok).0 u
          by (yes taken) (inr u) = absurd (past taken ((safe_states m ok).0 u) nine)
          by (no ne) (inr u) = absurd (early (enough S lent) (sym (refusal_is lent) ∙ sym (before ne) ∙ nine))

      pub nine_trail : (write_answer bytes lent (length out)).number ≡ 9 → ForbiddenMarked a
      nine_trail =
          nine_only (write_answer bytes lent (length out)).number
          (λ taken safe nine. omega (arith, sym (ap (λ (x : Answer). x.number) (sheet_written lent out taken safe fits)) ∙ nine))
          (λ ne. (each_refused bytes lent ne).write (length out))

      joint_no_nine : refusal bytes lent ≡ 0 → (ForbiddenMarked a → ⊥) → (joint_write_answer bytes lent (length out)).number ≡ 9 → ⊥
      joint_no_nine taken safe nine = by (ℕ_discrete (joint_refusal bytes lent) 0)
        where
          seventeen : (b : Bool) → ◌≡◌ {A = ℕ} (cond b 17 0) 9 → ⊥
          seventeen true e = omega arith
          seventeen false e = omega arith

          by : Dec (joint_refusal bytes lent ≡ 0) → ⊥
          by (yes free) = omega (arith, sym (ap (λ (x : Answer). x.number) (joint_sheet_written lent out taken safe fits free)) ∙ nine)
          by (no ne) = seventeen (lacks_joint_reset m) (sym (joint_past bytes lent taken) ∙ sym (joint_write_refused bytes lent ne (length out)) ∙ nine)

      pub joint_nine_trail : (joint_write_answer bytes lent (length out)).number ≡ 9 → ForbiddenMarked a
      joint_nine_trail = nine_only (joint_write_answer bytes lent (length out)).number joint_no_nine (λ ne. (each_refused bytes lent ne).write_joint (length out))

    -- ---- the step limit: our trail, whose steps the judge counts and the bytes carry

    below_all : (Q : LabelledSystem) → LabelledLaws Q → Q.system.size ≡ S → unsafe Q.system ≡ true → length (our_moves Q) ≤ steps
    below_all Q M size u =
        let (l, t) = unsafe_trail Q.system M.laws (unsafe_is Q.system M.laws u) in
        omega (arith, is 3, size, our_moves-length Q M l t, trail_steps_below Q.system M.laws l t)

    pub steps_within : (lent : List ℕ) → refusal bytes lent ≡ 0 → ForbiddenMarked a
        → (k : ℕ) × (judged bytes lent ≡ record { number = 0; values = 1 ∷ s ∷ k ∷ [] })
        × (our_evidence m ≡ spell_all (2 ∷ k ∷ moves_numbers a (our_moves P))) × (k ≤ steps)
    unfolding labelled_of
    steps_within lent taken f =
        let (k, judge, count, carried) = judge_unsafe bytes lent taken f in
        let few = below_all P (labelled_laws m ok) (size-states m) ((unsafe_states m ok).1 f) in
        (k, judge ∙ ap (λ (n : ℕ). record { number = 0; values = 1 ∷ n ∷ k ∷ [] }) (sym states_exact), carried, omega arith)

    pub joint_steps_within : (lent : List ℕ) → joint_refusal bytes lent ≡ 0 → ForbiddenMarked a
        → (k : ℕ) × (joint_judged bytes lent ≡ record { number = 0; values = 1 ∷ s ∷ k ∷ [] })
        × (evidence_by false m ≡ spell_all (2 ∷ k ∷ moves_numbers a (our_moves (labelled_without_touch P)))) × (k ≤ steps)
    unfolding labelled_of labelled_with_touch with_touch
    joint_steps_within lent free f =
        let (k, judge, count, carried) = joint.judge_unsafe bytes lent free f in
        let few = below_all (labelled_without_touch P) (touch_labelled false P (labelled_laws m ok)) (size-states m) (joint.unsafe_without bytes lent free f) in
        (k, judge ∙ ap (λ (n : ℕ). record { number = 0; values = 1 ∷ n ∷ k ∷ [] }) (sym states_exact), carried, omega arith)
