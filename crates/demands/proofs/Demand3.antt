-- Demand 3: "the evidence check passes exactly the evidence that 01 says; each accepted model has passing evidence of just one kind; what we write passes;
-- and a passing sheet covers every widened run of at most K jumps with (K+1)e < D".
--
-- `bytes` spell an accepted model and each scratch slice is long enough: the call is refused by none of 1 to 8.
use mathlib.Core.Path.{◌≡◌, refl, sym, ap, ◌∙◌}
use mathlib.Core.Bool.{Bool, true, false, cond}
use mathlib.Core.Logic.{◌↔◌, ◌⊎◌, inl, inr, ⊎_elim}
use mathlib.Core.List.{List, [], ◌∷◌, ◌++◌}
use Prim.Native.Nat.{ℕ, ◌+◌, ◌*◌, ◌≤◌, ◌<◌}
use native.Mathlib.Decide.{dec_lt}
use native.Mathlib.Omega.{arith}
use lib.ListN.{length, get_or, take, drop}
use lib.Seq.{take-append_seam}
use borrow.Author.Tests.{lt-ltb, le-ltb}
use Rattle.theory.specs.Below.{bit}
use Rattle.theory.specs.Automaton.{Edge, Run}
use Rattle.theory.specs.System.{System}
use Rattle.theory.specs.Marked.{MarkedIn, unsafe}
use Rattle.theory.specs.RegionGraph.{ForbiddenMarked}
use Rattle.theory.specs.Sheet.{in_of}
use Rattle.theory.specs.StateGraph.{labelled_of}
use Rattle.theory.specs.Walk.{Lex}
use Rattle.theory.specs.Labels.{LabelledSystem, ClosedLabelWalk, walk_key, closed_walk_labels}
use Rattle.theory.specs.Replay.{trail_key, our_moves}
use Rattle.theory.proofs.Below.{either}
use Rattle.theory.proofs.Sheet.{is_sheet}
use Rattle.theory.proofs.Labels.{closes_law}
use Rattle.theory.proofs.Replay.{passes_law}
use Rattle.theory.proofs.Verdict.{sheet_sound, sheet_safe, trail_sound}
use Rattle.theory.proofs.Marked.{is_unsafe}
use Rattle.theory.proofs.Least.{our_walk_least, our_trail_least}
use Rattle.model.specs.declared.Model.{Model}
use Rattle.model.specs.Model.{Lawful}
use Rattle.graph.specs.Plan.{automaton_of, system_of_model, labelled_of_model}
use Rattle.graph.proofs.Models.{system_laws, labelled_laws, unsafe_states, safe_states, sheet_covers}
use Rattle.evidence.specs.Evidence.{Evidence}
use Rattle.evidence.specs.Evidence.{SheetPasses, TrailPasses, checked}
use Rattle.evidence.specs.Ours.{our_evidence}
use Rattle.evidence.proofs.Answers.{sheet_passes, trail_passes, refusal_above}
use Rattle.evidence.proofs.Ours.{our_sheet_lem, our_trail}
use Rattle.evidence_writer.specs.Written.{evidence_in, verdict_with, written_for}
use Rattle.number.specs.Answer.{Answer}
use Rattle.spelling.specs.Lays.{filled}
use Rattle.call.specs.Call.{model_of, refusal}
use Rattle.op_check.specs.Check.{evidence_answer, check_answer}
use Rattle.op_write.specs.Write.{written_answer, write_answer, write_output}
use Rattle.demands.specs.Told.{kind_answer}
use Rattle.call.proofs.Calls.{accepted}
use Rattle.demands.proofs.Admitted.{check_done}
use Rattle.op_write.proofs.Write.{write_done, write_output_lem}
use Rattle.evidence.specs.Evidence as evidence
use Rattle.evidence_writer.specs.Written as written

answer_sheet : (e : Evidence) → evidence_answer e ≡ kind_answer 1 → e ≡ evidence.Sheet
unfolding evidence_answer
answer_sheet evidence.Sheet h = refl
answer_sheet evidence.Trail h = absurd (omega (arith, ap (λ (a : Answer). get_or a.values 0 0) h))
answer_sheet (evidence.Refused r) h = absurd (omega (arith, ap (λ (a : Answer). get_or a.values 0 0) h))

answer_trail : (e : Evidence) → evidence_answer e ≡ kind_answer 2 → e ≡ evidence.Trail
unfolding evidence_answer
answer_trail evidence.Sheet h = absurd (omega (arith, ap (λ (a : Answer). get_or a.values 0 0) h))
answer_trail evidence.Trail h = refl
answer_trail (evidence.Refused r) h = absurd (omega (arith, ap (λ (a : Answer). get_or a.values 0 0) h))

module _ (bytes lent : List ℕ) (taken : refusal bytes lent ≡ 0) where
  abbrev m : Model
  m = model_of bytes

  abbrev Y : System
  Y = system_of_model m

  abbrev P : LabelledSystem
  P = labelled_of_model m

  ok : Lawful m
  ok = accepted bytes lent taken

  -- ---- "the evidence check passes exactly the evidence that 01 says"

  -- it answers 1 exactly where the bytes spell, with nothing after, a sheet that keeps every rule
  pub sheet_exactly : (shown : List ℕ) → (check_answer bytes shown lent ≡ kind_answer 1) ↔ SheetPasses m shown
  unfolding evidence_answer
  sheet_exactly shown =
      let done = check_done bytes shown lent taken in (
        λ e. (sheet_passes m shown ok).0 (answer_sheet (checked m shown) (sym done ∙ e)),
        λ p. done ∙ ap evidence_answer ((sheet_passes m shown ok).1 p),
      )

  -- it answers 2 exactly where they spell a trail whose steps all replay and which ends in a forbidden location
  pub trail_exactly : (shown : List ℕ) → (check_answer bytes shown lent ≡ kind_answer 2) ↔ TrailPasses m shown
  unfolding evidence_answer
  trail_exactly shown =
      let done = check_done bytes shown lent taken in (
        λ e. (trail_passes m shown ok).0 (answer_trail (checked m shown) (sym done ∙ e)),
        λ p. done ∙ ap evidence_answer ((trail_passes m shown ok).1 p),
      )

  -- 01: "For an accepted model and enough scratch the check returns 0 exactly then."
  pub zero_exactly : (shown : List ℕ) → ((check_answer bytes shown lent).number ≡ 0) ↔ (SheetPasses m shown ⊎ TrailPasses m shown)
  unfolding evidence_answer
  zero_exactly shown = (
    λ z. by (checked m shown) refl (ap (λ (a : Answer). a.number) (sym done) ∙ z),
    ⊎_elim (λ p. ap (λ (a : Answer). a.number) ((sheet_exactly shown).1 p)) (λ p. ap (λ (a : Answer). a.number) ((trail_exactly shown).1 p)),
  )
    where
      done : check_answer bytes shown lent ≡ evidence_answer (checked m shown)
      done = check_done bytes shown lent taken

      by : (e : Evidence) → checked m shown ≡ e → (evidence_answer e).number ≡ 0 → SheetPasses m shown ⊎ TrailPasses m shown
      by evidence.Sheet c z = inl ((sheet_passes m shown ok).0 c)
      by evidence.Trail c z = inr ((trail_passes m shown ok).0 c)
      by (evidence.Refused r) c z = absurd (omega (arith, refusal_above m shown ok r c))

  -- ---- what passing evidence shows

  -- a passing sheet holds every marked state, and none of them is forbidden
  pub sheet_holds_marked : (shown : List ℕ) (p : SheetPasses m shown) (s : ℕ) → MarkedIn Y s → (in_of p.0 s ≡ true) × (Y.forbidden s ≡ false)
  sheet_holds_marked shown (l, s, K) = sheet_sound Y (system_laws m ok) l (is_sheet Y (system_laws m ok) l K)

  sheet_is_safe : (shown : List ℕ) → SheetPasses m shown → unsafe Y ≡ false
  sheet_is_safe shown (l, s, K) = sheet_safe Y (system_laws m ok) l (is_sheet Y (system_laws m ok) l K)

  trail_is_unsafe : (shown : List ℕ) → TrailPasses m shown → unsafe Y ≡ true
  unfolding labelled_of
  trail_is_unsafe shown (vs, s, w) =
      is_unsafe Y (system_laws m ok) (trail_sound P (labelled_laws m ok) vs ((passes_law P vs).1 w))

  -- ---- "Each accepted model has passing evidence of just one kind: a sheet exactly when no marked state is in a forbidden location, a trail exactly when
  -- one is."

  pub safe_exactly : (ForbiddenMarked (automaton_of m) → ⊥) ↔ ((shown : List ℕ) × SheetPasses m shown)
  safe_exactly = (
    λ n. (our_evidence m, our_sheet_lem m ok ((safe_states m ok).1 n)),
    λ (shown, p). (safe_states m ok).0 (sheet_is_safe shown p),
  )

  pub unsafe_exactly : ForbiddenMarked (automaton_of m) ↔ ((shown : List ℕ) × TrailPasses m shown)
  unsafe_exactly = (
    λ f. (our_evidence m, our_trail m ok ((unsafe_states m ok).1 f)),
    λ (shown, p). (unsafe_states m ok).0 (trail_is_unsafe shown p),
  )

  pub just_one_kind :
      ((ForbiddenMarked (automaton_of m) → ⊥) × ((shown : List ℕ) × SheetPasses m shown) × ((shown : List ℕ) → TrailPasses m shown → ⊥))
      ⊎ (ForbiddenMarked (automaton_of m) × ((shown : List ℕ) × TrailPasses m shown) × ((shown : List ℕ) → SheetPasses m shown → ⊥))
  just_one_kind =
      ⊎_elim
      (λ u. let f = (unsafe_states m ok).0 u in inr (f, unsafe_exactly.0 f, λ shown p. safe_exactly.1 (shown, p) f))
      (λ u. let n = (safe_states m ok).0 u in inl (n, safe_exactly.0 n, λ shown p. n (unsafe_exactly.1 (shown, p))))
      (either (unsafe Y))

  -- our evidence, by its definition, passes: a trail where a marked state is in a forbidden location, a sheet where none is
  pub ours_passes : (ForbiddenMarked (automaton_of m) → check_answer bytes (our_evidence m) lent ≡ kind_answer 2)
      × ((ForbiddenMarked (automaton_of m) → ⊥) → check_answer bytes (our_evidence m) lent ≡ kind_answer 1)
  ours_passes = (
    λ f. (trail_exactly (our_evidence m)).1 (our_trail m ok ((unsafe_states m ok).1 f)),
    λ n. (sheet_exactly (our_evidence m)).1 (our_sheet_lem m ok ((safe_states m ok).1 n)),
  )

  -- so it passes with the kind of the computed verdict
  pub ours_kind : check_answer bytes (our_evidence m) lent ≡ kind_answer (cond (unsafe Y) 2 1)
  ours_kind =
      ⊎_elim
      (λ u. rw u (ours_passes.0 ((unsafe_states m ok).0 u)))
      (λ u. rw u (ours_passes.1 ((safe_states m ok).0 u)))
      (either (unsafe Y))

  -- 01: "The step count that our trail carries is at most that of every other passing trail of the model ..; of those with as few, ours is the least in
  -- state numbers read from the start, then in kinds, then in edges." The key of a trail is its count, states, kinds, edges.
  pub ours_least : (shown : List ℕ) (p : TrailPasses m shown) → Lex (trail_key P (our_moves P)) (trail_key P p.0)
  ours_least shown (vs, s, w) = our_trail_least P (labelled_laws m ok) vs ((passes_law P vs).1 w)

  -- "Its walks are chosen alike."
  pub our_walks_least : (q : ℕ) (xs : List ℕ) → ClosedLabelWalk P xs q → Lex (walk_key P (closed_walk_labels P q) q) (walk_key P xs q)
  our_walks_least q xs w = our_walk_least P (labelled_laws m ok) q xs ((closes_law P xs q).1 w)

  -- ---- "a passing sheet covers every widened run of at most K jumps with (K+1)e < D"

  pub covers : (shown : List ℕ) → SheetPasses m shown → (K e D N : ℕ) → (K + 1) * e < D → 0 < N
      → (gs : List Edge) (l : ℕ) (v : List ℕ) (t : ℕ) → length gs ≤ K → Run (automaton_of m) N e D gs l v t → (automaton_of m).forbidden l ≡ false
  covers shown (l, s, K) = (sheet_covers m ok l (is_sheet Y (system_laws m ok) l K)).enters_none

  -- 01: "K = 9, D = 100: e = 9 is covered"
  pub covers_nine : (shown : List ℕ) → SheetPasses m shown → (N : ℕ) → 0 < N
      → (gs : List Edge) (l : ℕ) (v : List ℕ) (t : ℕ) → length gs ≤ 9 → Run (automaton_of m) N 9 100 gs l v t → (automaton_of m).forbidden l ≡ false
  covers_nine shown p N h = covers shown p 9 9 100 N (omega arith) h

-- ---- "what we write passes"

-- what is told and left of evidence that is written where there is room for it
module _ (bad : Bool) (ours out : List ℕ) where
  pub told_fits : length ours ≤ length out
      → (written_answer (verdict_with bad (length ours) (length out)) ≡ record { number = 0; values = bit bad ∷ length ours ∷ [] })
      × (filled ours out ≡ ours ++ drop (length ours) out)
  unfolding written_answer verdict_with
  told_fits h = (
    simp (le-ltb (length out) (length ours) h) (by bad),
    simp (le-ltb (length out) (length ours) h) refl,
  )
    where
      by : (b : Bool) → written_answer (cond b (written.Unsafe (length ours)) (written.Safe (length ours))) ≡ record { number = 0; values = bit b ∷ length ours ∷ [] }
      by true = refl
      by false = refl

  pub told_short : length out < length ours
      → (written_answer (verdict_with bad (length ours) (length out)) ≡ record { number = 9; values = [] }) × (filled ours out ≡ out)
  unfolding written_answer verdict_with
  told_short h = (simp (lt-ltb (length out) (length ours) h) refl, simp (lt-ltb (length out) (length ours) h) refl)

  -- as many first bytes as are told pass where the evidence does
  pub told_passes : (check : List ℕ → Answer) (a : Answer) (left : List ℕ) → a ≡ written_answer (verdict_with bad (length ours) (length out))
      → left ≡ filled ours out → check ours ≡ kind_answer (cond bad 2 1) → a.number ≡ 0
      → check (take (get_or a.values 1 0) left) ≡ kind_answer (get_or a.values 0 0 + 1)
  told_passes check a left is fill passes z = by (dec_lt (length out) (length ours))
    where
      kind : (b : Bool) → cond b 2 1 ≡ bit b + 1
      kind true = refl
      kind false = refl

      by : Dec (length out < length ours) → check (take (get_or a.values 1 0) left) ≡ kind_answer (get_or a.values 0 0 + 1)
      by (yes h) = absurd (omega (arith, z, ap (λ (x : Answer). x.number) (is ∙ (told_short h).0)))
      by (no h) =
          let (t, o) = told_fits (omega arith) in
          rw (is ∙ t, fill ∙ o, take-append_seam ours (drop (length ours) out)) (passes ∙ ap kind_answer (kind bad))

module _ (bytes lent out : List ℕ) where
  abbrev ours : List ℕ
  ours = our_evidence (model_of bytes)

  abbrev bad : Bool
  bad = unsafe (system_of_model (model_of bytes))

  told : refusal bytes lent ≡ 0 → write_answer bytes lent (length out) ≡ written_answer (verdict_with bad (length ours) (length out))
  unfolding written_for
  told taken = write_done bytes lent taken (length out)

  left : refusal bytes lent ≡ 0 → write_output bytes lent out ≡ filled ours out
  unfolding evidence_in
  left taken = write_output_lem bytes lent taken out

  -- with room for it, the writer answers the verdict and the length of our evidence, which fills the output from its first byte
  pub writes : refusal bytes lent ≡ 0 → length ours ≤ length out
      → (write_answer bytes lent (length out) ≡ record { number = 0; values = bit (unsafe (system_of_model (model_of bytes))) ∷ length ours ∷ [] })
      × (write_output bytes lent out ≡ ours ++ drop (length ours) out)
  writes taken h = let (t, o) = told_fits bad ours out h in (told taken ∙ t, left taken ∙ o)

  -- 9 where there is no room for it, and the output stays as it was
  pub writes_nothing : refusal bytes lent ≡ 0 → length out < length ours
      → (write_answer bytes lent (length out) ≡ record { number = 9; values = [] }) × (write_output bytes lent out ≡ out)
  writes_nothing taken h = let (t, o) = told_short bad ours out h in (told taken ∙ t, left taken ∙ o)

  -- Where the writer returns 0, with a verdict (0 safe, 1 unsafe) and a number of bytes, as many first bytes of the output pass the check: a sheet where the
  -- verdict is safe, a trail where it is unsafe; whatever the output and the scratch held before, and whichever scratch the check is lent.
  pub written_passes : (lent' : List ℕ) → refusal bytes lent ≡ 0 → refusal bytes lent' ≡ 0 → (write_answer bytes lent (length out)).number ≡ 0
      → check_answer bytes (take (get_or (write_answer bytes lent (length out)).values 1 0) (write_output bytes lent out)) lent'
      ≡ kind_answer (get_or (write_answer bytes lent (length out)).values 0 0 + 1)
  written_passes lent' taken taken' z =
      told_passes bad ours out (λ shown. check_answer bytes shown lent') (write_answer bytes lent (length out)) (write_output bytes lent out)
      (told taken) (left taken) (ours_kind bytes lent' taken') z

-- "e = 10 isn't": the condition fails, and `Tight.not_covered` has a plan, a passing sheet and a run at equality
pub ten_is_not : (9 + 1) * 10 < 100 → ⊥
ten_is_not h = omega arith
