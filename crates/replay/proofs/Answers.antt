-- The answer of a trail: 0 exactly where the bytes spell a trail that passes; what it then shows; which answers there are.
use Prim.Native.Nat.{ℕ, ◌^◌, ◌<◌}
use native.Mathlib.Omega.{arith}
use mathlib.Core.Path.{◌≡◌, refl, sym, ap, subst, ◌∙◌}
use mathlib.Core.Logic.{◌↔◌, ◌⊎◌, inl, inr}
use mathlib.Core.List.{List, ◌++◌, Memᴰ}
use lib.ListN.{length, drop, length-drop}
use lib.Seq.{drop-append_seam}
use lib.Dec.{ltb}
use borrow.Author.Tests.{le-ltb, ltb-false}
use Rattle.theory.specs.Marked.{Unsafe}
use Rattle.theory.specs.Replay.{Move, Passes}
use Rattle.theory.specs.StateGraph.{labelled_of}
use Rattle.theory.proofs.Below.{cond_ind}
use Rattle.theory.proofs.Verdict.{trail_sound}
use Rattle.number.specs.Number.{spell_all}
use Rattle.evidence_number.specs.Evidence.{SpellsEvidence, read_evidence}
use Rattle.evidence_number.proofs.Reading.{Reads, more, value_within, reads_first, reads_within, reads_law, spelled_some, shortest_spelled}
use Rattle.model.specs.declared.Model.{Model}
use Rattle.model.specs.Model.{Lawful}
use Rattle.graph.specs.Plan.{automaton_of, system_of_model, labelled_of_model}
use Rattle.graph.proofs.Models.{labelled_laws}
use Rattle.replay.specs.Spelling.{moves_numbers, trail_numbers, RestPasses}
use Rattle.replay.specs.Trail.{run, trail_step, trail_answer}
use Rattle.replay.proofs.Ways.{number_ind, reached_ind, Refusal, read_refusal, not_zero, told_at, told_refused}
use Rattle.replay.proofs.Replays.{steps_told, is_steps}
use Rattle.number.specs.Number as number
use Rattle.theory.proofs.Replay as theory

module _ (m : Model) (bs : List ℕ) (at : ℕ) where
  -- 01: "Evidence passes when its bytes spell, with nothing after, ... a trail whose steps all replay and which ends in a forbidden location.
  -- ... the check returns 0 exactly then."
  pub passes_law : (trail_answer m bs at ≡ 0) ↔ RestPasses m (drop at bs)
  unfolding trail_answer trail_numbers labelled_of
  passes_law = (to, from)
    where
      Then : ℕ → Type 0
      Then n = n ≡ 0 → RestPasses m (drop at bs)

      to : Then (trail_answer m bs at)
      to =
          number_ind Then (read_evidence bs at)
          (λ k to e. reached_ind Then (run (trail_step m bs) k (system_of_model m).start to)
          (λ p end w. cond_ind Then (ltb end (length bs)) (λ t h. absurd (omega arith))
          (λ t. cond_ind Then ((system_of_model m).forbidden p)
          (λ f h.
          let (vs, l, r, u) = told_at (steps_told m bs k (system_of_model m).start to) w in
          let (b, c) = value_within bs at k to e in
          let z : end ≡ length bs = omega (arith, reads_within r c, ltb-false end (length bs) t) in
          let s = more (e ∙ ap (λ j. number.Value j to) (sym l)) (subst (Reads bs to (moves_numbers (automaton_of m) vs)) z r) in
          (vs, (reads_law bs at (trail_numbers (automaton_of m) vs) (omega arith)).0 s, (p, u, f)))
          (λ f h. absurd (omega arith))))
          (λ r w h. absurd (not_zero r (told_refused (steps_told m bs k (system_of_model m).start to) w) h)))
          (λ r e h. absurd (not_zero r (read_refusal bs at r e) h))

      from : RestPasses m (drop at bs) → trail_answer m bs at ≡ 0
      from (vs, s, (q, u, f)) =
          let b = spelled_some s in
          let r = (reads_law bs at (trail_numbers (automaton_of m) vs) (omega (arith, length-drop at bs))).1 s in
          let (to, e, t) = reads_first r in
          simp (e, is_steps m bs u t, le-ltb (length bs) (length bs) (omega arith), f)

  -- a trail that passes shows a marked state that is forbidden
  pub passes_unsafe : Lawful m → trail_answer m bs at ≡ 0 → Unsafe (system_of_model m)
  unfolding labelled_of
  passes_unsafe ok e =
      let (vs, s, w) = passes_law.0 e in
      trail_sound (labelled_of_model m) (labelled_laws m ok) vs ((theory.passes_law (labelled_of_model m) vs).1 w)

  -- the answers that there are
  pub answer_range : (trail_answer m bs at ≡ 0) ⊎ (Refusal (trail_answer m bs at) ⊎ ((trail_answer m bs at ≡ 6) ⊎ (trail_answer m bs at ≡ 14)))
  unfolding trail_answer
  answer_range =
      number_ind Known (read_evidence bs at)
      (λ k to e. reached_ind Known (run (trail_step m bs) k (system_of_model m).start to)
      (λ p end w. cond_ind Known (ltb end (length bs)) (λ t. inr (inr (inl refl)))
      (λ t. cond_ind Known ((system_of_model m).forbidden p) (λ f. inl refl) (λ f. inr (inr (inr refl)))))
      (λ r w. inr (inl (told_refused (steps_told m bs k (system_of_model m).start to) w))))
      (λ r e. inr (inl (read_refusal bs at r e)))
    where
      Known : ℕ → Type 0
      Known n = (n ≡ 0) ⊎ (Refusal n ⊎ ((n ≡ 6) ⊎ (n ≡ 14)))

-- ---- "What we write uses shortest numbers"

-- so moves that pass, written after whatever stands before them, are answered by 0
pub spelled_passes : (m : Model) (vs : List Move) → Passes (labelled_of_model m) vs
    → ((v : ℕ) → Memᴰ v (trail_numbers (automaton_of m) vs) → v < 2 ^ 21)
    → (before : List ℕ) → trail_answer m (before ++ spell_all (trail_numbers (automaton_of m) vs)) (length before) ≡ 0
spelled_passes m vs w h before =
    let ns = trail_numbers (automaton_of m) vs in
    (passes_law m (before ++ spell_all ns) (length before)).1
    (vs, subst (λ l. SpellsEvidence l ns) (sym (drop-append_seam before (spell_all ns))) (shortest_spelled ns h), w)
