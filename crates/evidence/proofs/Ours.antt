-- Our evidence passes: its numbers fit three groups, and what they spell keeps the rules or replays.
use mathlib.Core.Path.{◌≡◌, refl, ap}
use mathlib.Core.Bool.{true, false}
use mathlib.Core.List.{List, [], ◌∷◌}
use Prim.Native.Nat.{ℕ, zero, suc, ◌+◌, ◌%◌, ◌^◌, ◌≤◌, ◌<◌}
use native.Mathlib.Nat.{mod-lt}
use native.Mathlib.Omega.{arith}
use lib.ListN.{length}
use lib.Dec.{eqb, ltb}
use Rattle.limits.specs.Limits.{max_states, max_edges}
use Rattle.graph.proofs.Plan.{labels_are}
use Rattle.theory.specs.Below.{tab}
use Rattle.theory.specs.Walk.{exact, dist⁺}
use Rattle.theory.specs.Enumeration.{key}
use Rattle.theory.specs.StateGraph.{region_count, region_of, system_of, labelled_of}
use Rattle.theory.specs.System.{System}
use Rattle.theory.specs.Marked.{unsafe}
use Rattle.theory.specs.Sheet.{our_sheet, number}
use Rattle.theory.specs.Trail.{trail_states}
use Rattle.theory.specs.ClosedWalk.{closed_walk, closed_walk_steps}
use Rattle.theory.specs.Labels.{LabelledSystem, leads, least_label, labels_along, closed_walk_labels}
use Rattle.theory.specs.Replay.{Move, touch_to, Passes, our_move, moves_along, our_moves}
use Rattle.theory.proofs.Below.{cond_ind, least-le}
use Rattle.theory.proofs.Enumeration.{lawful_whole, lawful_rank, region_at_lem}
use Rattle.theory.proofs.Marked.{unsafe_is, safe_is}
use Rattle.theory.proofs.Sheet.{number-le, our_sheet_passes}
use Rattle.theory.proofs.Trail.{unsafe_trail, trail_length, trail_steps_below}
use Rattle.theory.proofs.StateGraph.{count_positive}
use Rattle.theory.proofs.Labels.{closed_labels_length}
use Rattle.theory.proofs.Replay.{our_moves_pass}
use Rattle.number.specs.Number.{spell_all}
use Rattle.number.proofs.Sequence.{Fit, fit_none, fit_more, fit_append}
use Rattle.evidence_number.proofs.Reading.{shortest_spelled}
use Rattle.model.specs.declared.Model.{Model}
use Rattle.model.specs.Model.{Lawful}
use Rattle.graph.specs.Plan.{automaton_of, system_of_model, labelled_of_model}
use Rattle.graph.proofs.Models.{system_laws, labelled_laws}
use Rattle.successors.proofs.Room.{states_limit}
use Rattle.replay.specs.Spelling.{label_numbers, walk_numbers, move_numbers, moves_numbers, trail_numbers}
use Rattle.evidence.specs.Evidence.{SheetPasses, TrailPasses}
use Rattle.evidence.specs.Ours.{our_sheet_numbers, our_trail_numbers, our_evidence}

-- ---- numbers that fit

fit_tab : (n : ℕ) (f : ℕ → ℕ) → ((i : ℕ) → i < n → f i < 2 ^ 21) → Fit (tab n f)
unfolding tab
fit_tab zero f h = fit_none
fit_tab (suc n) f h = fit_more (h zero (omega arith)) (fit_tab n (λ i. f (suc i)) (λ i k. h (suc i) (omega arith)))

fit_label : (x : ℕ) → x < 2 ^ 21 → Fit (label_numbers x)
fit_label zero h = fit_more (omega arith) fit_none
fit_label (suc e) h = fit_more (omega arith) (fit_more (omega arith) fit_none)

moves_length : (P : LabelledSystem) (l : List ℕ) (p : ℕ) → length (moves_along P p l) ≡ length l
unfolding moves_along
moves_length P [] p = refl
moves_length P (q ∷ l) p = ap suc (moves_length P l q)

module _ (m : Model) (ok : Lawful m) where
  abbrev Y : System
  Y = system_of_model m

  abbrev P : LabelledSystem
  P = labelled_of_model m

  size_few : Y.size ≤ max_states
  unfolding system_of
  size_few = omega (arith, states_limit ok)

  -- "w1..wn, r1..rn" of the region of any state
  fit_region : (q : ℕ) → Fit (key (region_of (automaton_of m) q))
  unfolding region_of region_count automaton_of system_of
  fit_region q =
      let start = (system_laws m ok).allowed_below Y.start (system_laws m ok).start_allowed in
      let some = count_positive (automaton_of m) m.locations Y.start start in
      let h = region_at_lem m.clocks m.ceiling (q % region_count (automaton_of m)) (mod-lt q some) in
      fit_append _
      (λ w k. omega (arith, lawful_whole m.clocks m.ceiling _ h w k, ok.ceiling.1))
      (λ r k. omega (arith, lawful_rank m.clocks m.ceiling _ h r k, ok.clocks.1))

  labels_few : P.labels ≤ max_edges + 1
  labels_few = omega (arith, labels_are m, ok.edges)

  fit_least : (p q : ℕ) → least_label P p q < 2 ^ 21
  unfolding least_label
  fit_least p q = omega (arith, least-le P.labels (λ x. leads P x p q), labels_few)

  fit_along : (l : List ℕ) (p : ℕ) → Fit (walk_numbers (labels_along P p l))
  unfolding labels_along walk_numbers
  fit_along [] p = fit_none
  fit_along (q ∷ l) p = fit_append (label_numbers (least_label P p q)) (fit_label (least_label P p q) (fit_least p q)) (fit_along l q)

  closed_walk_few : (q : ℕ) → closed_walk_steps Y q ≤ suc Y.size
  unfolding closed_walk_steps dist⁺
  closed_walk_few q = omega (arith, least-le Y.size (λ k. exact Y.size Y.flow (λ x. eqb x q) (suc k) q))

  fit_touch : (q : ℕ) → Fit (move_numbers (automaton_of m) (touch_to q (closed_walk_labels P q)))
  unfolding move_numbers closed_walk_labels labelled_of
  fit_touch q =
      fit_more (omega arith)
      (fit_append (key (region_of (automaton_of m) q)) (fit_region q)
      (fit_more (omega (arith, closed_labels_length P (labelled_laws m ok) q, closed_walk_few q, size_few))
      (fit_along (closed_walk P.system q) q)))

  fit_move : (p q : ℕ) → Fit (move_numbers (automaton_of m) (our_move P p q))
  unfolding our_move move_numbers
  fit_move p q =
      cond_ind (λ (v : Move). Fit (move_numbers (automaton_of m) v)) (ltb (least_label P p q) P.labels)
      (λ _. fit_label (least_label P p q) (fit_least p q))
      (λ _. cond_ind (λ (v : Move). Fit (move_numbers (automaton_of m) v)) (P.system.face p q)
      (λ _. fit_more (omega arith) (fit_region q)) (λ _. fit_touch q))

  fit_moves : (l : List ℕ) (p : ℕ) → Fit (moves_numbers (automaton_of m) (moves_along P p l))
  unfolding moves_along moves_numbers
  fit_moves [] p = fit_none
  fit_moves (q ∷ l) p = fit_append (move_numbers (automaton_of m) (our_move P p q)) (fit_move p q) (fit_moves l q)

  -- ---- a trail where a marked state is forbidden, a sheet where none is

  -- the moves through given states, if they pass
  pub path_trail : (l : List ℕ) → length l ≤ Y.size → Passes P (moves_along P Y.start l)
      → TrailPasses m (spell_all (2 ∷ trail_numbers (automaton_of m) (moves_along P Y.start l)))
  unfolding trail_numbers
  path_trail l few w = (
    moves_along P Y.start l,
    shortest_spelled (2 ∷ trail_numbers (automaton_of m) (moves_along P Y.start l))
        (fit_more (omega arith) (fit_more (omega (arith, moves_length P l Y.start, few, size_few)) (fit_moves l Y.start))),
    w,
  )

  pub our_trail : unsafe Y ≡ true → TrailPasses m (our_evidence m)
  unfolding our_evidence our_trail_numbers our_moves labelled_of
  our_trail u =
      let (l, t) = unsafe_trail Y (system_laws m ok) (unsafe_is Y (system_laws m ok) u) in
      let few = trail_steps_below Y (system_laws m ok) l t in
      rw u (path_trail (trail_states Y) (omega (arith, few, trail_length Y (system_laws m ok))) (our_moves_pass P (labelled_laws m ok) l t))

  pub our_sheet_lem : unsafe Y ≡ false → SheetPasses m (our_evidence m)
  unfolding our_evidence our_sheet_numbers our_sheet
  our_sheet_lem u = (
    our_sheet Y,
    rw u (shortest_spelled (our_sheet_numbers m)
        (fit_more (omega arith) (fit_tab Y.size (number Y)
        (λ i h. omega (arith, number-le Y (system_laws m ok) i h, size_few))))),
    our_sheet_passes Y (system_laws m ok) (safe_is Y (system_laws m ok) u),
  )
