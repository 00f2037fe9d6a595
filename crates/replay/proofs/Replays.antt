-- What walks, steps and trails that replay are: each definition that reads and replays reaches a state exactly where its numbers are read and
-- the theory's relation holds.
use Prim.Native.Nat.{ℕ, zero, suc, ◌≤◌, ◌<◌}
use native.Mathlib.Omega.{arith}
use mathlib.Core.Path.{◌≡◌, refl, sym, ap, subst, ◌∙◌}
use mathlib.Core.Bool.{Bool, true, ◌&&◌}
use mathlib.Core.List.{List, [], ◌∷◌}
use lib.ListN.{length, length-map}
use lib.Dec.{eqb}
use borrow.Author.Tests.{eqb-true, eqb-false, eq-eqb, ne_eqb}
use Rattle.theory.specs.Region.{Clock, Region, clocks, wholes, lawful}
use Rattle.theory.specs.Enumeration.{ranks, key}
use Rattle.theory.specs.Labels.{LabelledSystem, Leads, LabelWalk, empty, label, ClosedLabelWalk, opens}
use Rattle.theory.specs.Replay.{Move, flow_by, face_to, touch_to, MoveReplays, flow_replays, face_replays, touch_replays, Replay, done, then}
use Rattle.theory.specs.StateGraph.{state_count, location_of, region_of, number_of, allowed_state, beside, system_of, labelled_of}
use Rattle.theory.proofs.Below.{cond_ind, and↔, eqb↔, test↔}
use Rattle.theory.proofs.Region.{lawful_law}
use Rattle.theory.proofs.Enumeration.{lawful-length}
use Rattle.theory.proofs.Labels.{opens↔}
use Rattle.theory.proofs.StateGraph.{region_of_number, region_lawful, number_of_parts, allowed_state_law}
use Rattle.evidence_number.specs.Evidence.{read_evidence}
use Rattle.evidence_number.proofs.Reading.{Reads, none, more, reads_append, reads_split, reads_first, reads_end}
use Rattle.evidence_number.specs.Numbers.{got}
use Rattle.trail_numbers.specs.Numbers.{label_at, numbers_at}
use Rattle.model.specs.declared.Model.{Model}
use Rattle.model.specs.Model.{Lawful}
use Rattle.graph.specs.Plan.{automaton_of, system_of_model, labelled_of_model}
use Rattle.graph.specs.States.{states}
use Rattle.replay.specs.Trail.{Reached}
use Rattle.replay.specs.Trail.{At, Refused}
use Rattle.replay.specs.Spelling.{label_numbers, walk_numbers, move_numbers, moves_numbers}
use Rattle.replay.specs.Trail.{run, flow_to, walk_step, closed_walk, on_region, state_beside, face_step_to, touch_step_to, trail_step}
use Rattle.replay.proofs.Ways.{number_ind, numbers_ind, reached_ind, bad, read_refusal, Told, reached, halted, told_at, told_refused, told_map, numbers_is, numbers_refused, is_numbers}
use Rattle.replay.proofs.Walks.{run_told, label_is, label_refused, is_label}
use Rattle.replay.proofs.Regions.{parts_clocks, clocks-key}
use Rattle.replay.proofs.Steps.{start_in}
use Rattle.number.specs.Number as number

module _ (m : Model) (bs : List ℕ) where
  abbrev graph : LabelledSystem
  graph = labelled_of_model m

  -- ---- time and jump

  flow_told : (x p at : ℕ) → Told (λ q to. Leads graph x p q × (at ≡ to)) (flow_to m x p at)
  unfolding flow_to
  flow_told x p at =
      cond_ind (Told (λ q to. Leads graph x p q × (at ≡ to))) (opens graph x p)
      (λ t. let (b, d) = (opens↔ graph x p).0 t in reached ((b, refl, d), refl))
      (λ t. halted bad)

  is_flow : (x p : ℕ) {q : ℕ} → Leads graph x p q → (at : ℕ) → flow_to m x p at ≡ At q at
  unfolding flow_to
  is_flow x p (b, c, d) at = rw ((opens↔ graph x p).1 (b, rw c d)) (ap (λ q. At q at) c)

  -- ---- the closed walk of a touch

  abbrev Walked : ℕ → ℕ → ℕ → ℕ → Type 0
  Walked p at q to = (x : ℕ) × Reads bs at (label_numbers x) to × Leads graph x p q

  walk_step_told : (p at : ℕ) → Told (Walked p at) (walk_step m bs p at)
  unfolding walk_step
  walk_step_told p at =
      number_ind (Told (Walked p at)) (label_at bs at)
      (λ x to e. told_map (λ q end (l, z). (x, subst (Reads bs at (label_numbers x)) z (label_is bs at x to e), l)) (flow_told x p to))
      (λ r e. halted (label_refused bs at r e))

  pub walk_below : (p at q to : ℕ) → walk_step m bs p at ≡ At q to → q < states m
  unfolding labelled_of system_of
  walk_below p at q to e = (told_at (walk_step_told p at) e).2.2

  abbrev Walks : ℕ → ℕ → ℕ → ℕ → ℕ → Type 0
  Walks k p at q to = (xs : List ℕ) × (length xs ≡ k) × Reads bs at (walk_numbers xs) to × LabelWalk graph p q xs

  walk_told : (k p at : ℕ) → Told (Walks k p at) (run (walk_step m bs) k p at)
  unfolding walk_numbers
  walk_told =
      run_told (walk_step m bs) Walked walk_step_told Walks
      (λ p at. ([], refl, none, empty))
      (λ k p at q to s end (x, r, l) (xs, n, t, w). (x ∷ xs, ap suc n, reads_append r t, label l w))

  is_walk : {p q at to : ℕ} {xs : List ℕ} → LabelWalk graph p q xs → Reads bs at (walk_numbers xs) to → run (walk_step m bs) (length xs) p at ≡ At q to
  unfolding run walk_step walk_numbers
  is_walk {p = p} empty r = ap (At p) (reads_end r)
  is_walk {at = at} (label {p = p} {x = x} l w) r =
      let (to, s, t) = reads_split (label_numbers x) r in
      simp (is_label bs at x to s, is_flow x p l to) (is_walk w t)

  abbrev Closed : ℕ → ℕ → ℕ → ℕ → Type 0
  Closed q at s to = (s ≡ q) × ((xs : List ℕ) × Reads bs at (length xs ∷ walk_numbers xs) to × ClosedLabelWalk graph xs q)

  closed_told : (q at : ℕ) → Told (Closed q at) (closed_walk m bs q at)
  unfolding closed_walk
  closed_told q at =
      number_ind (Told (Closed q at)) (read_evidence bs at)
      (λ k to e. cond_ind (Told (Closed q at)) (eqb k 0) (λ t. halted bad)
      (λ t. reached_ind (Told (Closed q at)) (run (walk_step m bs) k q to)
      (λ p end w. cond_ind (Told (Closed q at)) (eqb p q)
      (λ u.
      let (xs, l, r, v) = told_at (walk_told k q to) w in
      let some : 1 ≤ length xs = omega (arith, eqb-false k 0 t) in
      reached (refl, (xs, more (e ∙ ap (λ j. number.Value j to) (sym l)) r, (some, subst (λ s. LabelWalk graph q s xs) (eqb-true p q u) v))))
      (λ u. halted bad))
      (λ r w. halted (told_refused (walk_told k q to) w))))
      (λ r e. halted (read_refusal bs at r e))

  is_closed : {q at to : ℕ} {xs : List ℕ} → ClosedLabelWalk graph xs q → Reads bs at (length xs ∷ walk_numbers xs) to → closed_walk m bs q at ≡ At q to
  unfolding closed_walk
  is_closed {q = q} {xs = xs} (some, w) r =
      let (to, e, s) = reads_first r in
      simp (e, ne_eqb (length xs) 0 (λ z. omega arith), is_walk w s, eq-eqb q q refl)

  -- ---- regions

  region_told : {R : ℕ → ℕ → Type 0} (n at : ℕ) {go : Region → ℕ → Reached}
      → ((xs : Region) (end : ℕ) → Reads bs at (key xs) end → Told R (go xs end)) → Told R (on_region n bs at go Refused)
  region_told {R} n at f =
      numbers_ind (Told R) (numbers_at bs n at)
      (λ ws to e. numbers_ind (Told R) (numbers_at bs n to)
      (λ rs end d.
      let (k, r) = numbers_is bs n at ws to e in
      let (l, s) = numbers_is bs n to rs end d in
      f (clocks ws rs) end (subst (λ vs. Reads bs at vs end) (sym (clocks-key ws rs (k ∙ sym l))) (reads_append r s)))
      (λ r d. halted (numbers_refused bs n to r d)))
      (λ r e. halted (numbers_refused bs n at r e))

  is_region : (n at : ℕ) (go : Region → ℕ → Reached) (stop : ℕ → Reached) (xs : Region) (end : ℕ) → length xs ≡ n → Reads bs at (key xs) end
      → on_region n bs at go stop ≡ go xs end
  is_region n at go stop xs end l r =
      let (to, s, t) = reads_split (wholes xs) r in
      let a : numbers_at bs n at ≡ got (wholes xs) to
      = ap (λ k. numbers_at bs k at) (sym (length-map xs (λ (x : Clock). x.whole) ∙ l)) ∙ is_numbers bs s in
      let b : numbers_at bs n to ≡ got (ranks xs) end
      = ap (λ k. numbers_at bs k to) (sym (length-map xs (λ (x : Clock). x.rank) ∙ l)) ∙ is_numbers bs t in
      simp (a, b) (ap (λ ys. go ys end) (parts_clocks xs))

  -- states of one location, by their regions
  module _ (test : Region → Region → Bool) (p q : ℕ) (f : beside (automaton_of m) m.locations test p q ≡ true) where
    beside_state : (q < state_count (automaton_of m) m.locations) × (location_of (automaton_of m) p ≡ location_of (automaton_of m) q)
    unfolding beside
    beside_state =
        let a = automaton_of m in
        let ((_, b), (l, _)) = (and↔ (and↔ (test↔ (allowed_state a m.locations p)) (allowed_state_law a m.locations q))
        (and↔ (eqb↔ (location_of a p) (location_of a q)) (test↔ (test (region_of a p) (region_of a q))))).0 f in
        (b.0, l)

    beside_number : state_beside m p (region_of (automaton_of m) q) ≡ q
    beside_number =
        ap (λ l. number_of (automaton_of m) l (region_of (automaton_of m) q)) beside_state.1
        ∙ number_of_parts (automaton_of m) m.locations q beside_state.0

    beside_lawful : lawful m.clocks m.ceiling (region_of (automaton_of m) q) ≡ true
    unfolding automaton_of
    beside_lawful =
        (lawful_law m.clocks m.ceiling (region_of (automaton_of m) q)).1 (region_lawful (automaton_of m) m.locations q beside_state.0)

    beside_long : length (region_of (automaton_of m) q) ≡ m.clocks
    beside_long = lawful-length m.clocks m.ceiling (region_of (automaton_of m) q) beside_lawful

  region_beside : (p : ℕ) (xs : Region) → lawful m.clocks m.ceiling xs ≡ true → region_of (automaton_of m) (state_beside m p xs) ≡ xs
  unfolding automaton_of
  region_beside p xs t = region_of_number (automaton_of m) (location_of (automaton_of m) p) ((lawful_law m.clocks m.ceiling xs).0 t)

  -- ---- face and touch

  abbrev Faced : ℕ → Region → ℕ → ℕ → ℕ → Type 0
  Faced p xs at q to = (at ≡ to) × (region_of (automaton_of m) q ≡ xs) × ((system_of_model m).face p q ≡ true)

  face_told : (p : ℕ) (xs : Region) (at : ℕ) → Told (Faced p xs at) (face_step_to m p xs at)
  unfolding face_step_to
  face_told p xs at =
      cond_ind (Told (Faced p xs at)) (lawful m.clocks m.ceiling xs && (system_of_model m).face p (state_beside m p xs))
      (λ t.
      let (l, f) = (and↔ (test↔ (lawful m.clocks m.ceiling xs)) (test↔ ((system_of_model m).face p (state_beside m p xs)))).0 t in
      reached (refl, region_beside p xs l, f))
      (λ t. halted bad)

  abbrev Touched : ℕ → Region → ℕ → ℕ → ℕ → Type 0
  Touched p xs at q to =
      (region_of (automaton_of m) q ≡ xs) × ((system_of_model m).near p q ≡ true)
      × ((ls : List ℕ) × Reads bs at (length ls ∷ walk_numbers ls) to × ClosedLabelWalk graph ls q)

  touch_told : (p : ℕ) (xs : Region) (at : ℕ) → Told (Touched p xs at) (touch_step_to m bs p xs at)
  unfolding touch_step_to
  touch_told p xs at =
      cond_ind (Told (Touched p xs at)) (lawful m.clocks m.ceiling xs && (system_of_model m).near p (state_beside m p xs))
      (λ t.
      let (l, f) = (and↔ (test↔ (lawful m.clocks m.ceiling xs)) (test↔ ((system_of_model m).near p (state_beside m p xs)))).0 t in
      told_map (λ q to (z, w). subst (λ q. Touched p xs at q to) (sym z) (region_beside p xs l, f, w)) (closed_told (state_beside m p xs) at))
      (λ t. halted bad)

  is_face : (p q : ℕ) → (system_of_model m).face p q ≡ true → (at : ℕ) → face_step_to m p (region_of (automaton_of m) q) at ≡ At q at
  unfolding face_step_to system_of
  is_face p q f at = rw (beside_lawful _ p q f, beside_number _ p q f, f)

  is_touch : (p q : ℕ) {at to : ℕ} {xs : List ℕ} → (system_of_model m).near p q ≡ true → ClosedLabelWalk graph xs q
      → Reads bs at (length xs ∷ walk_numbers xs) to → touch_step_to m bs p (region_of (automaton_of m) q) at ≡ At q to
  unfolding touch_step_to system_of
  is_touch p q f w r = rw (beside_lawful _ p q f, beside_number _ p q f, f) (is_closed w r)

  -- ---- one step of the trail

  abbrev Stepped : ℕ → ℕ → ℕ → ℕ → Type 0
  Stepped p at q to = (v : Move) × Reads bs at (move_numbers (automaton_of m) v) to × MoveReplays graph p v q

  by_flow : (x p at to : ℕ) → Reads bs at (label_numbers x) to → Told (Stepped p at) (flow_to m x p to)
  unfolding move_numbers
  by_flow x p at to r =
      told_map (λ q end (l, z). (flow_by x, subst (Reads bs at (label_numbers x)) z r, flow_replays l)) (flow_told x p to)

  by_face : (p at : ℕ) (xs : Region) (to : ℕ) → Reads bs at (2 ∷ key xs) to → Told (Stepped p at) (face_step_to m p xs to)
  unfolding move_numbers labelled_of
  by_face p at xs to r =
      told_map (λ q end (z, g, f). (face_to q, subst (Reads bs at (move_numbers (automaton_of m) (face_to q))) z (rw g r), face_replays f))
      (face_told p xs to)

  by_touch : (p at : ℕ) (xs : Region) (to : ℕ) → Reads bs at (3 ∷ key xs) to → Told (Stepped p at) (touch_step_to m bs p xs to)
  unfolding move_numbers labelled_of
  by_touch p at xs to r =
      told_map (λ q end (g, f, (ls, s, c)). (touch_to q ls, rw g (reads_append r s), touch_replays f c)) (touch_told p xs to)

  step_told : (p at : ℕ) → Told (Stepped p at) (trail_step m bs p at)
  unfolding trail_step
  step_told p at =
      number_ind (Told (Stepped p at)) (read_evidence bs at)
      (λ kind to e.
      let is : (v : ℕ) → kind ≡ v → read_evidence bs at ≡ number.Value v to = λ v z. e ∙ ap (λ v. number.Value v to) z in
      cond_ind (Told (Stepped p at)) (eqb kind 0) (λ t. by_flow 0 p at to (more (is 0 (eqb-true kind 0 t)) none))
      (λ t. cond_ind (Told (Stepped p at)) (eqb kind 1)
      (λ u. number_ind (Told (Stepped p at)) (read_evidence bs to)
      (λ x end d. by_flow (suc x) p at end (more (is 1 (eqb-true kind 1 u)) (more d none)))
      (λ r d. halted (read_refusal bs to r d)))
      (λ u. cond_ind (Told (Stepped p at)) (eqb kind 2)
      (λ w. region_told m.clocks to λ xs end r. by_face p at xs end (more (is 2 (eqb-true kind 2 w)) r))
      (λ w. cond_ind (Told (Stepped p at)) (eqb kind 3)
      (λ y. region_told m.clocks to λ xs end r. by_touch p at xs end (more (is 3 (eqb-true kind 3 y)) r))
      (λ y. halted bad)))))
      (λ r e. halted (read_refusal bs at r e))

  move_below : {p q : ℕ} {v : Move} → MoveReplays graph p v q → q < states m
  unfolding labelled_of system_of
  move_below (flow_replays l) = l.2
  move_below {p} (face_replays {q = q} f) = (beside_state _ p q f).0
  move_below {p} (touch_replays {q = q} f w) = (beside_state _ p q f).0

  pub step_below : (p at q to : ℕ) → trail_step m bs p at ≡ At q to → q < states m
  step_below p at q to e = move_below (told_at (step_told p at) e).2

  is_step : {p q at to : ℕ} {v : Move} → MoveReplays graph p v q → Reads bs at (move_numbers (automaton_of m) v) to → trail_step m bs p at ≡ At q to
  unfolding trail_step move_numbers labelled_of system_of
  is_step {p} {q} (flow_replays {x = zero} l) r =
      let (to, e, s) = reads_first r in
      simp (e, is_flow 0 p l to) (ap (At q) (reads_end s))
  is_step {p} {q} (flow_replays {x = suc x} l) r =
      let (to, e, s) = reads_first r in
      let (end, d, t) = reads_first s in
      simp (e, d, is_flow (suc x) p l end) (ap (At q) (reads_end t))
  is_step {p} {to = end} (face_replays {q = q} f) r =
      let (to, e, s) = reads_first r in
      simp (e, is_region m.clocks to (face_step_to m p) Refused (region_of (automaton_of m) q) end (beside_long _ p q f) s) (is_face p q f end)
  is_step {p} (touch_replays {q = q} f w) r =
      let (to, e, s) = reads_first r in
      let (mid, t, u) = reads_split (key (region_of (automaton_of m) q)) s in
      simp (e, is_region m.clocks to (touch_step_to m bs p) Refused (region_of (automaton_of m) q) mid (beside_long _ p q f) t) (is_touch p q f w u)

  -- ---- all steps

  abbrev Trailed : ℕ → ℕ → ℕ → ℕ → ℕ → Type 0
  Trailed k p at q to = (vs : List Move) × (length vs ≡ k) × Reads bs at (moves_numbers (automaton_of m) vs) to × Replay graph p q vs

  pub steps_told : (k p at : ℕ) → Told (Trailed k p at) (run (trail_step m bs) k p at)
  unfolding moves_numbers
  steps_told =
      run_told (trail_step m bs) Stepped step_told Trailed
      (λ p at. ([], refl, none, done))
      (λ k p at q to s end (v, r, w) (vs, n, t, u). (v ∷ vs, ap suc n, reads_append r t, then w u))

  replay_below : {p q : ℕ} {vs : List Move} → Replay graph p q vs → p < states m → q < states m
  replay_below done h = h
  replay_below (then r w) h = replay_below w (move_below r)

  pub steps_below : Lawful m → (k at q to : ℕ) → run (trail_step m bs) k (system_of_model m).start at ≡ At q to → q < states m
  steps_below ok k at q to e = replay_below (told_at (steps_told k (system_of_model m).start at) e).3 (start_in m ok (system_of_model m).start refl)

  pub is_steps : {p q at to : ℕ} {vs : List Move} → Replay graph p q vs → Reads bs at (moves_numbers (automaton_of m) vs) to
      → run (trail_step m bs) (length vs) p at ≡ At q to
  unfolding run moves_numbers
  is_steps {p = p} done r = ap (At p) (reads_end r)
  is_steps (then {m = v} w u) r =
      let (to, s, t) = reads_split (move_numbers (automaton_of m) v) r in
      simp (is_step w s) (is_steps u t)
