-- The moves of a trail, spelled part by part.
use mathlib.Core.Path.{◌≡◌, refl, sym, ap, ap₂, subst, ◌∙◌}
use mathlib.Core.Bool.{Bool, true, false}
use mathlib.Core.List.{List, [], ◌∷◌, ◌++◌, append_assoc, append-nil}
use Prim.Native.Nat.{ℕ, zero, suc, ◌+◌, ◌*◌, ◌%◌, ◌≤◌, ◌<◌}
use native.Mathlib.Nat.{mod-lt}
use native.Mathlib.Omega.{arith}
use lib.ListN.{length, length-append, get_or, take, drop, drop_of_length-le, length-map}
use lib.Seq.{drop-cons}
use lib.Dec.{eqb, ltb}
use borrow.Author.Tests.{lt-ltb, le-ltb}
use Rattle.graph.proofs.Plan.{labels_are, start_at, size-states}
use Rattle.limits.specs.Limits.{max_clocks, max_states}
use Rattle.theory.specs.Adjacency.{Holds}
use Rattle.theory.specs.Walk.{Walk, stop, move, Inside, exact, dist⁺}
use Rattle.theory.specs.Region.{Clock, wholes, face}
use Rattle.theory.specs.Enumeration.{ranks, key}
use Rattle.theory.specs.StateGraph.{region_count, region_of, beside, system_of, labelled_of}
use Rattle.theory.specs.System.{System, Laws, OnClosedWalkIn, on_closed_walk}
use Rattle.theory.specs.Marked.{step, unsafe}
use Rattle.theory.specs.Trail.{Trail, trail_states}
use Rattle.theory.specs.ClosedWalk.{closed_walk, closed_walk_steps}
use Rattle.theory.specs.Labels.{LabelledSystem, least_label, labels_along, closed_walk_labels}
use Rattle.theory.specs.Replay.{Move, flow_by, face_to, touch_to, our_move, moves_along, our_moves}
use Rattle.theory.specs.WithoutTouch.{with_touch, labelled_with_touch}
use Rattle.theory.proofs.Below.{cond_ind, least-le, and_right, false_unless_true}
use Rattle.theory.proofs.Enumeration.{lawful-length, region_at_lem}
use Rattle.theory.proofs.Marked.{step_inside, unsafe_is}
use Rattle.theory.proofs.System.{flow_inside, closed_walk_is}
use Rattle.theory.proofs.StateGraph.{count_positive}
use Rattle.theory.proofs.ClosedWalk.{closed_walk_below, closed_walk_walk, closed_walk-length}
use Rattle.theory.proofs.Trail.{unsafe_trail, trail_passes, trail_length, trail_steps_below}
use Rattle.theory.proofs.WithoutTouch.{touch_laws, touch_walk, touch_moves}
use Rattle.theory.proofs.Labels.{flow_label, closed_labels_length}
use Rattle.number.specs.Number.{spell, spell_all}
use Rattle.number.proofs.Spelling.{spell_append, spell_all_few}
use Rattle.model.specs.declared.Model.{Model}
use Rattle.model.specs.Model.{Lawful}
use Rattle.graph.specs.Plan.{automaton_of, system_of_model, labelled_of_model}
use Rattle.graph.specs.States.{states}
use Rattle.graph.proofs.Models.{system_laws, labelled_laws}
use Rattle.successors.proofs.Room.{states_limit}
use Rattle.spelling.specs.Lays.{Lays, max_move_numbers, max_bytes}
use Rattle.spelling.proofs.Lays.{lays_none, lays_then, lays_as}
use Rattle.replay.specs.Spelling.{label_numbers, walk_numbers, move_numbers, moves_numbers, trail_numbers}
use Rattle.closed_walk.specs.Closes.{Closes}
use Rattle.closed_walk.proofs.Closing.{closed_walk_steps_lem, closed_walk_nodes}
use Rattle.trail_writer.specs.Lent.{WalkRoom, LeadsThrough}
use Rattle.trail_writer.specs.Path.{path_numbers}

-- ---- room for a part of what there is room for

pub room_first : (bs cs : List ℕ) (at n : ℕ) → at + length (bs ++ cs) ≤ n → at + length bs ≤ n
room_first bs cs at n h = omega (arith, length-append bs cs)

pub room_rest : (bs cs : List ℕ) (at r n : ℕ) → r ≡ at + length bs → at + length (bs ++ cs) ≤ n → r + length cs ≤ n
room_rest bs cs at r n e h = omega (arith, length-append bs cs)

pub parts_room : (b₁ b₂ b₃ b₄ : List ℕ) (at n : ℕ) → at + length (b₁ ++ (b₂ ++ (b₃ ++ b₄))) ≤ n
    → at + length b₁ + length b₂ + length b₃ + length b₄ ≤ n
parts_room b₁ b₂ b₃ b₄ at n h = omega (arith, length-append b₁ (b₂ ++ (b₃ ++ b₄)), length-append b₂ (b₃ ++ b₄), length-append b₃ b₄)

-- ---- walks

module _ (S : ℕ) (r : ℕ → ℕ → Bool) (inside : Inside S r) where
  pub walk_below : {p s : ℕ} {l : List ℕ} → Walk r p s l → (i : ℕ) → i < length l → get_or l i 0 < S
  walk_below stop i h = absurd (omega arith)
  walk_below (move {p = p} {q = q} e w) zero h = (inside p q e).1
  walk_below (move e w) (suc i) h = walk_below w i (omega arith)

module _ (m : Model) (ok : Lawful m) where
  abbrev Y : System
  Y = system_of_model m

  abbrev P : LabelledSystem
  P = labelled_of_model m

  pub size_few : states m ≤ max_states
  size_few = states_limit ok

  -- ---- a touch

  module _ (q : ℕ) (o : on_closed_walk Y q ≡ true) where
    on : OnClosedWalkIn Y q
    on = closed_walk_is Y (system_laws m ok) q o

    pub closed_few : closed_walk_steps Y q ≤ states m
    closed_few = omega (arith, closed_walk_below Y (system_laws m ok) q on, size-states m)

    pub closed_below : (i : ℕ) → i < closed_walk_steps Y q → get_or (closed_walk Y q) i 0 < states m
    closed_below i h =
        let w = closed_walk_walk Y (system_laws m ok) q on in
        let b = walk_below Y.size Y.flow (flow_inside Y (system_laws m ok)) w i (omega (arith, closed_walk-length Y (system_laws m ok) q)) in
        omega (arith, size-states m)

    pub labels_count : length (closed_walk_labels P q) ≡ closed_walk_steps Y q
    unfolding labelled_of
    labels_count = closed_labels_length P (labelled_laws m ok) q

    pub touch_bytes : spell_all (move_numbers (automaton_of m) (touch_to q (closed_walk_labels P q)))
        ≡ spell 3 ++ (spell_all (key (region_of (automaton_of m) q)) ++ (spell (closed_walk_steps Y q) ++ spell_all (walk_numbers (labels_along P q (closed_walk Y q)))))
    unfolding move_numbers closed_walk_labels labelled_of spell_all
    touch_bytes =
        ap (λ (l : List ℕ). spell 3 ++ l)
        (spell_append (key (region_of (automaton_of m) q)) (length (closed_walk_labels P q) ∷ walk_numbers (closed_walk_labels P q))
        ∙ ap (λ (k : ℕ). spell_all (key (region_of (automaton_of m) q)) ++ (spell k ++ spell_all (walk_numbers (closed_walk_labels P q)))) labels_count)

    module _ {table first targets path : List ℕ} {level queue walk count : ℕ} (R : WalkRoom m table first targets level queue walk)
        (C : (r : ℕ → ℕ → Bool) → Holds first targets level r → Closes level r q count path) where
      pub count_is : count ≡ closed_walk_steps Y q
      unfolding system_of
      count_is = closed_walk_steps_lem Y (system_laws m ok) q C R.level_long R.flow.holds o

      pub nodes_are : take count path ≡ closed_walk Y q
      unfolding system_of
      nodes_are = closed_walk_nodes Y (system_laws m ok) q C R.level_long R.flow.holds o

      pub count_few : count ≤ states m
      count_few = omega (arith, count_is, closed_few)

      pub nodes_below : (i : ℕ) → i < length (take count path) → get_or (take count path) i 0 < states m
      nodes_below = rw nodes_are (λ i h. closed_below i (omega (arith, closed_walk-length Y (system_laws m ok) q)))

      pub touch_as : spell 3 ++ (spell_all (key (region_of (automaton_of m) q)) ++ (spell count ++ spell_all (walk_numbers (labels_along P q (take count path)))))
          ≡ spell_all (move_numbers (automaton_of m) (touch_to q (closed_walk_labels P q)))
      touch_as = rw (nodes_are, count_is) (sym touch_bytes)

      pub touch_room : (at n : ℕ) → at + length (spell_all (move_numbers (automaton_of m) (touch_to q (closed_walk_labels P q)))) ≤ n
          → at + length (spell 3) + length (spell_all (key (region_of (automaton_of m) q))) + length (spell count)
          + length (spell_all (walk_numbers (labels_along P q (take count path)))) ≤ n
      touch_room at n h =
          parts_room (spell 3) (spell_all (key (region_of (automaton_of m) q))) (spell count) (spell_all (walk_numbers (labels_along P q (take count path)))) at n
          (rw touch_as h)

  -- ---- a move, by its kind

  module _ (p q : ℕ) where
    pub flow_is : (x : ℕ) → x ≡ least_label P p q → x ≤ m.edges → our_move P p q ≡ flow_by x
    unfolding our_move
    flow_is x e h = rw (e, lt-ltb (least_label P p q) P.labels (omega (arith, labels_are m))) refl

    pub face_is : beside (automaton_of m) m.locations face p q ≡ Y.face p q
    unfolding system_of
    face_is = refl

    module _ (h : m.edges < least_label P p q) where
      none_leads : ltb (least_label P p q) P.labels ≡ false
      none_leads = le-ltb (least_label P p q) P.labels (omega (arith, labels_are m))

      pub face_to_is : Y.face p q ≡ true → our_move P p q ≡ face_to q
      unfolding our_move labelled_of
      face_to_is f = rw (none_leads, f) refl

      pub touch_is : Y.face p q ≡ false → our_move P p q ≡ touch_to q (closed_walk_labels P q)
      unfolding our_move labelled_of
      touch_is f = rw (none_leads, f) refl

      -- a step that is neither is a touch
      pub touched : step Y p q ≡ true → Y.face p q ≡ false → on_closed_walk Y q ≡ true
      unfolding step labelled_of
      touched t f =
          let n : Y.flow p q ≡ false = false_unless_true (Y.flow p q) (λ e. absurd (omega (arith, flow_label P (labelled_laws m ok) p q e, labels_are m))) in
          and_right (Y.near p q) (on_closed_walk Y q) (rw (n, f) at t)

  -- ---- its bytes

  pub flow_bytes : (x : ℕ) → spell_all (label_numbers x) ≡ spell_all (move_numbers (automaton_of m) (flow_by x))
  unfolding move_numbers
  flow_bytes x = refl

  pub face_bytes : (q : ℕ) → spell 2 ++ spell_all (key (region_of (automaton_of m) q)) ≡ spell_all (move_numbers (automaton_of m) (face_to q))
  unfolding move_numbers spell_all
  face_bytes q = refl

  -- ---- moves one after the other

  pub leads_next : {p q : ℕ} {l : List ℕ} → LeadsThrough m p (q ∷ l) → (step Y p q ≡ true) × LeadsThrough m q l
  leads_next {p} {q} {l} w = by w.end w.walk
    where
      by : (s : ℕ) → Walk (step Y) p s (q ∷ l) → (step Y p q ≡ true) × LeadsThrough m q l
      by s (move e v) = (e, record { below = omega (arith, (step_inside Y (system_laws m ok) p q e).1, size-states m); end = s; walk = v })

  abbrev bytes_from : ℕ → List ℕ → List ℕ
  bytes_from p l = spell_all (moves_numbers (automaton_of m) (moves_along P p l))

  pub bytes_next : (p q : ℕ) (l : List ℕ) → bytes_from p (q ∷ l) ≡ spell_all (move_numbers (automaton_of m) (our_move P p q)) ++ bytes_from q l
  unfolding moves_along moves_numbers
  bytes_next p q l = spell_append (move_numbers (automaton_of m) (our_move P p q)) (moves_numbers (automaton_of m) (moves_along P q l))

  -- how far it is: i of the path's states are passed, p is the last of them, and what is laid goes with what is left
  pub record Going (start : ℕ) (path : List ℕ) (out₀ : List ℕ) (at₀ : ℕ) (out : List ℕ) (at p i : ℕ) : Type 0 where
    pub laid : List ℕ
    pub lays : Lays out₀ out at₀ at laid
    pub whole : laid ++ bytes_from p (drop i path) ≡ bytes_from start path
    pub leads : LeadsThrough m p (drop i path)
    pub most : i ≤ length path

  module _ {start at₀ : ℕ} {path out₀ : List ℕ} where
    pub going_first : LeadsThrough m start path → Going start path out₀ at₀ out₀ at₀ start 0
    going_first w = record { laid = []; lays = lays_none out₀ at₀; whole = refl; leads = w; most = omega arith }

    module _ {out : List ℕ} {at p i : ℕ} (G : Going start path out₀ at₀ out at p i) where
      pub going_below : p < states m
      going_below = G.leads.below

      module _ (h : i < length path) where
        split : drop i path ≡ get_or path i 0 ∷ drop (suc i) path
        split = drop-cons path i 0 h

        next : (step Y p (get_or path i 0) ≡ true) × LeadsThrough m (get_or path i 0) (drop (suc i) path)
        next = leads_next (subst (LeadsThrough m p) split G.leads)

        pub going_step : step Y p (get_or path i 0) ≡ true
        going_step = next.0

        pub going_to : get_or path i 0 < states m
        going_to = next.1.below

        abbrev move_bytes : List ℕ
        move_bytes = spell_all (move_numbers (automaton_of m) (our_move P p (get_or path i 0)))

        whole_next : (G.laid ++ move_bytes) ++ bytes_from (get_or path i 0) (drop (suc i) path) ≡ bytes_from start path
        whole_next =
            append_assoc G.laid move_bytes (bytes_from (get_or path i 0) (drop (suc i) path))
            ∙ (ap (λ (l : List ℕ). G.laid ++ l) (sym (bytes_next p (get_or path i 0) (drop (suc i) path)) ∙ ap (bytes_from p) (sym split)) ∙ G.whole)

        pub going_room : (n : ℕ) → at₀ + length (bytes_from start path) ≤ n → at + length move_bytes ≤ n
        going_room n b =
            omega (
              arith,
              G.lays.end,
              ap length whole_next,
              length-append (G.laid ++ move_bytes) (bytes_from (get_or path i 0) (drop (suc i) path)),
              length-append G.laid move_bytes,
            )

        pub going_next : {out' : List ℕ} {r : ℕ} → Lays out out' at r move_bytes → Going start path out₀ at₀ out' r (get_or path i 0) (i + 1)
        going_next L =
            let z : suc i ≡ i + 1 = omega arith in
            record {
              laid = G.laid ++ move_bytes;
              lays = lays_then G.lays L;
              whole = ap (λ (k : ℕ). (G.laid ++ move_bytes) ++ bytes_from (get_or path i 0) (drop k path)) (sym z) ∙ whole_next;
              leads = subst (λ (k : ℕ). LeadsThrough m (get_or path i 0) (drop k path)) z next.1;
              most = omega arith;
            }

      pub going_done : length path ≤ i → Lays out₀ out at₀ at (bytes_from start path)
      unfolding moves_along moves_numbers spell_all
      going_done h =
          lays_as G.lays
          (sym (append-nil G.laid) ∙ (ap (λ (l : List ℕ). G.laid ++ bytes_from p l) (sym (drop_of_length-le path h)) ∙ G.whole))

  -- ---- the trail

  trail_start : Y.start < max_states
  trail_start = omega (arith, (system_laws m ok).allowed_below Y.start (system_laws m ok).start_allowed, size-states m, size_few)

  along_length : (l : List ℕ) (p : ℕ) → length (moves_along P p l) ≡ length l
  unfolding moves_along
  along_length [] p = refl
  along_length (q ∷ l) p = ap suc (along_length l q)

  pub trail_bytes : (path : List ℕ) → spell_all (path_numbers m path) ≡ spell 2 ++ (spell (length path) ++ bytes_from Y.start path)
  unfolding path_numbers trail_numbers spell_all
  trail_bytes path = ap (λ (k : ℕ). spell 2 ++ (spell k ++ bytes_from Y.start path)) (along_length path Y.start)

  -- ---- it is far from as long as an offset can be

  label_few : (x : ℕ) → length (label_numbers x) ≤ 2
  label_few zero = omega arith
  label_few (suc e) = omega arith

  walk_numbers_few : (xs : List ℕ) → length (walk_numbers xs) ≤ 2 * length xs
  unfolding walk_numbers
  walk_numbers_few [] = omega arith
  walk_numbers_few (x ∷ xs) = omega (arith, length-append (label_numbers x) (walk_numbers xs), label_few x, walk_numbers_few xs)

  key_few : (q : ℕ) → length (key (region_of (automaton_of m) q)) ≤ 2 * max_clocks
  unfolding region_of region_count automaton_of system_of
  key_few q =
      let start = (system_laws m ok).allowed_below Y.start (system_laws m ok).start_allowed in
      let some = count_positive (automaton_of m) m.locations Y.start start in
      let g = region_of (automaton_of m) q in
      let n = lawful-length m.clocks m.ceiling g (region_at_lem m.clocks m.ceiling (q % region_count (automaton_of m)) (mod-lt q some)) in
      omega (arith, length-append (wholes g) (ranks g), length-map g (λ (x : Clock). x.whole), length-map g (λ (x : Clock). x.rank), n, ok.clocks.1)

  steps_few : (q : ℕ) → closed_walk_steps P.system q ≤ suc (states m)
  unfolding closed_walk_steps dist⁺ labelled_of
  steps_few q = omega (arith, least-le Y.size (λ k. exact Y.size Y.flow (λ x. eqb x q) (suc k) q), size-states m)

  move_few : (p q : ℕ) → length (move_numbers (automaton_of m) (our_move P p q)) ≤ max_move_numbers
  unfolding our_move move_numbers
  move_few p q =
      cond_ind (λ (v : Move). length (move_numbers (automaton_of m) v) ≤ max_move_numbers) (ltb (least_label P p q) P.labels)
      (λ _. omega (arith, label_few (least_label P p q)))
      (λ _. cond_ind (λ (v : Move). length (move_numbers (automaton_of m) v) ≤ max_move_numbers) (P.system.face p q)
      (λ _. omega (arith, key_few q)) (λ _. touch))
    where
      touch : length (3 ∷ (key (region_of (automaton_of m) q) ++ (length (closed_walk_labels P q) ∷ walk_numbers (closed_walk_labels P q)))) ≤ max_move_numbers
      touch =
          omega (
            arith,
            length-append (key (region_of (automaton_of m) q)) (length (closed_walk_labels P q) ∷ walk_numbers (closed_walk_labels P q)),
            key_few q,
            walk_numbers_few (closed_walk_labels P q),
            closed_labels_length P (labelled_laws m ok) q,
            steps_few q,
            size_few,
          )

  moves_few : (l : List ℕ) (p : ℕ) → length (moves_numbers (automaton_of m) (moves_along P p l)) ≤ max_move_numbers * length l
  unfolding moves_along moves_numbers
  moves_few [] p = omega arith
  moves_few (q ∷ l) p =
      omega (arith, length-append (move_numbers (automaton_of m) (our_move P p q)) (moves_numbers (automaton_of m) (moves_along P q l)), move_few p q, moves_few l q)

  module _ (path : List ℕ) (few : length path ≤ states m) where
    pub trail_most : length (spell_all (path_numbers m path)) ≤ max_bytes
    unfolding path_numbers trail_numbers
    trail_most = omega (arith, spell_all_few (path_numbers m path), moves_few path Y.start, size_few)

    pub trail_room : 0 + length (spell 2) + length (spell (length path)) + length (bytes_from Y.start path) ≤ max_bytes
    trail_room =
        omega (
          arith,
          trail_most,
          ap length (trail_bytes path),
          length-append (spell 2) (spell (length path) ++ bytes_from Y.start path),
          length-append (spell (length path)) (bytes_from Y.start path),
        )

  -- ---- where it starts

  module _ (s n : ℕ) (f : s ≡ m.start) (e : n ≡ region_count (automaton_of m)) where
    pub start_is : s * n ≡ Y.start
    unfolding automaton_of region_count
    start_is = ap₂ ◌*◌ f e ∙ sym (start_at m)

    pub start_fits : s * n < max_states
    start_fits = omega (arith, start_is, trail_start)

  pub trail_as : (start : ℕ) (path : List ℕ) → start ≡ Y.start
      → spell 2 ++ (spell (length path) ++ bytes_from start path) ≡ spell_all (path_numbers m path)
  trail_as start path e = rw e (sym (trail_bytes path))

  -- ---- our trail, with touch steps or without

  module _ (touch : Bool) where
    abbrev Z : System
    Z = with_touch touch Y

    pub touch_path : path_numbers m (trail_states Z) ≡ 2 ∷ trail_numbers (automaton_of m) (our_moves (labelled_with_touch touch P))
    unfolding path_numbers our_moves labelled_with_touch with_touch labelled_of
    touch_path = ap (λ (vs : List Move). 2 ∷ trail_numbers (automaton_of m) vs) (sym (touch_moves touch P (trail_states Z) Y.start))

    module _ (u : unsafe Z ≡ true) where
      laws : Laws Z
      laws = touch_laws touch Y (system_laws m ok)

      some_trail : (l : List ℕ) × Trail Z l
      some_trail = unsafe_trail Z laws (unsafe_is Z laws u)

      pub touch_few : length (trail_states Z) < states m
      unfolding with_touch
      touch_few = omega (arith, trail_length Z laws, trail_steps_below Z laws some_trail.0 some_trail.1, size-states m)

      pub touch_leads : LeadsThrough m Y.start (trail_states Z)
      unfolding with_touch
      touch_leads =
          let t = trail_passes Z laws some_trail.0 some_trail.1 in
          record {
            below = omega (arith, (system_laws m ok).allowed_below Y.start (system_laws m ok).start_allowed, size-states m);
            end = t.0;
            walk = touch_walk touch Y (system_laws m ok) t.1;
          }

  -- with them
  module _ (u : unsafe Y ≡ true) where
    pub trail_few : length (trail_states Y) < states m
    unfolding with_touch
    trail_few = touch_few true u

    pub trail_leads : LeadsThrough m Y.start (trail_states Y)
    unfolding with_touch
    trail_leads = touch_leads true u

-- ---- on the way through the path

pub record Moving (m : Model) (table first targets : List ℕ) (level queue walk start : ℕ) (path out₀ : List ℕ) (at₀ : ℕ) (out : List ℕ) (at p i : ℕ) : Type 0 where
  pub ready : WalkRoom m table first targets level queue walk
  pub going : Going m ready.lawful start path out₀ at₀ out at p i
  pub room : at₀ + length (spell_all (moves_numbers (automaton_of m) (moves_along (labelled_of_model m) start path))) ≤ max_bytes

module _ {m : Model} {table first targets path out₀ out : List ℕ} {level queue walk start at₀ at p i : ℕ}
    (M : Moving m table first targets level queue walk start path out₀ at₀ out at p i) where
  pub moving_step : (q : ℕ) → i < length path → q ≡ get_or path i 0
      → (p < states m) × (q < states m) × (step (system_of_model m) p q ≡ true)
      × (at + length (spell_all (move_numbers (automaton_of m) (our_move (labelled_of_model m) p q))) ≤ max_bytes)
  moving_step q h e =
      let ok = M.ready.lawful in
      let G = M.going in
      rw e (going_below m ok G, going_to m ok G h, going_step m ok G h, going_room m ok G h max_bytes M.room)

  pub moving_next : (q : ℕ) {out' : List ℕ} {r : ℕ} → i < length path → q ≡ get_or path i 0
      → Lays out out' at r (spell_all (move_numbers (automaton_of m) (our_move (labelled_of_model m) p q)))
      → Moving m table first targets level queue walk start path out₀ at₀ out' r q (i + 1)
  moving_next q h e L =
      record { ready = M.ready; going = rw e (going_next m M.ready.lawful M.going h (rw e at L)); room = M.room }
