-- Laws of the replay: moves that replay are a walk of the four steps; our moves replay through the states of our trail, and at each step they
-- are the least in kind and edge.
use mathlib.Core.Path.{◌≡◌, refl, sym, ap, ◌∙◌}
use mathlib.Core.Bool.{true, false, true≢false}
use mathlib.Core.Logic.{◌↔◌}
use mathlib.Core.List.{List, [], ◌∷◌}
use Prim.Native.Nat.{ℕ, zero, suc, ◌≤◌, ◌<◌}
use native.Mathlib.Omega.{arith}
use lib.ListN.{length}
use lib.Dec.{ltb}
use borrow.Author.Tests.{ltb-true, ltb-false}
use Rattle.theory.specs.Walk.{Walk, stop, move}
use Rattle.theory.specs.Marked.{StepIn, by_flow, by_face, by_touch, step}
use Rattle.theory.specs.Trail.{Trail, trail_steps, trail_states}
use Rattle.theory.specs.Labels.{LabelledSystem, LabelledLaws, ClosedLabelWalk, label_kind, label_edge, least_label, closed_walk_labels}
use Rattle.theory.specs.Replay.{Move, flow_by, face_to, touch_to, MoveReplays, flow_replays, face_replays, touch_replays, Replay, done, then, Passes, move_kind, move_edge, target, move_replays, replays, replay_end, replay_states, passes, our_move, moves_along, our_moves}
use Rattle.theory.proofs.Below.{cond_ind, test↔, and↔}
use Rattle.theory.proofs.Lex.{Before, less, level, Pairs, nil, pair}
use Rattle.theory.proofs.System.{start_below}
use Rattle.theory.proofs.Marked.{step_is, is_step, step_inside}
use Rattle.theory.proofs.Trail.{trail_passes, trail_length}
use Rattle.theory.proofs.Labels.{label_before, opens↔, closes_law, least_label_min, least_label_leads, closed_label_walk, flow_label, closed_labels_close}

label_kind-le : (x : ℕ) → label_kind x ≤ 1
unfolding label_kind
label_kind-le zero = omega arith
label_kind-le (suc e) = omega arith

flow_before : {a b : ℕ} → Before label_kind label_edge a b → Before move_kind move_edge (flow_by a) (flow_by b)
unfolding move_kind move_edge
flow_before (less h) = less h
flow_before (level c h) = level c h

module _ (P : LabelledSystem) where
  -- ---- the tests

  touch↔ : (q : ℕ) (xs : List ℕ) (p : ℕ) → (move_replays P (touch_to q xs) p ≡ true) ↔ ((P.system.near p q ≡ true) × ClosedLabelWalk P xs q)
  unfolding move_replays
  touch↔ q xs p = and↔ (test↔ (P.system.near p q)) (closes_law P xs q)

  move_is : (m : Move) (p : ℕ) → move_replays P m p ≡ true → MoveReplays P p m (target P m p)
  unfolding move_replays target
  move_is (flow_by x) p e = let (b, d) = (opens↔ P x p).0 e in flow_replays (b, refl, d)
  move_is (face_to q) p e = face_replays e
  move_is (touch_to q xs) p e = let (n, w) = (touch↔ q xs p).0 e in touch_replays n w

  is_move : {p q : ℕ} {m : Move} → MoveReplays P p m q → (move_replays P m p ≡ true) × (target P m p ≡ q)
  unfolding move_replays target
  is_move {p} (flow_replays {x = x} (b, c, d)) = ((opens↔ P x p).1 (b, rw c d), c)
  is_move (face_replays e) = (e, refl)
  is_move {p} (touch_replays {q = q} {xs = xs} n w) = ((touch↔ q xs p).1 (n, w), refl)

  pub replays_is : (ms : List Move) (p : ℕ) → replays P ms p ≡ true → Replay P p (replay_end P ms p) ms
  unfolding replays replay_end
  replays_is [] p e = done
  replays_is (m ∷ ms) p e =
      let (f, g) = (and↔ (test↔ (move_replays P m p)) (test↔ (replays P ms (target P m p)))).0 e in
      then (move_is m p f) (replays_is ms (target P m p) g)

  pub is_replays : {p s : ℕ} {ms : List Move} → Replay P p s ms → (replays P ms p ≡ true) × (replay_end P ms p ≡ s)
  unfolding replays replay_end
  is_replays done = (refl, refl)
  is_replays (then {p = p} {m = m} {ms = ms} r w) =
      let (f, c) = is_move r in
      let (g, d) = is_replays w in
      ((and↔ (test↔ (move_replays P m p)) (test↔ (replays P ms (target P m p)))).1 (f, rw c g), rw c d)

  pub passes_law : (ms : List Move) → (passes P ms ≡ true) ↔ Passes P ms
  unfolding passes
  passes_law ms =
      let t = and↔ (test↔ (replays P ms P.system.start)) (test↔ (P.system.forbidden (replay_end P ms P.system.start))) in (
        λ e. let (f, b) = t.0 e in (replay_end P ms P.system.start, replays_is ms P.system.start f, b),
        λ (s, w, b). let (f, c) = is_replays w in t.1 (f, rw c b),
      )

  pub replay_states-length : (ms : List Move) (p : ℕ) → length (replay_states P ms p) ≡ length ms
  unfolding replay_states
  replay_states-length [] p = refl
  replay_states-length (m ∷ ms) p = ap suc (replay_states-length ms (target P m p))

module _ (P : LabelledSystem) (M : LabelledLaws P) where
  -- ---- moves that replay are a walk of the four steps

  move_step : {p q : ℕ} {m : Move} → p < P.system.size → MoveReplays P p m q → step P.system p q ≡ true
  move_step {p} {q} b r = is_step P.system M.laws p q (by r)
    where
      by : {m : Move} → MoveReplays P p m q → StepIn P.system p q
      by (flow_replays {x = x} (a, c, d)) = by_flow (rw c at (M.next_flow x p a b (rw c d)))
      by (face_replays e) = by_face e
      by (touch_replays {xs = xs} n w) = by_touch n (closed_label_walk P M xs q w)

  replay_walk : {p s : ℕ} {ms : List Move} → p < P.system.size → Replay P p s ms → Walk (step P.system) p s (replay_states P ms p)
  unfolding replay_states
  replay_walk b done = stop
  replay_walk b (then {p = p} {q = q} r w) =
      let t = move_step b r in
      rw (is_move P r).1 (move t (replay_walk (step_inside P.system M.laws p q t).1 w))

  pub passes_trail : (ms : List Move) → Passes P ms → Trail P.system (replay_states P ms P.system.start)
  passes_trail ms (s, w, b) = (s, replay_walk (start_below P.system M.laws) w, b)

  -- ---- our move: a time or jump step if there is one, else a face if there is one, else a touch

  our_move_ind : (p q : ℕ) (R : Move → Type 0)
      → (least_label P p q < P.labels → R (flow_by (least_label P p q)))
      → (P.labels ≤ least_label P p q → P.system.face p q ≡ true → R (face_to q))
      → (P.labels ≤ least_label P p q → P.system.face p q ≡ false → R (touch_to q (closed_walk_labels P q)))
      → R (our_move P p q)
  unfolding our_move
  our_move_ind p q R f g h =
      let x = least_label P p q in
      cond_ind R (ltb x P.labels) (λ t. f (ltb-true x P.labels t))
      (λ t. let b = ltb-false x P.labels t in cond_ind R (P.system.face p q) (g b) (h b))

  our_move_replays : (p q : ℕ) → step P.system p q ≡ true → MoveReplays P p (our_move P p q) q
  our_move_replays p q e =
      our_move_ind p q (λ m. MoveReplays P p m q)
      (λ b. flow_replays (least_label_leads P p q b))
      (λ b f. face_replays f)
      (λ b n. by b n (step_is P.system M.laws p q e))
    where
      by : P.labels ≤ least_label P p q → P.system.face p q ≡ false → StepIn P.system p q → MoveReplays P p (touch_to q (closed_walk_labels P q)) q
      by b n (by_flow f) = absurd (omega (arith, flow_label P M p q f))
      by b n (by_face f) = absurd (true≢false (sym f ∙ n))
      by b n (by_touch f o) = touch_replays f (closed_labels_close P M q o)

  -- no move to the same state has a lesser kind, or the same kind and a lesser edge
  our_move_before : {p q : ℕ} {m : Move} → MoveReplays P p m q → Before move_kind move_edge (our_move P p q) m
  unfolding move_kind move_edge
  our_move_before {p} {q} {m} r =
      our_move_ind p q (λ o. Before move_kind move_edge o m) (λ b. by_label r) (λ b f. by_no_label b r) (λ b n. by_neither b n r)
    where
      by_label : {m : Move} → MoveReplays P p m q → Before move_kind move_edge (flow_by (least_label P p q)) m
      by_label (flow_replays {x = x} t) = flow_before (label_before (least_label P p q) x (least_label_min P x p q t))
      by_label (face_replays e) = less (omega (arith, label_kind-le (least_label P p q)))
      by_label (touch_replays n w) = less (omega (arith, label_kind-le (least_label P p q)))

      by_no_label : {m : Move} → P.labels ≤ least_label P p q → MoveReplays P p m q → Before move_kind move_edge (face_to q) m
      by_no_label b (flow_replays {x = x} t) = absurd (omega (arith, least_label_min P x p q t, t.0))
      by_no_label b (face_replays e) = level refl (omega arith)
      by_no_label b (touch_replays n w) = less (omega arith)

      by_neither : {m : Move} → P.labels ≤ least_label P p q → P.system.face p q ≡ false → MoveReplays P p m q
          → Before move_kind move_edge (touch_to q (closed_walk_labels P q)) m
      by_neither b n (flow_replays {x = x} t) = absurd (omega (arith, least_label_min P x p q t, t.0))
      by_neither b n (face_replays e) = absurd (true≢false (sym e ∙ n))
      by_neither b n (touch_replays f w) = level refl (omega arith)

  -- ---- our moves

  along_replays : {p s : ℕ} {l : List ℕ} → Walk (step P.system) p s l
      → Replay P p s (moves_along P p l) × (replay_states P (moves_along P p l) p ≡ l)
  unfolding moves_along replay_states
  along_replays stop = (done, refl)
  along_replays (move {p = p} {q = q} {l = l} e w) =
      let t = our_move_replays p q e in
      let (r, c) = along_replays w in
      (then t r, ap (λ (x : ℕ). x ∷ replay_states P (moves_along P q l) x) (is_move P t).1 ∙ ap (λ (m : List ℕ). q ∷ m) c)

  along_before : {p s : ℕ} {ms : List Move} → Replay P p s ms → Pairs (Before move_kind move_edge) (moves_along P p (replay_states P ms p)) ms
  unfolding moves_along replay_states
  along_before done = nil
  along_before (then r w) = rw (is_move P r).1 (pair (our_move_before r) (along_before w))

  -- of the moves through the same states
  pub our_moves_before : {s : ℕ} {ms : List Move} → Replay P P.system.start s ms → trail_states P.system ≡ replay_states P ms P.system.start
      → Pairs (Before move_kind move_edge) (our_moves P) ms
  unfolding our_moves
  our_moves_before w c = rw c (along_before w)

  -- where there is a trail, ours passes, through the states of our trail
  module _ (l : List ℕ) (t : Trail P.system l) where
    pub our_moves_pass : Passes P (our_moves P)
    unfolding our_moves
    our_moves_pass = let (s, w, b) = trail_passes P.system M.laws l t in (s, (along_replays w).0, b)

    pub our_moves_states : replay_states P (our_moves P) P.system.start ≡ trail_states P.system
    unfolding our_moves
    our_moves_states = (along_replays (trail_passes P.system M.laws l t).1).1

    pub our_moves-length : length (our_moves P) ≡ trail_steps P.system
    our_moves-length = sym (replay_states-length P (our_moves P) P.system.start) ∙ ap length our_moves_states ∙ trail_length P.system M.laws
