-- A system without touch steps: its steps, marks and trails are among those of the system with them, its heights are the same.
use Prim.Native.Nat.{ℕ, ◌<◌}
use mathlib.Core.Path.{◌≡◌, refl}
use mathlib.Core.Bool.{Bool, true, false, false≢true}
use mathlib.Core.Logic.{◌↔◌}
use mathlib.Core.List.{List, [], ◌∷◌}
use Rattle.theory.specs.Walk.{Walk, Lex}
use Rattle.theory.specs.Lists.{every}
use Rattle.theory.specs.System.{System, Laws}
use Rattle.theory.specs.Marked.{StepIn, by_flow, by_face, by_touch, MarkedIn, begin, onward, step, Unsafe}
use Rattle.theory.specs.Height.{height}
use Rattle.theory.specs.ClosedWalk.{closed_walk, closed_walk_steps}
use Rattle.theory.specs.Labels.{LabelledSystem, LabelledLaws, labels_along, least_label, leads, opens, closed_walk_labels}
use Rattle.theory.specs.Replay.{Move, flow_by, face_to, touch_to, MoveReplays, Replay, Passes, passes, replay_states, target, trail_key, our_move, moves_along, our_moves}
use Rattle.theory.specs.WithoutTouch.{with_touch, without_touch, labelled_with_touch, labelled_without_touch, no_touch}
use Rattle.theory.proofs.Below.{and_right}
use Rattle.theory.proofs.Walk.{walk_map}
use Rattle.theory.proofs.Marked.{step_is, is_step}
use Rattle.theory.proofs.Height.{height_law, height_unique}
use Rattle.theory.proofs.SameFlow.{height_as}
use Rattle.theory.proofs.Replay.{passes_law}
use Rattle.theory.proofs.Least.{our_trail_least}
use Rattle.theory.proofs.Verdict.{trail_complete}

-- with touch it is the system itself
pub with_touch_lem : (Y : System) → with_touch true Y ≡ Y
unfolding with_touch
with_touch_lem Y = refl

pub labelled_with_touch_lem : (P : LabelledSystem) → labelled_with_touch true P ≡ P
unfolding labelled_with_touch with_touch
labelled_with_touch_lem P = refl

module _ (touch : Bool) (Y : System) (L : Laws Y) where
  pub touch_laws : Laws (with_touch touch Y)
  unfolding with_touch
  touch_laws =
      record {
        start_allowed = L.start_allowed;
        allowed_below = L.allowed_below;
        flow_joins = L.flow_joins;
        face_joins = L.face_joins;
        near_joins = λ p q e. L.near_joins p q (and_right touch (Y.near p q) e);
      }

  -- each of its steps is a step
  pub touch_step : {p q : ℕ} → StepIn (with_touch touch Y) p q → StepIn Y p q
  unfolding with_touch
  touch_step (by_flow e) = by_flow e
  touch_step (by_face e) = by_face e
  touch_step {p} {q} (by_touch e w) = by_touch (and_right touch (Y.near p q) e) w

  pub touch_walk : {p s : ℕ} {l : List ℕ} → Walk (step (with_touch touch Y)) p s l → Walk (step Y) p s l
  touch_walk = walk_map (λ p q e. is_step Y L p q (touch_step (step_is (with_touch touch Y) touch_laws p q e)))

  pub touch_marked : {p : ℕ} → MarkedIn (with_touch touch Y) p → MarkedIn Y p
  unfolding with_touch
  touch_marked begin = begin
  touch_marked (onward c t) = onward (touch_marked c) (touch_step t)

  -- heights are those of time and jump steps, so touch plays no part in them
  pub touch_height : (p : ℕ) → p < Y.size → height (with_touch touch Y) p ≡ height Y p
  unfolding with_touch
  touch_height p b =
      height_unique
      (height_as (with_touch touch Y) Y (λ p q e. e) (λ p q e. e) (height_law (with_touch touch Y) touch_laws p b))
      (height_law Y L p b)

-- ---- trails

module _ (touch : Bool) (P : LabelledSystem) where
  -- the move of the least kind from one state to another is the same, touch or not
  touch_label : (p q : ℕ) → least_label (labelled_with_touch touch P) p q ≡ least_label P p q
  unfolding labelled_with_touch with_touch least_label leads opens
  touch_label p q = refl

  touch_labels : (l : List ℕ) (p : ℕ) → labels_along (labelled_with_touch touch P) p l ≡ labels_along P p l
  unfolding labels_along
  touch_labels [] p = refl
  touch_labels (q ∷ l) p = rw (touch_label p q, touch_labels l q)

  touch_walk_states : (q : ℕ) → closed_walk (labelled_with_touch touch P).system q ≡ closed_walk P.system q
  unfolding labelled_with_touch with_touch closed_walk closed_walk_steps
  touch_walk_states q = refl

  touch_closed_walk : (q : ℕ) → closed_walk_labels (labelled_with_touch touch P) q ≡ closed_walk_labels P q
  unfolding closed_walk_labels
  touch_closed_walk q = rw (touch_walk_states q, touch_labels (closed_walk P.system q) q)

  touch_face : (p q : ℕ) → (labelled_with_touch touch P).system.face p q ≡ P.system.face p q
  unfolding labelled_with_touch with_touch
  touch_face p q = refl

  touch_count : (labelled_with_touch touch P).labels ≡ P.labels
  unfolding labelled_with_touch
  touch_count = refl

  touch_move : (p q : ℕ) → our_move (labelled_with_touch touch P) p q ≡ our_move P p q
  unfolding our_move
  touch_move p q = rw (touch_label p q, touch_closed_walk q, touch_face p q, touch_count)

  pub touch_moves : (l : List ℕ) (p : ℕ) → moves_along (labelled_with_touch touch P) p l ≡ moves_along P p l
  unfolding moves_along
  touch_moves [] p = refl
  touch_moves (q ∷ l) p = rw (touch_move p q, touch_moves l q)

  module _ (M : LabelledLaws P) where
    pub touch_labelled : LabelledLaws (labelled_with_touch touch P)
    unfolding labelled_with_touch with_touch
    touch_labelled = record { laws = touch_laws touch P.system M.laws; flow_next = M.flow_next; next_flow = M.next_flow }

module _ (P : LabelledSystem) where
  without_replay : {p s : ℕ} {ms : List Move} → Replay (labelled_without_touch P) p s ms → (every no_touch ms ≡ true) × Replay P p s ms
  unfolding labelled_with_touch with_touch no_touch
  without_replay Replay.done = (refl, Replay.done)
  without_replay (Replay.then (MoveReplays.flow_replays h) r) = let (a, b) = without_replay r in (a, Replay.then (MoveReplays.flow_replays h) b)
  without_replay (Replay.then (MoveReplays.face_replays h) r) = let (a, b) = without_replay r in (a, Replay.then (MoveReplays.face_replays h) b)
  without_replay (Replay.then (MoveReplays.touch_replays h c) r) = absurd (false≢true h)

  replay_without : {p s : ℕ} {ms : List Move} → every no_touch ms ≡ true → Replay P p s ms → Replay (labelled_without_touch P) p s ms
  unfolding labelled_with_touch with_touch no_touch
  replay_without t Replay.done = Replay.done
  replay_without t (Replay.then (MoveReplays.flow_replays h) r) = Replay.then (MoveReplays.flow_replays h) (replay_without t r)
  replay_without t (Replay.then (MoveReplays.face_replays h) r) = Replay.then (MoveReplays.face_replays h) (replay_without t r)
  replay_without t (Replay.then (MoveReplays.touch_replays h c) r) = absurd (false≢true t)

  -- a trail passes without touch exactly where it passes and has none
  pub without_passes : (ms : List Move) → Passes (labelled_without_touch P) ms ↔ ((every no_touch ms ≡ true) × Passes P ms)
  unfolding labelled_with_touch with_touch
  without_passes ms = (
    λ (s, r, f). let (a, b) = without_replay r in (a, (s, b, f)),
    λ (a, (s, r, f)). (s, replay_without a r, f),
  )

  module _ (M : LabelledLaws P) where
    -- keys speak of labels and states, not of touch
    same_states : (ms : List Move) (p : ℕ) → replay_states (labelled_without_touch P) ms p ≡ replay_states P ms p
    unfolding replay_states target labelled_with_touch
    same_states [] p = refl
    same_states (flow_by x ∷ ms) p = rw (same_states ms (P.next x p))
    same_states (face_to q ∷ ms) p = rw (same_states ms q)
    same_states (touch_to q xs ∷ ms) p = rw (same_states ms q)

    same_key : (ms : List Move) → trail_key (labelled_without_touch P) ms ≡ trail_key P ms
    unfolding trail_key labelled_with_touch with_touch
    same_key ms = rw (same_states ms P.system.start)

    -- 02: "a trail here has no touch and is the fewest-step one without it, ties as in 01"
    pub without_least : (ms : List Move) → every no_touch ms ≡ true → passes P ms ≡ true
        → Lex (trail_key P (our_moves (labelled_without_touch P))) (trail_key P ms)
    without_least ms t e =
        rw (same_key (our_moves (labelled_without_touch P)), same_key ms) at
        (our_trail_least (labelled_without_touch P) (touch_labelled false P M) ms
        ((passes_law (labelled_without_touch P) ms).1 ((without_passes ms).1 (t, (passes_law P ms).0 e))))

    -- ours passes, and has none, where the system without touch is unsafe
    pub without_ours : Unsafe (without_touch P.system)
        → (every no_touch (our_moves (labelled_without_touch P)) ≡ true) × (passes P (our_moves (labelled_without_touch P)) ≡ true)
    unfolding labelled_with_touch
    without_ours u =
        let ours = our_moves (labelled_without_touch P) in
        let (a, b) = (without_passes ours).0
        ((passes_law (labelled_without_touch P) ours).0 (trail_complete (labelled_without_touch P) (touch_labelled false P M) u)) in
        (a, (passes_law P ours).1 b)
