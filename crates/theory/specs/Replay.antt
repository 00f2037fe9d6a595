-- Trails by their moves, as the evidence spells them: the replay, and our moves.
use Rattle.std.specs.Prelude.{◌≡◌, Bool, true, cond, ◌&&◌, List, [], ◌∷◌, ◌++◌, map, ℕ, length, ltb}
use Rattle.theory.specs.Trail.{trail_states}
use Rattle.theory.specs.Labels.{LabelledSystem, Leads, ClosedLabelWalk, label_kind, label_edge, opens, closes, least_label, closed_walk_labels}

-- ---- what is meant

-- 01: "0 time; 1 jump, edge number; 2 face, w1..wn, r1..rn; 3 touch, the region likewise, a count of at least 1, then a closed walk from
-- that region". A time or jump step by its label, a face by its state, a touch by its state and the labels of its walk.
pub data Move : Type 0 where
  flow_by : ℕ → Move
  face_to : ℕ → Move
  touch_to : ℕ → List ℕ → Move

-- 01: "A trail step replays when it is a step of its kind ... from the state reached so far to an allowed state; a touch also needs its
-- walk's time and jump steps to lead from the touched state back to it."
pub data MoveReplays (P : LabelledSystem) (p : ℕ) : Move → ℕ → Type 0 where
  flow_replays : {x q : ℕ} → Leads P x p q → MoveReplays P p (flow_by x) q
  face_replays : {q : ℕ} → P.system.face p q ≡ true → MoveReplays P p (face_to q) q
  touch_replays : {q : ℕ} {xs : List ℕ} → P.system.near p q ≡ true → ClosedLabelWalk P xs q → MoveReplays P p (touch_to q xs) q

-- moves that all replay, from one state to another
pub data Replay (P : LabelledSystem) : ℕ → ℕ → List Move → Type 0 where
  done : {p : ℕ} → Replay P p p []
  then : {p q s : ℕ} {m : Move} {ms : List Move} → MoveReplays P p m q → Replay P q s ms → Replay P p s (m ∷ ms)

-- 01: "a trail whose steps all replay and which ends in a forbidden location"
abbrev pub Passes : LabelledSystem → List Move → Type 0
Passes P ms = (s : ℕ) × Replay P P.system.start s ms × (P.system.forbidden s ≡ true)

-- kinds: 0 time, 1 jump, 2 face, 3 touch
unfoldable pub move_kind : Move → ℕ
move_kind (flow_by x) = label_kind x
move_kind (face_to q) = 2
move_kind (touch_to q xs) = 3

-- the edge of a jump; a step of another kind has none, and where the kinds are the same, 0 in its place decides nothing
unfoldable pub move_edge : Move → ℕ
move_edge (flow_by x) = label_edge x
move_edge (face_to q) = 0
move_edge (touch_to q xs) = 0

-- ---- what computes it

-- `MoveReplays`: the state that a move leads to from p, and that it replays
unfoldable pub target : LabelledSystem → Move → ℕ → ℕ
target P (flow_by x) p = P.next x p
target P (face_to q) p = q
target P (touch_to q xs) p = q

unfoldable pub move_replays : LabelledSystem → Move → ℕ → Bool
move_replays P (flow_by x) p = opens P x p
move_replays P (face_to q) p = P.system.face p q
move_replays P (touch_to q xs) p = P.system.near p q && closes P xs q

-- `Replay`: that the moves all replay, where they end, and the states that they come to
unfoldable pub replays : LabelledSystem → List Move → ℕ → Bool
replays P [] p = true
replays P (m ∷ ms) p = move_replays P m p && replays P ms (target P m p)

unfoldable pub replay_end : LabelledSystem → List Move → ℕ → ℕ
replay_end P [] p = p
replay_end P (m ∷ ms) p = replay_end P ms (target P m p)

unfoldable pub replay_states : LabelledSystem → List Move → ℕ → List ℕ
replay_states P [] p = []
replay_states P (m ∷ ms) p = target P m p ∷ replay_states P ms (target P m p)

-- `Passes`
unfoldable pub passes : LabelledSystem → List Move → Bool
passes P ms = replays P ms P.system.start && P.system.forbidden (replay_end P ms P.system.start)

-- ---- 01: "The step count that our trail carries is at most that of every other passing trail of the model (a walk not counted); of those
-- with as few, ours is the least in state numbers read from the start, then in kinds, then in edges."

-- what is compared: count, states, kinds, edges. The order of keys is `Lex`: where the counts are the same, so are the lengths of the parts.
unfoldable pub trail_key : LabelledSystem → List Move → List ℕ
trail_key P ms = length ms ∷ (replay_states P ms P.system.start ++ (map move_kind ms ++ map move_edge ms))

-- the move of the least kind, then edge, from p to q
unfoldable pub our_move : LabelledSystem → ℕ → ℕ → Move
our_move P p q =
    let x = least_label P p q in
    cond (ltb x P.labels) (flow_by x) (cond (P.system.face p q) (face_to q) (touch_to q (closed_walk_labels P q)))

-- the same through given states
unfoldable pub moves_along : LabelledSystem → ℕ → List ℕ → List Move
moves_along P p [] = []
moves_along P p (q ∷ l) = our_move P p q ∷ moves_along P q l

-- the moves of our trail
unfoldable pub our_moves : LabelledSystem → List Move
our_moves P = moves_along P P.system.start (trail_states P.system)
