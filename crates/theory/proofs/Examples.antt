-- Small systems, computed: the definitions give what the paper expects.
use mathlib.Core.Path.{◌≡◌, refl}
use mathlib.Core.Bool.{Bool, true, false, ◌&&◌, ◌||◌, cond}
use mathlib.Core.Logic.{⊎_elim}
use mathlib.Core.List.{[], ◌∷◌}
use Prim.Native.Nat.{ℕ, zero, suc, ◌+◌}
use native.Mathlib.Omega.{arith}
use lib.Dec.{eqb, ltb, leb}
use borrow.Author.Tests.{ltb-true, lt-ltb}
use Rattle.theory.specs.Below.{any, all, least, top, tab}
use Rattle.theory.specs.Walk.{exact, within, dist, dist⁺, greedy}
use Rattle.theory.specs.System.{System, Laws, reach, on_closed_walk}
use Rattle.theory.specs.Marked.{step, marks}
use Rattle.theory.specs.Levels.{distance_to, mark}
use Rattle.theory.specs.Rounds.{rounds}
use Rattle.theory.specs.Height.{under, chain, height}
use Rattle.theory.specs.Sheet.{keeps, sheet_test, number, our_sheet}
use Rattle.theory.specs.Trail.{trail_steps, trail_states}
use Rattle.theory.specs.ClosedWalk.{closed_walk, closed_walk_steps}
use Rattle.theory.specs.Labels.{LabelledSystem, LabelledLaws, label_kind, label_edge, opens, leads, walks, walk_end, walk_states, closes, walk_key, least_label, labels_along, closed_walk_labels}
use Rattle.theory.specs.Replay.{flow_by, face_to, touch_to, move_kind, move_edge, target, move_replays, replays, replay_end, replay_states, passes, trail_key, our_move, moves_along, our_moves}
use Rattle.theory.proofs.Below.{and↔, or↔, test↔, eqb↔, ltb↔}

-- ---- the model 1,1,1,1,0,0,0,0: one clock, ceiling 1, one location, no edge. Its regions are the point 0, what lies between, the point 1.
-- Time leads from each to the next, the points are the faces of what lies between, and it shares a corner with each of them.
abbrev line : Bool → System
line kind = record {
  size = 3;
  start = 0;
  allowed = λ p. ltb p 3;
  forbidden = λ p. kind;
  flow = λ p q. eqb q (suc p) && ltb q 3;
  face = λ p q. eqb p 1 && (eqb q 0 || eqb q 2);
  near = λ p q. (ltb p 3 && ltb q 3) && (leb p (q + 1) && leb q (p + 1));
}

abbrev line_labels : Bool → LabelledSystem
line_labels kind = record { system = line kind; labels = 1; next = λ x p. suc p }

-- it keeps the laws, so they can be kept
line_laws : (kind : Bool) → Laws (line kind)
line_laws kind = record {
  start_allowed = refl;
  allowed_below = λ p e. ltb-true p 3 e;
  flow_joins = λ p q e.
      let (c, b) = (and↔ (eqb↔ q (suc p)) (ltb↔ q 3)).0 e in
      (lt-ltb p 3 (omega arith), lt-ltb q 3 b);
  face_joins = λ p q e.
      let (c, t) = (and↔ (eqb↔ p 1) (or↔ (eqb↔ q 0) (eqb↔ q 2))).0 e in
      (lt-ltb p 3 (omega arith), lt-ltb q 3 (⊎_elim (λ z. omega arith) (λ z. omega arith) t));
  near_joins = λ p q e. ((and↔ (and↔ (test↔ (ltb p 3)) (test↔ (ltb q 3))) (test↔ (leb p (q + 1) && leb q (p + 1)))).0 e).0;
}

line_labelled : (kind : Bool) → LabelledLaws (line_labels kind)
line_labelled kind = record {
  laws = line_laws kind;
  flow_next = λ p q e. let (c, b) = (and↔ (eqb↔ q (suc p)) (ltb↔ q 3)).0 e in (0, omega arith, omega arith);
  next_flow = λ x p a b c. (and↔ (eqb↔ (suc p) (suc p)) (ltb↔ (suc p) 3)).1 (refl, c);
}

-- 01: "model 1,1,1,1,0,0,0,0 has sheet 1,5,3,1; with kind 1, trail 2,0"
line_sheet : our_sheet (line false) ≡ 5 ∷ 3 ∷ 1 ∷ []
unfolding our_sheet tab number height chain under reach marks within exact step on_closed_walk any top
line_sheet = refl

line_passes : sheet_test (line false) (5 ∷ 3 ∷ 1 ∷ []) ≡ true
unfolding sheet_test keeps all any
line_passes = refl

line_trail : our_moves (line_labels true) ≡ []
unfolding our_moves moves_along trail_states trail_steps dist greedy least exact
line_trail = refl

line_trail_passes : passes (line_labels true) [] ≡ true
unfolding passes replays replay_end
line_trail_passes = refl

-- 02 (d): a round for each of its three states
line-rounds : rounds (line false) ≡ 3
unfolding rounds top mark distance_to dist least exact any step on_closed_walk reach within
line-rounds = refl

-- with kind 1 no sheet passes, with kind 0 not the trail
line_no_sheet : sheet_test (line true) (5 ∷ 3 ∷ 1 ∷ []) ≡ false
unfolding sheet_test keeps all any
line_no_sheet = refl

line_no_trail : passes (line_labels false) [] ≡ false
unfolding passes replays replay_end
line_no_trail = refl

-- a step that raises the height; an out-state that a step from an in-state leads to
line_rise : sheet_test (line false) (3 ∷ 5 ∷ 1 ∷ []) ≡ false
unfolding sheet_test keeps all any
line_rise = refl

line_out : sheet_test (line false) (5 ∷ 3 ∷ 0 ∷ []) ≡ false
unfolding sheet_test keeps all any
line_out = refl

-- ---- three states, 0 near 1. With `back`, 1 and 2 lead to one another, so that 0 touches 1; without, 1 leads to 2 alone.
abbrev touch : Bool → System
touch back = record {
  size = 3;
  start = 0;
  allowed = λ p. ltb p 3;
  forbidden = λ p. eqb p 2;
  flow = λ p q. (eqb p 1 && eqb q 2) || (back && (eqb p 2 && eqb q 1));
  face = λ p q. false;
  near = λ p q. eqb p 0 && eqb q 1;
}

-- label 0 leads from 1 to 2 and back, and from 0 nowhere
abbrev swap : ℕ → ℕ → ℕ
swap x zero = 3
swap x (suc zero) = 2
swap x (suc (suc p)) = 1

abbrev swaps : LabelledSystem
swaps = record { system = touch true; labels = 1; next = swap }

touch_walk : closed_walk (touch true) 1 ≡ 2 ∷ 1 ∷ []
unfolding closed_walk closed_walk_steps dist⁺ greedy least exact any
touch_walk = refl

touch_moves : our_moves swaps ≡ touch_to 1 (0 ∷ 0 ∷ []) ∷ flow_by 0 ∷ []
unfolding our_moves moves_along our_move least_label closed_walk_labels labels_along leads opens closed_walk closed_walk_steps dist⁺ greedy trail_states trail_steps dist least within exact step on_closed_walk any reach
touch_moves = refl

touch_passes : passes swaps (touch_to 1 (0 ∷ 0 ∷ []) ∷ flow_by 0 ∷ []) ≡ true
unfolding passes replays replay_end move_replays target closes walks walk_end opens
touch_passes = refl

-- all are marked, and along a closed walk no step counts
touch_sheet : our_sheet (touch true) ≡ 1 ∷ 1 ∷ 1 ∷ []
unfolding our_sheet tab number height chain under reach marks within exact step on_closed_walk any top
touch_sheet = refl

-- a touch with a walk of no steps does not replay, nor one whose walk ends elsewhere
touch_empty : passes swaps (touch_to 1 [] ∷ flow_by 0 ∷ []) ≡ false
unfolding passes replays replay_end move_replays target closes walks walk_end opens
touch_empty = refl

touch_open : passes swaps (touch_to 1 (0 ∷ []) ∷ flow_by 0 ∷ []) ≡ false
unfolding passes replays replay_end move_replays target closes walks walk_end opens
touch_open = refl

-- without the way back there is no touch: the out-state 1, near the in-state 0, has a step that strictly lowers its height
apart_sheet : our_sheet (touch false) ≡ 1 ∷ 2 ∷ 0 ∷ []
unfolding our_sheet tab number height chain under reach marks within exact step on_closed_walk any top
apart_sheet = refl

apart_passes : sheet_test (touch false) (1 ∷ 2 ∷ 0 ∷ []) ≡ true
unfolding sheet_test keeps all any
apart_passes = refl

-- another sheet that passes; one that keeps the height along that step; one with a number above 2S-1 = 5
apart_other : sheet_test (touch false) (1 ∷ 4 ∷ 0 ∷ []) ≡ true
unfolding sheet_test keeps all any
apart_other = refl

apart_kept : sheet_test (touch false) (1 ∷ 0 ∷ 0 ∷ []) ≡ false
unfolding sheet_test keeps all any
apart_kept = refl

apart_high : sheet_test (touch false) (1 ∷ 6 ∷ 0 ∷ []) ≡ false
unfolding sheet_test keeps all any
apart_high = refl

-- ---- four states. Time leads from 0 to 2, from 1 and from 2 to 3, and from 3 to itself; the edges 1 and 2 both lead from 0 to 1, and the
-- edge 0 nowhere. State 3 is forbidden. Both ways have two steps: ours goes by the state 1 and the edge 1, though time comes before a jump.
abbrev goes : ℕ → ℕ → ℕ
goes zero zero = 2
goes zero (suc p) = 3
goes (suc zero) p = 4
goes (suc (suc e)) zero = 1
goes (suc (suc e)) (suc p) = 4

abbrev ways : LabelledSystem
ways = record {
  system = record {
    size = 4;
    start = 0;
    allowed = λ p. ltb p 4;
    forbidden = λ p. eqb p 3;
    flow = λ p q. ltb q 4 && any 4 (λ x. eqb (goes x p) q);
    face = λ p q. false;
    near = λ p q. false;
  };
  labels = 4;
  next = goes;
}

ways_moves : our_moves ways ≡ flow_by 2 ∷ flow_by 0 ∷ []
unfolding our_moves moves_along our_move least_label closed_walk_labels labels_along leads opens greedy trail_states trail_steps dist least within exact step on_closed_walk any reach
ways_moves = refl

-- two steps; states 1, 3; kinds 1, 0; edges 1, 0
ways_key : trail_key ways (flow_by 2 ∷ flow_by 0 ∷ []) ≡ 2 ∷ 1 ∷ 3 ∷ 1 ∷ 0 ∷ 1 ∷ 0 ∷ []
unfolding trail_key replay_states target move_kind move_edge label_kind label_edge
ways_key = refl

-- the key of a walk: one step; the state 3; kind 0; edge 0
ways-walk_key : walk_key ways (0 ∷ []) 3 ≡ 1 ∷ 3 ∷ 0 ∷ 0 ∷ []
unfolding walk_key walk_states label_kind label_edge
ways-walk_key = refl

-- the way of time and the way of an edge are one step each that cannot be returned from; the closed walk at 3 counts for nothing
ways_sheet : our_sheet ways.system ≡ 5 ∷ 3 ∷ 3 ∷ 1 ∷ []
unfolding our_sheet tab number height chain under reach marks within exact step on_closed_walk any top
ways_sheet = refl

-- state 3 is on a closed walk of one step; state 0 on none
ways_walk : closed_walk_labels ways 3 ≡ 0 ∷ []
unfolding closed_walk_labels labels_along least_label leads opens closed_walk closed_walk_steps dist⁺ greedy least exact any
ways_walk = refl

ways_none : on_closed_walk ways.system 0 ≡ false
unfolding on_closed_walk reach within exact any
ways_none = refl

-- ---- two states and one that is not allowed. State 1 is forbidden, on a closed walk of one step, a face of 0 and near it: ours takes the face.
abbrev pair : LabelledSystem
pair = record {
  system = record {
    size = 3;
    start = 0;
    allowed = λ p. ltb p 2;
    forbidden = λ p. eqb p 1;
    flow = λ p q. eqb p 1 && eqb q 1;
    face = λ p q. eqb p 0 && eqb q 1;
    near = λ p q. eqb p 0 && eqb q 1;
  };
  labels = 1;
  next = λ x p. cond (eqb p 1) 1 3;
}

pair_moves : our_moves pair ≡ face_to 1 ∷ []
unfolding our_moves moves_along our_move least_label leads opens greedy trail_states trail_steps dist least within exact step on_closed_walk any reach
pair_moves = refl

-- the touch passes too, but its key is larger: kind 3 against kind 2
pair_touch : passes pair (touch_to 1 (0 ∷ []) ∷ []) ≡ true
unfolding passes replays replay_end move_replays target closes walks walk_end opens
pair_touch = refl

pair_keys : (trail_key pair (face_to 1 ∷ []) ≡ 1 ∷ 1 ∷ 2 ∷ 0 ∷ []) × (trail_key pair (touch_to 1 (0 ∷ []) ∷ []) ≡ 1 ∷ 1 ∷ 3 ∷ 0 ∷ [])
unfolding trail_key replay_states target move_kind move_edge
pair_keys = (refl, refl)

-- a state that is not allowed has 0
abbrev gap : System
gap = record {
  size = 2;
  start = 0;
  allowed = λ p. eqb p 0;
  forbidden = λ p. false;
  flow = λ p q. false;
  face = λ p q. false;
  near = λ p q. false;
}

gap_sheet : (sheet_test gap (1 ∷ 0 ∷ []) ≡ true) × (sheet_test gap (1 ∷ 2 ∷ []) ≡ false)
unfolding sheet_test keeps all any
gap_sheet = (refl, refl)
