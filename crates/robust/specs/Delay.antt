-- How soon drift does harm, computed from a trail: within trail_base + trail_rate * q jumps, where the drift is 1/q or more.
use Rattle.std.specs.Prelude.{◌≡◌, List, [], ◌∷◌, true, ℕ, suc, ◌+◌, ◌*◌, ◌≤◌, ◌<◌, length}
use Rattle.theory.specs.Automaton.{Automaton, Edge, Run}
use Rattle.theory.specs.Region.{top_rank}
use Rattle.theory.specs.Labels.{label_kind}
use Rattle.theory.specs.Replay.{Move, flow_by, face_to, touch_to}
use Rattle.theory.specs.StateGraph.{region_of}

-- ---- what is meant

-- With every drift e/D above 0 some widened run enters a forbidden location; it has at most `most q` jumps, where q is D / e or more.
pub record FragileWithin (m : Automaton) (most : ℕ → ℕ) : Type 0 where
  pub enters_some : (e D q : ℕ) → 0 < D → D ≤ q * e
      → (N : ℕ) × (0 < N) × (gs : List Edge) × (l : ℕ) × (v : List ℕ) × (t : ℕ) × Run m N e D gs l v t × (m.forbidden l ≡ true)
      × (length gs ≤ most q)

-- ---- what computes it: a jump of the trail takes one jump, a touch takes turns around its closed walk

-- the jumps among labels, whose kinds are 0 for time and 1 for a jump
unfoldable pub jump_count : List ℕ → ℕ
jump_count [] = 0
jump_count (x ∷ xs) = label_kind x + jump_count xs

-- Turns that carry a run from one corner to another of a region with top rank g, which has g + 1 corners. At most g turns lead to a corner that turns
-- bring back to itself, and at most g from such a corner to the one that is wanted.
abbrev pub turns_base : ℕ → ℕ
turns_base g = 2 * g

-- Between the two the run drifts, a q-th of the way each time that turns bring both back: at most g + 1 times g + 1.
abbrev pub turns_rate : ℕ → ℕ
turns_rate g = suc g * suc g

-- for each move
unfoldable pub move_base : Automaton → Move → ℕ
move_base m (flow_by x) = label_kind x
move_base m (face_to p) = 0
move_base m (touch_to p xs) = turns_base (top_rank (region_of m p)) * jump_count xs

unfoldable pub move_rate : Automaton → Move → ℕ
move_rate m (flow_by x) = 0
move_rate m (face_to p) = 0
move_rate m (touch_to p xs) = turns_rate (top_rank (region_of m p)) * jump_count xs

-- and for all of them
unfoldable pub trail_base : Automaton → List Move → ℕ
trail_base m [] = 0
trail_base m (a ∷ ms) = move_base m a + trail_base m ms

unfoldable pub trail_rate : Automaton → List Move → ℕ
trail_rate m [] = 0
trail_rate m (a ∷ ms) = move_rate m a + trail_rate m ms
