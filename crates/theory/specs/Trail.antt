-- Trails by the states that they come to: any, and ours.
use Rattle.std.specs.Prelude.{◌≡◌, true, List, ℕ}
use Rattle.theory.specs.Walk.{Walk, dist, greedy}
use Rattle.theory.specs.System.{System}
use Rattle.theory.specs.Marked.{step}

-- steps of the four kinds, "the first one from the start", that end "in a forbidden location"; "A trail without steps ends at the start"
abbrev pub Trail : System → List ℕ → Type 0
Trail Y l = (s : ℕ) × Walk (step Y) Y.start s l × (Y.forbidden s ≡ true)

-- ---- 01: "The step count that our trail carries is at most that of every other passing trail of the model"

unfoldable pub trail_steps : System → ℕ
trail_steps Y = dist Y.size (step Y) Y.forbidden Y.start

-- "of those with as few, ours is the least in state numbers read from the start"
unfoldable pub trail_states : System → List ℕ
trail_states Y = greedy Y.size (step Y) Y.forbidden (trail_steps Y) Y.start
