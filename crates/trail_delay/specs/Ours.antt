-- How soon drift does harm, by moves and by our trail.
use Rattle.std.specs.Prelude.{List, ℕ, ◌+◌, ◌*◌, ◌≤◌}
use Rattle.limits.specs.Limits.{max_clocks, max_states}
use Rattle.theory.specs.Replay.{Move, our_moves}
use Rattle.model.specs.declared.Model.{Model}
use Rattle.graph.specs.Plan.{automaton_of, labelled_of_model}
use Rattle.robust.specs.Delay.{move_base, move_rate, trail_base, trail_rate}
use Rattle.trail_delay.specs.declared.Delay.{Delay}

-- of a move
unfoldable pub move_delay : Model → Move → Delay
move_delay m a = record { base = move_base (automaton_of m) a; rate = move_rate (automaton_of m) a }

-- of moves
unfoldable pub delay_of : Model → List Move → Delay
delay_of m ms = record { base = trail_base (automaton_of m) ms; rate = trail_rate (automaton_of m) ms }

-- of our trail
unfoldable pub our_delay : Model → Delay
our_delay m = delay_of m (our_moves (labelled_of_model m))

-- ---- what a move's numbers are at most: a closed walk has as many steps as there are states, or fewer, and a region a corner more than clocks

abbrev pub max_move_jumps : ℕ
max_move_jumps = (max_clocks + 1) * (max_clocks + 1) * max_states

pub record FewJumps (d : Delay) : Type 0 where
  pub base : d.base ≤ max_move_jumps
  pub rate : d.rate ≤ max_move_jumps
