-- The numbers of a trail by the states that it comes to.
use Rattle.std.specs.Prelude.{List, ◌∷◌, ℕ}
use Rattle.theory.specs.Replay.{moves_along}
use Rattle.model.specs.declared.Model.{Model}
use Rattle.graph.specs.Plan.{automaton_of, system_of_model, labelled_of_model}
use Rattle.replay.specs.Spelling.{trail_numbers}

-- 01: "A trail is 2, a step count, then steps", here from the start through the path's states, each step of the least kind, then edge
unfoldable pub path_numbers : Model → List ℕ → List ℕ
path_numbers m path = 2 ∷ trail_numbers (automaton_of m) (moves_along (labelled_of_model m) (system_of_model m).start path)
