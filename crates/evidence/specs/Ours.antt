-- Our evidence for a model, by its definition. 01: "What we write uses shortest numbers."
use Rattle.std.specs.Prelude.{cond, List, ◌∷◌, ℕ}
use Rattle.theory.specs.Marked.{unsafe}
use Rattle.theory.specs.Sheet.{our_sheet}
use Rattle.theory.specs.Replay.{our_moves}
use Rattle.number.specs.Number.{spell_all}
use Rattle.model.specs.declared.Model.{Model}
use Rattle.graph.specs.Plan.{automaton_of, system_of_model, labelled_of_model}
use Rattle.replay.specs.Spelling.{trail_numbers}

-- "A sheet is 1, then S numbers in state order"
unfoldable pub our_sheet_numbers : Model → List ℕ
our_sheet_numbers m = 1 ∷ our_sheet (system_of_model m)

-- "A trail is 2, a step count, then steps"
unfoldable pub our_trail_numbers : Model → List ℕ
our_trail_numbers m = 2 ∷ trail_numbers (automaton_of m) (our_moves (labelled_of_model m))

-- a trail where the verdict is unsafe, a sheet where it is safe
unfoldable pub our_evidence : Model → List ℕ
our_evidence m = spell_all (cond (unsafe (system_of_model m)) (our_trail_numbers m) (our_sheet_numbers m))
