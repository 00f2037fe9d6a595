-- 02 (b): "Evidence passes under the old rules plus this one, which joins 01's spelling of evidence".
use Rattle.std.specs.Prelude.{◌≡◌, List, ◌∷◌, ◌++◌, ℕ}
use Rattle.theory.specs.Sheet.{Sheet}
use Rattle.theory.specs.Replay.{Move, Passes}
use Rattle.number.specs.Number.{Value, Spells, read_number, spell}
use Rattle.number.specs.Sequence.{SpellsAll, SpellsShortest}
use Rattle.model.specs.declared.Model.{Model}
use Rattle.graph.specs.Plan.{automaton_of, system_of_model, labelled_of_model}
use Rattle.replay.specs.Spelling.{trail_numbers}

-- ---- "the old rules": 01's, by which a number of evidence may be padded

abbrev pub SheetPassedBefore : Model → List ℕ → Type 0
SheetPassedBefore m bs = (l : List ℕ) × SpellsAll bs (1 ∷ l) × Sheet (system_of_model m) l

abbrev pub TrailPassedBefore : Model → List ℕ → Type 0
TrailPassedBefore m bs = (vs : List Move) × SpellsAll bs (2 ∷ trail_numbers (automaton_of m) vs) × Passes (labelled_of_model m) vs

-- ---- "this one"

-- each number of the bytes is in shortest form
abbrev pub Unpadded : List ℕ → Type 0
Unpadded bs = (vs : List ℕ) × SpellsShortest bs vs

-- the second bytes are the first with each number in shortest form; what is no number stays as it is, with all after it
pub data Respelled : List ℕ → List ℕ → Type 0 where
  rest : (bs : List ℕ) → ((v to : ℕ) → read_number bs 0 ≡ Value v to → ⊥) → Respelled bs bs
  more : {g bs cs : List ℕ} {v : ℕ} → Spells g v → Respelled bs cs → Respelled (g ++ bs) (spell v ++ cs)
