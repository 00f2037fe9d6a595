-- Numbers one after the other.
use Rattle.std.specs.Prelude.{List, [], ◌∷◌, ◌++◌, ℕ}
use Rattle.number.specs.Number.{Spells}
use Rattle.number.specs.Shortest.{ShortestForm}

-- Bytes that spell numbers one after the other, each as a relation says, with nothing after.
pub data SpelledBy (R : List ℕ → ℕ → Type 0) : List ℕ → List ℕ → Type 0 where
  none : SpelledBy R [] []
  more : {g bs vs : List ℕ} {v : ℕ} → R g v → SpelledBy R bs vs → SpelledBy R (g ++ bs) (v ∷ vs)

-- "Zero padding is allowed", so that numbers have many spellings.
abbrev pub SpellsAll : List ℕ → List ℕ → Type 0
SpellsAll = SpelledBy Spells

-- "in shortest form", number by number: then they have no shorter spelling.
abbrev pub SpellsShortest : List ℕ → List ℕ → Type 0
SpellsShortest = SpelledBy ShortestForm
