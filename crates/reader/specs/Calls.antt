-- Several calls of `next`, one after the other.
use Rattle.std.specs.Prelude.{ℕ, zero, suc, ◌≡◌, List, [], ◌∷◌}
use Rattle.number.specs.Number.{Value}
use Rattle.number.specs.Shortest.{Spelled, Shortest, number_in}
use Rattle.reader.specs.declared.Reader.{Reader}
use Rattle.reader.specs.Reader.{next_number, advanced}

-- what so many calls give
unfoldable pub answers : ℕ → Reader → List Spelled
answers zero r = []
answers (suc k) r = next_number r ∷ answers k (advanced r)

-- the reader after so many calls
unfoldable pub after_calls : ℕ → Reader → Reader
after_calls zero r = r
after_calls (suc k) r = after_calls k (advanced r)

-- these values, each in a form that a relation allows, with no refusal among the answers
pub data GivesBy (F : Spelled → ℕ → ℕ → Type 0) : List Spelled → List ℕ → Type 0 where
  none : GivesBy F [] []
  more : {n : Spelled} {v to : ℕ} {ns : List Spelled} {vs : List ℕ} → F n v to → GivesBy F ns vs → GivesBy F (n ∷ ns) (v ∷ vs)

-- in any form
abbrev pub Gives : List Spelled → List ℕ → Type 0
Gives = GivesBy (λ n v to. number_in n ≡ Value v to)

-- each in its shortest form
abbrev pub GivesShortest : List Spelled → List ℕ → Type 0
GivesShortest = GivesBy (λ n v to. n ≡ Shortest v to)
