-- A worked example of the definitions, by computing.
use Prim.Native.Nat.{ℕ}
use mathlib.Core.Path.{◌≡◌, refl}
use mathlib.Core.List.{[], ◌∷◌}
use Rattle.number.specs.Number.{read_number, spell}
use Rattle.number.specs.Shortest.{Shortest, Padded, Refused, read_spelled}
use Rattle.reader.specs.declared.Reader.{Reader}
use Rattle.reader.specs.Reader.{after_number}
use Rattle.reader.specs.Calls.{answers}

-- "5 and 133,0 both read as 5"; then one byte that says that another follows, where none does
over : ℕ × ℕ → Reader
over p = record { bytes = record { ref_ptr = p; now = 5 ∷ 133 ∷ 0 ∷ 128 ∷ [] }; at = 0 }

fives : (p : ℕ × ℕ) → answers 4 (over p) ≡ Shortest 5 1 ∷ Padded 5 3 ∷ Refused 1 ∷ Refused 1 ∷ []
unfolding answers after_number read_spelled read_number spell over
fives p = refl
