-- Worked examples of the definitions, by computing.
use mathlib.Core.Path.{◌≡◌, refl}
use mathlib.Core.List.{[], ◌∷◌}
use Rattle.number.specs.Number.{Value, Refused, read_number, spell}
use Rattle.number.specs.Shortest.{Shortest, Padded, read_spelled}
use Rattle.number.specs.Shortest as spelled

-- "5 and 133,0 both read as 5"; "bytes 133,128,0 read as 5, 133,128,128 refused by 2"
five : read_number (5 ∷ []) 0 ≡ Value 5 1
unfolding read_number
five = refl

five_padded : read_number (133 ∷ 0 ∷ []) 0 ≡ Value 5 2
unfolding read_number
five_padded = refl

five_padded_twice : read_number (133 ∷ 128 ∷ 0 ∷ []) 0 ≡ Value 5 3
unfolding read_number
five_padded_twice = refl

third_top_bit : read_number (133 ∷ 128 ∷ 128 ∷ []) 0 ≡ Refused 2
unfolding read_number
third_top_bit = refl

two_left : read_number (7 ∷ 128 ∷ 128 ∷ []) 1 ≡ Refused 1
unfolding read_number
two_left = refl

none_left : read_number [] 0 ≡ Refused 1
unfolding read_number
none_left = refl

spell_0 : spell 0 ≡ 0 ∷ []
unfolding spell
spell_0 = refl

spell_127 : spell 127 ≡ 127 ∷ []
unfolding spell
spell_127 = refl

spell_128 : spell 128 ≡ 128 ∷ 1 ∷ []
unfolding spell
spell_128 = refl

spell_16383 : spell 16383 ≡ 255 ∷ 127 ∷ []
unfolding spell
spell_16383 = refl

spell_16384 : spell 16384 ≡ 128 ∷ 128 ∷ 1 ∷ []
unfolding spell
spell_16384 = refl

spell_2097151 : spell 2097151 ≡ 255 ∷ 255 ∷ 127 ∷ []
unfolding spell
spell_2097151 = refl

-- told by its form: 0 has one byte, 128 has two
five_shortest : read_spelled (5 ∷ []) 0 ≡ Shortest 5 1
unfolding read_spelled read_number spell
five_shortest = refl

five_told : read_spelled (133 ∷ 0 ∷ []) 0 ≡ Padded 5 2
unfolding read_spelled read_number spell
five_told = refl

nought_told : read_spelled (128 ∷ 0 ∷ []) 0 ≡ Padded 0 2
unfolding read_spelled read_number spell
nought_told = refl

two_shortest : read_spelled (7 ∷ 128 ∷ 1 ∷ []) 1 ≡ Shortest 128 3
unfolding read_spelled read_number spell
two_shortest = refl

three_told : read_spelled (128 ∷ 129 ∷ 0 ∷ []) 0 ≡ Padded 128 3
unfolding read_spelled read_number spell
three_told = refl

three_shortest : read_spelled (128 ∷ 128 ∷ 1 ∷ []) 0 ≡ Shortest 16384 3
unfolding read_spelled read_number spell
three_shortest = refl

long_told : read_spelled (133 ∷ 128 ∷ 128 ∷ []) 0 ≡ spelled.Refused 2
unfolding read_spelled read_number spell
long_told = refl

-- no byte is 384: why the bytes are determined only where they are bytes
not_a_byte : read_spelled (384 ∷ 1 ∷ []) 0 ≡ Shortest 128 2
unfolding read_spelled read_number spell
not_a_byte = refl
