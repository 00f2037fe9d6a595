-- 01: "A reader over the lent evidence serves outside callers, giving each next number, or 1 or 2 and then staying at that number's first byte",
-- and "the reader's is the number, and it then stands after it". 02 (b): "The number reader, the outside one too, shall tell with each number whether
-- the form was shortest, and never gives 15 itself".
use Rattle.std.specs.Prelude.{ℕ, List, [], ◌∷◌}
use Rattle.number.specs.Number.{read_number, on_number}
use Rattle.number.specs.Shortest.{Spelled, Shortest, Padded, Refused, read_spelled, number_in}
use Rattle.number.specs.Answer.{Answer}
use Rattle.reader.specs.declared.Reader.{Reader}

-- the offset after the number at an offset, or that offset where the number is refused
unfoldable pub after_number : List ℕ → ℕ → ℕ
after_number bs at = on_number (read_number bs at) (λ v to. to) (λ r. at)

-- the same by what is told there
abbrev pub after_found : Spelled → ℕ → ℕ
after_found s at = on_number (number_in s) (λ v to. to) (λ r. at)

-- the next number, told by its form, or its refusal
abbrev pub next_number : Reader → Spelled
next_number r = read_spelled r.bytes.now r.at

-- 01's number and values for each case, and 02's "whether the form was shortest": the number, and 0 for the shortest form or 1 for a padded one. The
-- offset in the enum is the reader's own.
unfoldable pub number_answer : Spelled → Answer
number_answer (Shortest v to) = record { number = 0; values = v ∷ 0 ∷ [] }
number_answer (Padded v to) = record { number = 0; values = v ∷ 1 ∷ [] }
number_answer (Refused r) = record { number = r; values = [] }

-- "the reader's is the number", with its form, or "1 or 2"
abbrev pub next_answer : Reader → Answer
next_answer r = number_answer (next_number r)

-- the reader once that number is given
abbrev pub advanced : Reader → Reader
advanced r = record { bytes = r.bytes; at = after_number r.bytes.now r.at }
