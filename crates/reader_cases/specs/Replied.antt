-- What a reader gives, and where it then stands.
use Rattle.std.specs.Prelude.{ℕ, Bool, true, false}
use Rattle.number.specs.Shortest.{Spelled, Shortest, Padded, Refused}
use Rattle.reader.specs.declared.Reader.{Reader}
use Rattle.reader.specs.Reader.{next_number, advanced}

pub record Reply : Type 0 where
  pub number : Spelled
  pub at : ℕ

-- the number that was given, with where the reader stands
abbrev pub reply_of : Spelled → Reader → Reply
reply_of n r = record { number = n; at = r.at }

unfoldable pub replied : Reader → Reply
replied r = record { number = next_number r; at = (advanced r).at }

abbrev pub is_refused : Spelled → Bool
is_refused (Shortest v to) = false
is_refused (Padded v to) = false
is_refused (Refused r) = true
