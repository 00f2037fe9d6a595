-- 02 (b): "The number reader .. shall tell with each number whether the form was shortest". First the paper's form, then the executable form.
use Rattle.std.specs.Prelude.{ℕ, ◌+◌, ◌≤◌, ◌<◌, cond, length, eqb}
use mathlib.Core.List.{List, Memᴰ}
use Rattle.limits.specs.Refusal.{code_of}
use Rattle.number.specs.Number.{Number, Spells, read_number, on_number, spell}
use Rattle.number.specs.Number as number
use Rattle.number.specs.declared.Spelled as declared
use Rattle.number.specs.declared.Spelled.TheVariants as code

-- the same, and whether the form was shortest
pub data Spelled : Type 0 where
  Shortest : ℕ → ℕ → Spelled
  Padded : ℕ → ℕ → Spelled
  Refused : ℕ → Spelled

-- what the code tells, its refusal by number
abbrev pub told : declared.Spelled → Spelled
told (code.Shortest v p) = Shortest v p
told (code.Padded v p) = Padded v p
told (code.Refused r) = Refused (code_of r)

-- "in shortest form": bytes that spell the number, and no spelling of it has fewer
pub record ShortestForm (g : List ℕ) (v : ℕ) : Type 0 where
  pub spells : Spells g v
  pub least : (h : List ℕ) → Spells h v → length g ≤ length h

-- "padding": bytes that spell the number, and some spelling of it has fewer
pub record PaddedForm (g : List ℕ) (v : ℕ) : Type 0 where
  pub spells : Spells g v
  pub shorter : (h : List ℕ) × Spells h v × (length h < length g)

-- what memory holds; a list may hold other numbers too
abbrev pub AreBytes : List ℕ → Type 0
AreBytes bs = (b : ℕ) → Memᴰ b bs → b < 256

-- the number at a position, told by its form, or its refusal: the form is shortest where it is as long as the one that we write
unfoldable pub read_spelled : List ℕ → ℕ → Spelled
read_spelled bs at = on_number (read_number bs at) (λ v to. cond (eqb to (at + length (spell v))) (Shortest v to) (Padded v to)) Refused

-- the number without its form
abbrev pub number_in : Spelled → Number
number_in (Shortest v to) = number.Value v to
number_in (Padded v to) = number.Value v to
number_in (Refused r) = number.Refused r
