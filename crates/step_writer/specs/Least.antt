-- The least label from a state to another, as the code answers it.
use Rattle.std.specs.Prelude.{ℕ, Option, Some, None}
use Rattle.trail_numbers.specs.declared.Label.{Label}
use Rattle.trail_numbers.specs.Numbers.{label_number}

-- its number, or another where there is none
abbrev pub numbered_least : ℕ → Option Label → ℕ
numbered_least none (Some x) = label_number x
numbered_least none None = none
