-- The line of a location: its least time, or that no run gets there; or the line of a refusal. 10 ends a line.
use Rattle.std.specs.Prelude.{ℕ, Bool, true, Result, Ok, Err, List, [], ◌∷◌, ◌++◌, codes, if◌then◌else◌, ◌==◌}
use Rattle.printing.specs.Text.{word_text, line_text, refusal_text}
use Rattle.limits.specs.declared.refusal.Refusal.{Refusal}
use Rattle.limits.specs.Refusal.{code_of}

-- a location that no run gets to is refused by 16
abbrev pub arrival_text : ℕ → Result ℕ Refusal → List ℕ
arrival_text location (Ok units) = word_text (codes "location ") location ++ line_text (codes " time ") units
arrival_text location (Err r) =
    if code_of r == 16 then word_text (codes "location ") location ++ codes " never" ++ 10 ∷ [] else refusal_text (code_of r)

-- no refusal of the call
abbrev pub is_told : Result ℕ Refusal → Bool
is_told (Ok units) = true
is_told (Err r) = code_of r == 16
