-- The four lines of what to lend, or the line of a refusal.
use Rattle.std.specs.Prelude.{ℕ, Result, Ok, Err, List, ◌++◌, codes}
use Rattle.printing.specs.Text.{line_text, refusal_text}
use Rattle.op_room.specs.declared.Space.{Space}
use Rattle.limits.specs.declared.refusal.Refusal.{Refusal}
use Rattle.limits.specs.Refusal.{code_of}

abbrev pub needs_text : Result Space Refusal → List ℕ
needs_text (Ok n) =
    line_text (codes "states ") n.states ++ line_text (codes "scratch ") n.scratch ++ line_text (codes "sheet ") n.sheet ++ line_text (codes "steps ") n.steps
needs_text (Err r) = refusal_text (code_of r)
