-- The two lines of a margin, or the line of a refusal.
use Rattle.std.specs.Prelude.{ℕ, Result, Ok, Err, List, ◌++◌, codes}
use Rattle.printing.specs.Text.{line_text, refusal_text}
use Rattle.op_margin.specs.declared.Tolerance.{Tolerance}
use Rattle.limits.specs.declared.refusal.Refusal.{Refusal}
use Rattle.limits.specs.Refusal.{code_of}

abbrev pub margin_text : Result Tolerance Refusal → List ℕ
margin_text (Ok b) = line_text (codes "states ") b.states ++ line_text (codes "margin ") b.margin
margin_text (Err r) = refusal_text (code_of r)
