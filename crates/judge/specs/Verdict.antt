-- The three lines of a verdict, or the line of a refusal. 10 ends a line.
use Rattle.std.specs.Prelude.{ℕ, Result, Ok, Err, List, [], ◌∷◌, ◌++◌, codes}
use Rattle.printing.specs.Text.{line_text, refusal_text}
use Rattle.op_judge.specs.declared.Judgement.{Judgement}
use Rattle.op_judge.specs.declared.Judgement.TheVariants.{Safe, Unsafe}
use Rattle.limits.specs.declared.refusal.Refusal.{Refusal}
use Rattle.limits.specs.Refusal.{code_of}

abbrev pub verdict_text : Result Judgement Refusal → List ℕ
verdict_text (Ok (Safe states count)) = (codes "verdict safe" ++ 10 ∷ []) ++ line_text (codes "states ") states ++ line_text (codes "in ") count
verdict_text (Ok (Unsafe states count)) = (codes "verdict unsafe" ++ 10 ∷ []) ++ line_text (codes "states ") states ++ line_text (codes "steps ") count
verdict_text (Err r) = refusal_text (code_of r)
