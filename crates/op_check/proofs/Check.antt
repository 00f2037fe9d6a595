-- What the check says: the plan refused, or what is found of the evidence.
use mathlib.Core.Path.{◌≡◌, refl}
use mathlib.Core.List.{List}
use Prim.Native.Nat.{ℕ}
use Rattle.std.specs.Prelude.{Result, Ok, Err}
use Rattle.limits.specs.declared.refusal.Refusal.{Refusal}
use Rattle.evidence.specs.Evidence.{checked, numbered}
use Rattle.evidence.specs.declared.Evidence as declared
use Rattle.evidence.specs.declared.Evidence.TheVariants as code
use Rattle.call.specs.Admitted.{called}
use Rattle.call.specs.Answered.{answered}
use Rattle.call.specs.Call.{model_of}
use Rattle.op_check.specs.Check.{check_answer, evidence_answer, evidence_values}

pub answered_check : (r : Result declared.Evidence Refusal) → answered evidence_values r ≡ evidence_answer (numbered r)
unfolding evidence_answer
answered_check (Ok code.Sheet) = refl
answered_check (Ok code.Trail) = refl
answered_check (Err r) = refl

pub check_said : (bytes evidence lent : List ℕ) → called (evidence_answer (checked (model_of bytes) evidence)) bytes lent ≡ check_answer bytes evidence lent
unfolding check_answer
check_said bytes evidence lent = refl
