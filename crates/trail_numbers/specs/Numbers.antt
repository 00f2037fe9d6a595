-- Numbers of a trail, each judged by 1, 2 and 15 as it is read; `at` is an offset.
use Rattle.std.specs.Prelude.{ℕ, zero, suc, cond, List, [], ◌∷◌, eqb, Result, Ok, Err}
use Rattle.limits.specs.declared.refusal.Refusal.{Refusal}
use Rattle.limits.specs.Refusal.{code_of}
use Rattle.number.specs.Number.{Number, on_number}
use Rattle.evidence_number.specs.Evidence.{read_evidence}
use Rattle.evidence_number.specs.Numbers.{Numbers, got, refused, on_numbers}
use Rattle.number.specs.Number as number
use Rattle.trail_numbers.specs.declared.Label.{Label}
use Rattle.trail_numbers.specs.declared.Label.TheVariants.{Time, Jump}

-- ---- the steps of a walk, "made of kinds 0 and 1"

-- the label of a step by its kind and what is read of its edge; a kind above 1 is bad at once
abbrev pub jump_label : Number → Number
jump_label (number.Value e to) = number.Value (suc e) to
jump_label (number.Refused r) = number.Refused r

abbrev pub kind_label : ℕ → ℕ → Number → Number
kind_label kind to edge = cond (eqb kind 0) (number.Value 0 to) (cond (eqb kind 1) (jump_label edge) (number.Refused 13))

-- 0 for time, e + 1 for the jump along edge e
abbrev pub label_number : Label → ℕ
label_number Time = 0
label_number (Jump e) = suc e

-- what the code reads, its label and its refusal by number
abbrev pub numbered_label : Result (Label × ℕ) Refusal → Number
numbered_label (Ok v) = number.Value (label_number v.0) v.1
numbered_label (Err r) = number.Refused (code_of r)

unfoldable pub label_at : List ℕ → ℕ → Number
label_at bs at = on_number (read_evidence bs at) (λ kind to. kind_label kind to (read_evidence bs to)) number.Refused

-- ---- k numbers and the offset after them, or the refusal

unfoldable pub numbers_at : List ℕ → ℕ → ℕ → Numbers
numbers_at bs zero at = got [] at
numbers_at bs (suc k) at =
    on_number (read_evidence bs at) (λ v to.
    on_numbers (numbers_at bs k to) (λ vs end. got (v ∷ vs) end) refused)
    refused
