-- Steps as the code reads them: a region's numbers in a struct, a touch without its walk.
use Rattle.std.specs.Prelude.{ℕ, min, cond, List, ltb, eqb, Result, Ok, Err}
use Rattle.limits.specs.declared.refusal.Refusal.{Refusal}
use Rattle.limits.specs.Refusal.{code_of}
use Rattle.number.specs.Number.{on_number}
use Rattle.evidence_number.specs.Evidence.{read_evidence}
use Rattle.region.specs.declared.Region.{Region}
use Rattle.trail_numbers.specs.declared.Step.{Step}
use Rattle.trail_numbers.specs.declared.Step.TheVariants.{Time, Jump, Face, Touch}
use Rattle.trail_numbers.specs.Numbers.{numbers_at}
use Rattle.trail_numbers.specs.Three.{three_of, on_three}

-- a step and the offset after it, or the number of the refusal
pub data Reading : Type 0 where
  Read : Step → ℕ → Reading
  Refused : ℕ → Reading

-- what the code reads, its refusal by number
abbrev pub numbered_step : Result (Step × ℕ) Refusal → Reading
numbered_step (Ok v) = Read v.0 v.1
numbered_step (Err r) = Refused (code_of r)

-- a number of a region that a byte can't hold is kept as 255, which no region has either
abbrev pub capped : ℕ → ℕ
capped v = min v 255

abbrev pub kept_region : ℕ → ℕ → ℕ → ℕ → ℕ → ℕ → Region
kept_region a b c d e f = record { w1 = capped a; w2 = capped b; w3 = capped c; r1 = capped d; r2 = capped e; r3 = capped f }

-- a face (kind 2) or a touch
abbrev pub region_step : ℕ → Region → Step
region_step kind g = cond (eqb kind 2) (Face g) (Touch g)

-- that step, where its region was read
abbrev pub step_with : ℕ → Result (Region × ℕ) Refusal → Result (Step × ℕ) Refusal
step_with kind (Ok v) = Ok (region_step kind v.0, v.1)
step_with kind (Err r) = Err r

unfoldable pub region_at : ℕ → List ℕ → ℕ → ℕ → Reading
region_at n bs kind at =
    on_three (three_of (numbers_at bs n at)) (λ a b c to.
    on_three (three_of (numbers_at bs n to)) (λ d e f end. Read (region_step kind (kept_region a b c d e f)) end)
    Refused) Refused

unfoldable pub jump_at : List ℕ → ℕ → Reading
jump_at bs at = on_number (read_evidence bs at) (λ e to. Read (Jump e) to) Refused

abbrev pub kind_at : ℕ → List ℕ → ℕ → ℕ → Reading
kind_at n bs kind at =
    cond (eqb kind 0) (Read Time at)
    (cond (eqb kind 1) (jump_at bs at)
    (cond (ltb 3 kind) (Refused 13)
    (region_at n bs kind at)))

unfoldable pub step_at : ℕ → List ℕ → ℕ → Reading
step_at n bs at = on_number (read_evidence bs at) (kind_at n bs) Refused

abbrev pub on_reading : {A : Type 0} → Reading → (Step → ℕ → A) → (ℕ → A) → A
on_reading (Read s p) go stop = go s p
on_reading (Refused r) go stop = stop r
