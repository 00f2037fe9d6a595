-- Evidence from anywhere: what passes, and what the check answers.
use Rattle.std.specs.Prelude.{◌≡◌, cond, ◌⊎◌, List, ◌∷◌, ℕ, ◌≤◌, eqb, Result, Ok, Err}
use Rattle.theory.specs.Sheet as theory
use Rattle.theory.specs.Replay.{Move, Passes}
use Rattle.limits.specs.declared.refusal.Refusal.{Refusal}
use Rattle.limits.specs.Refusal.{code_of}
use Rattle.number.specs.Number.{on_number}
use Rattle.evidence_number.specs.Evidence.{SpellsEvidence, NumberRefusal, read_evidence}
use Rattle.model.specs.declared.Model.{Model}
use Rattle.graph.specs.Plan.{automaton_of, system_of_model, labelled_of_model}
use Rattle.sheet.specs.Answer.{sheet_answer}
use Rattle.replay.specs.Spelling.{trail_numbers}
use Rattle.replay.specs.Trail.{trail_answer}
use Rattle.evidence.specs.declared.Evidence as declared
use Rattle.evidence.specs.declared.Evidence.TheVariants as code

-- ---- what is meant

-- 01: "A sheet is 1, then S numbers in state order"; "Evidence passes when its bytes spell, with nothing after, a sheet that keeps the rules". By 02 (b)
-- each number is in shortest form, which `SpellsEvidence` says.
abbrev pub SheetPasses : Model → List ℕ → Type 0
SheetPasses m bs = (l : List ℕ) × SpellsEvidence bs (1 ∷ l) × theory.Sheet (system_of_model m) l

-- "A trail is 2, a step count, then steps"; "or a trail whose steps all replay and which ends in a forbidden location"
abbrev pub TrailPasses : Model → List ℕ → Type 0
TrailPasses m bs = (vs : List Move) × SpellsEvidence bs (2 ∷ trail_numbers (automaton_of m) vs) × Passes (labelled_of_model m) vs

-- What evidence is refused by: "its first number by 1, 2, 10; sheet numbers in order by 1, 2, 11, then 6, 12; trail numbers and steps in order by 1, 2, 13,
-- then 6, 14"; by 02 (b) a number by 15, too.
abbrev pub EvidenceRefusal : ℕ → Type 0
EvidenceRefusal r = NumberRefusal r ⊎ ((r ≡ 6) ⊎ ((10 ≤ r) × (r ≤ 14)))

-- ---- what computes it

-- what passed, or the number of the refusal
pub data Evidence : Type 0 where
  Sheet : Evidence
  Trail : Evidence
  Refused : ℕ → Evidence

-- what the code finds, its refusal by number
abbrev pub passed : declared.Evidence → Evidence
passed code.Sheet = Sheet
passed code.Trail = Trail

abbrev pub numbered : Result declared.Evidence Refusal → Evidence
numbered (Ok kind) = passed kind
numbered (Err r) = Refused (code_of r)

-- a sheet after its first number, 1, and a trail after its first, 2, by what the rest is answered
abbrev pub found : Evidence → ℕ → Evidence
found kind r = cond (eqb r 0) kind (Refused r)

-- "its first number by 1, 2, 10", and 15 just after 2: what follows a first number
unfoldable pub of_kind : Model → List ℕ → ℕ → ℕ → Evidence
of_kind m bs kind at =
    cond (eqb kind 1) (found Sheet (sheet_answer m bs at))
    (cond (eqb kind 2) (found Trail (trail_answer m bs at))
    (Refused 10))

unfoldable pub checked : Model → List ℕ → Evidence
checked m bs = on_number (read_evidence bs 0) (of_kind m bs) Refused
