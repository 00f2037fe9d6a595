-- What the writer answers and leaves in the output.
use Rattle.std.specs.Prelude.{Bool, cond, List, ◌∷◌, ℕ, ltb, length, Result, Ok, Err}
use Rattle.limits.specs.declared.refusal.Refusal.{Refusal}
use Rattle.limits.specs.Refusal.{code_of}
use Rattle.theory.specs.Marked.{unsafe}
use Rattle.theory.specs.Sheet.{our_sheet}
use Rattle.theory.specs.Replay.{our_moves}
use Rattle.theory.specs.WithoutTouch.{with_touch, labelled_with_touch}
use Rattle.number.specs.Number.{spell_all}
use Rattle.model.specs.declared.Model.{Model}
use Rattle.graph.specs.Plan.{automaton_of, system_of_model, labelled_of_model}
use Rattle.replay.specs.Spelling.{trail_numbers}
use Rattle.spelling.specs.Lays.{filled}
use Rattle.evidence.specs.Ours.{our_evidence}
use Rattle.evidence_writer.specs.declared.Written as declared
use Rattle.evidence_writer.specs.declared.Written.TheVariants as code

-- the verdict with the number of bytes written, or the number of the refusal
pub data Written : Type 0 where
  Safe : ℕ → Written
  Unsafe : ℕ → Written
  Refused : ℕ → Written

-- what the code answers, its refusal by number
abbrev pub numbered : Result declared.Written Refusal → Written
numbered (Ok (code.Safe n)) = Safe n
numbered (Ok (code.Unsafe n)) = Unsafe n
numbered (Err r) = Refused (code_of r)

-- the output in the end
unfoldable pub evidence_in : Model → List ℕ → List ℕ
evidence_in m out = filled (our_evidence m) out

-- our evidence with touch steps or, for 02 (g), without: the trail where the verdict is unsafe, or else the sheet
unfoldable pub evidence_by : Bool → Model → List ℕ
evidence_by touch m =
    spell_all (cond (unsafe (with_touch touch (system_of_model m)))
    (2 ∷ trail_numbers (automaton_of m) (our_moves (labelled_with_touch touch (labelled_of_model m))))
    (1 ∷ our_sheet (with_touch touch (system_of_model m))))

-- the verdict and the number of bytes written; 9, "output too short for the .. evidence"
unfoldable pub verdict_with : Bool → ℕ → ℕ → Written
verdict_with bad need room = cond (ltb room need) (Refused 9) (cond bad (Unsafe need) (Safe need))

unfoldable pub written_for : Model → ℕ → Written
written_for m room = verdict_with (unsafe (system_of_model m)) (length (our_evidence m)) room

-- the same by `evidence_by`
unfoldable pub written_by : Bool → Model → ℕ → Written
written_by touch m room = verdict_with (unsafe (with_touch touch (system_of_model m))) (length (evidence_by touch m)) room
