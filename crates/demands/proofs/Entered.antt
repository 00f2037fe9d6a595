-- Beyond 01: which locations drift enters, whatever their kind, is told by the marks. From bytes: `bytes` spell an accepted model, each scratch slice is
-- long enough, and the output has room for the marks.
use mathlib.Core.Path.{◌≡◌, subst}
use mathlib.Core.Logic.{◌↔◌}
use mathlib.Core.List.{List}
use Prim.Native.Nat.{ℕ, ◌≤◌}
use lib.ListN.{length}
use Rattle.theory.specs.Automaton.{Automaton}
use Rattle.theory.specs.RegionGraph.{Marked}
use Rattle.theory.specs.StateGraph.{region_of, number_of}
use Rattle.model.specs.declared.Model.{Model}
use Rattle.model.specs.Model.{Lawful}
use Rattle.plan_reader.proofs.Accepted.{accepted_resets}
use Rattle.graph.specs.Plan.{automaton_of}
use Rattle.graph.proofs.Models.{marked_numbers}
use Rattle.robust.specs.Robust.{HasMark, Entered, NeverEntered}
use Rattle.robust_models.proofs.Models.{location_right}
use Rattle.call.specs.Call.{model_of, states_of, refusal}
use Rattle.call.proofs.Calls.{taken_in, accepted}
use Rattle.op_marks.specs.Marks.{output}
use Rattle.demands.specs.Entered.{MarkIn}
use Rattle.demands.proofs.Demand2.{state_number, byte_exactly, none_missing}

module _ (bytes lent : List ℕ) (taken : refusal bytes lent ≡ 0) (out : List ℕ) (room : states_of bytes ≤ length out) where
  abbrev m : Model
  m = model_of bytes

  abbrev plan : Automaton
  plan = automaton_of m

  ok : Lawful m
  ok = accepted bytes lent taken

  mark_law : (l : ℕ) → MarkIn bytes l (output bytes lent out) ↔ HasMark plan l
  mark_law l = (
    λ (p, h, e, b). (region_of plan p, subst (λ k. Marked plan k (region_of plan p)) e ((byte_exactly bytes lent taken out room p h).in_set.0 b)),
    λ (xs, c).
        let (h, b) = none_missing bytes lent taken out room l xs c in
        let (i, a, n) = marked_numbers m ok c in
        (number_of plan l xs, h, (state_number bytes lent taken l xs i a.region).1, b),
  )

  -- With every drift above 0 some widened run enters a location exactly where some state of it has a mark of 1.
  pub entered_exactly : (l : ℕ) → MarkIn bytes l (output bytes lent out) ↔ Entered plan l
  entered_exactly l =
      let r = (location_right m ok (accepted_resets bytes (taken_in bytes lent taken)) l).0 in
      let s = mark_law l in
      (λ c. r.0 (s.0 c), λ E. s.1 (r.1 E))

  -- Exactly where none has, some drift above 0 never enters it.
  pub unentered_exactly : (l : ℕ) → (MarkIn bytes l (output bytes lent out) → ⊥) ↔ ((A : ℕ) × NeverEntered plan l A)
  unentered_exactly l =
      let r = (location_right m ok (accepted_resets bytes (taken_in bytes lent taken)) l).1 in
      let s = mark_law l in
      (λ none. r.0 (λ c. none (s.1 c)), λ E c. r.1 E (s.0 c))
