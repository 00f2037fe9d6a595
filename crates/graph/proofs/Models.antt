-- The system of a lawful model keeps the laws that the theory of evidence asks for. Its marked numbers are the marked states, and a set of
-- numbers that is closed under time and jump covers slight drift. A face of an allowed state is allowed.
use Prim.Native.Nat.{ℕ, ◌+◌, ◌<◌}
use mathlib.Core.Path.{◌≡◌, subst}
use mathlib.Core.Bool.{Bool, true, false}
use mathlib.Core.Logic.{◌↔◌}
use mathlib.Core.List.{List}
use Rattle.theory.specs.System.{Laws}
use Rattle.theory.specs.Labels.{LabelledLaws}
use Rattle.theory.specs.Marked.{step, marks, unsafe}
use Rattle.theory.specs.Levels.{mark}
use Rattle.theory.specs.Rounds.{MarkedAfter, NewAfter, Rounds, rounds, StepOn, start_on}
use Rattle.theory.specs.Sheet.{sheet_test}
use Rattle.theory.specs.Automaton.{Steady}
use Rattle.theory.specs.Region.{Region, fits, face}
use Rattle.theory.specs.RegionGraph.{Allowed, Marked, ForbiddenMarked}
use Rattle.theory.specs.StateGraph.{location_of, region_of, number_of, allowed_state}
use Rattle.theory.proofs.Marked.{marks_law}
use Rattle.theory.proofs.Region.{fits_law}
use Rattle.theory.proofs.RegionSteps.{face-fits}
use Rattle.theory.proofs.StateGraph.{allowed_state_law, region_lawful}
use Rattle.model.specs.declared.Model.{Model}
use Rattle.model.specs.Model.{Lawful}
use Rattle.graph.specs.Plan.{automaton_of, system_of_model, labelled_of_model}
use Rattle.graph.specs.States.{states}
use Rattle.graph.proofs.Plan.{capped, within}
use Rattle.theory.specs.Marked as marked
use Rattle.theory.proofs.StateGraph as state_graph
use Rattle.theory.proofs.StateMarked as state_marked
use Rattle.theory.proofs.StateRounds as state_rounds

module _ (m : Model) (ok : Lawful m) where
  pub system_laws : Laws (system_of_model m)
  system_laws = state_graph.system_laws (automaton_of m) m.locations (within m ok) (capped m ok)

  pub labelled_laws : LabelledLaws (labelled_of_model m)
  labelled_laws = state_graph.labelled_laws (automaton_of m) m.locations (within m ok) (capped m ok)

  -- the marked numbers are the marked states
  pub marked_law : (p : ℕ) → p < states m
      → marked.MarkedIn (system_of_model m) p ↔ Marked (automaton_of m) (location_of (automaton_of m) p) (region_of (automaton_of m) p)
  marked_law = state_marked.marked_law (automaton_of m) m.locations (within m ok) (capped m ok)

  pub marks-states : (p : ℕ) → p < states m
      → (marks (system_of_model m) p ≡ true) ↔ Marked (automaton_of m) (location_of (automaton_of m) p) (region_of (automaton_of m) p)
  marks-states p h =
      let n = marks_law (system_of_model m) system_laws p in
      let s = marked_law p h in
      (λ e. s.0 (n.0 e), λ c. n.1 (s.1 c))

  -- each marked state is allowed, in a location, and its number is marked
  pub marked_numbers : {l : ℕ} {xs : Region} → Marked (automaton_of m) l xs
      → (l < m.locations) × Allowed (automaton_of m) l xs × marked.MarkedIn (system_of_model m) (number_of (automaton_of m) l xs)
  marked_numbers = state_marked.marked_numbers (automaton_of m) m.locations (within m ok) (capped m ok)

  -- the number of rounds that mark them; a state is new after as many as its distance
  pub rounds_law : (r : ℕ) → Rounds (StepOn (automaton_of m)) (start_on (automaton_of m)) r ↔ (r ≡ rounds (system_of_model m))
  rounds_law = state_rounds.rounds_states (automaton_of m) m.locations (within m ok) (capped m ok)

  pub rounds_mark : (r : ℕ) → Rounds (StepOn (automaton_of m)) (start_on (automaton_of m)) r → (l : ℕ) (xs : Region)
      → Marked (automaton_of m) l xs ↔ MarkedAfter (StepOn (automaton_of m)) (start_on (automaton_of m)) r (l, xs)
  rounds_mark = state_rounds.rounds_mark (automaton_of m) m.locations (within m ok) (capped m ok)

  pub new_law : (k p : ℕ) → p < states m
      → NewAfter (StepOn (automaton_of m)) (start_on (automaton_of m)) k (location_of (automaton_of m) p, region_of (automaton_of m) p)
      ↔ (mark (system_of_model m).size (step (system_of_model m)) (system_of_model m).start p ≡ k + 1)
  new_law = state_rounds.new_states (automaton_of m) m.locations (within m ok) (capped m ok)

  -- the verdict: unsafe just if a marked state is in a forbidden location, safe just if none is
  pub unsafe_states : (unsafe (system_of_model m) ≡ true) ↔ ForbiddenMarked (automaton_of m)
  unsafe_states = state_marked.unsafe_states (automaton_of m) m.locations (within m ok) (capped m ok)

  pub safe_states : (unsafe (system_of_model m) ≡ false) ↔ (ForbiddenMarked (automaton_of m) → ⊥)
  safe_states = state_marked.safe_states (automaton_of m) m.locations (within m ok) (capped m ok)

  -- a set of numbers that has the start, is closed under time and jump, and has no forbidden state covers slight drift
  pub covers : (is_in : ℕ → Bool) → is_in (system_of_model m).start ≡ true
      → ((p q : ℕ) → is_in p ≡ true → (system_of_model m).flow p q ≡ true → is_in q ≡ true)
      → ((p : ℕ) → p < states m → is_in p ≡ true → (system_of_model m).forbidden p ≡ false)
      → Steady (automaton_of m)
  covers = state_marked.covers (automaton_of m) m.locations (within m ok) (capped m ok)

  -- so a passing sheet covers every widened run of at most K jumps with (K+1)e < D
  pub sheet_covers : (l : List ℕ) → sheet_test (system_of_model m) l ≡ true → Steady (automaton_of m)
  sheet_covers = state_marked.sheet_covers (automaton_of m) m.locations (within m ok) (capped m ok)

  -- a state of the location of an allowed state is allowed where its region is a face of the other's
  pub face_allowed : (p q : ℕ) → q < states m → allowed_state (automaton_of m) m.locations p ≡ true
      → location_of (automaton_of m) p ≡ location_of (automaton_of m) q → face (region_of (automaton_of m) p) (region_of (automaton_of m) q) ≡ true
      → allowed_state (automaton_of m) m.locations q ≡ true
  face_allowed p q i t s f =
      let a = automaton_of m in
      let limits = a.invariant (location_of a p) in
      let (h, b) = (allowed_state_law a m.locations p).0 t in
      let e = face-fits (region_of a p) (region_of a q) limits ((fits_law (region_of a p) limits).1 b.stays) f in
      let c = subst (λ l. fits (region_of a q) (a.invariant l) ≡ true) s e in
      let stays = (fits_law (region_of a q) (a.invariant (location_of a q))).0 c in
      (allowed_state_law a m.locations q).1 (i, record { region = region_lawful a m.locations q i; stays = stays })
