-- What the output holds in the end.
use Prim.Native.Nat.{ℕ, ◌≤◌, ◌<◌}
use native.Mathlib.Omega.{arith}
use mathlib.Core.Path.{◌≡◌, refl, ap}
use mathlib.Core.Bool.{Bool, true, false}
use mathlib.Core.Logic.{⊎_elim}
use mathlib.Core.List.{List, ◌∷◌}
use lib.ListN.{length}
use Rattle.graph.proofs.Plan.{size-states}
use Rattle.theory.specs.Marked.{unsafe}
use Rattle.theory.specs.Below.{tab}
use Rattle.theory.specs.Sheet.{our_sheet, number}
use Rattle.theory.specs.Trail.{trail_states}
use Rattle.theory.specs.WithoutTouch.{with_touch}
use Rattle.theory.proofs.Below.{either, tab-length}
use Rattle.theory.proofs.WithoutTouch.{with_touch_lem, labelled_with_touch_lem}
use Rattle.number.specs.Number.{spell_all}
use Rattle.number.proofs.Spelling.{spell_all_few}
use Rattle.model.specs.declared.Model.{Model}
use Rattle.model.specs.Model.{Lawful}
use Rattle.graph.specs.Plan.{system_of_model, labelled_of_model}
use Rattle.graph.specs.States.{states}
use Rattle.successors.proofs.Room.{states_limit}
use Rattle.spelling.specs.Lays.{Lays, max_bytes, filled}
use Rattle.spelling.proofs.Lays.{fills, fills_not}
use Rattle.evidence.specs.Ours.{our_sheet_numbers, our_trail_numbers, our_evidence}
use Rattle.evidence_writer.specs.Written.{evidence_by, verdict_with, written_for, written_by}
use Rattle.trail_writer.specs.Lent.{LeadsThrough}
use Rattle.trail_writer.specs.Path.{path_numbers}
use Rattle.trail_writer.proofs.Moves.{trail_most, touch_path, touch_few, touch_leads}

module _ (touch : Bool) (m : Model) where
  module _ (ok : Lawful m) (u : unsafe (with_touch touch (system_of_model m)) ≡ true) (path : List ℕ)
      (e : path ≡ trail_states (with_touch touch (system_of_model m))) where
    pub trail_goes : LeadsThrough m (system_of_model m).start path × (length path ≤ states m)
    trail_goes = rw e (touch_leads m ok touch u, omega (arith, touch_few m ok touch u))

    pub trail_is : spell_all (path_numbers m path) ≡ evidence_by touch m
    unfolding evidence_by
    trail_is = rw (u, e) (ap spell_all (touch_path m ok touch))

  pub sheet_is : unsafe (with_touch touch (system_of_model m)) ≡ false
      → spell_all (1 ∷ our_sheet (with_touch touch (system_of_model m))) ≡ evidence_by touch m
  unfolding evidence_by
  sheet_is u = rw u refl

  module _ {bs : List ℕ} (e : bs ≡ evidence_by touch m) where
    pub measured : {o o' : List ℕ} {r : ℕ} → Lays o o' 0 r bs → r ≡ length (evidence_by touch m)
    measured L = omega (arith, L.end, ap length e)

    pub laid_in : {o o₁ o' : List ℕ} {r : ℕ} → o₁ ≡ o → Lays o₁ o' 0 r bs → r ≤ length o → o' ≡ filled (evidence_by touch m) o
    laid_in = fills (evidence_by touch m) e

  pub left_out : {o o₁ : List ℕ} {r : ℕ} → o₁ ≡ o → r ≡ length (evidence_by touch m) → length o < r → o₁ ≡ filled (evidence_by touch m) o
  left_out = fills_not (evidence_by touch m)

-- ---- the answer

pub written_as : (touch : Bool) (m : Model) (bad : Bool) (need room : ℕ) → unsafe (with_touch touch (system_of_model m)) ≡ bad
    → need ≡ length (evidence_by touch m) → verdict_with bad need room ≡ written_by touch m room
unfolding written_by
written_as touch m bad need room u e = rw (u, e) refl

-- ---- with touch steps it is our evidence

pub evidence_by_touch : (m : Model) → evidence_by true m ≡ our_evidence m
unfolding evidence_by our_evidence our_trail_numbers our_sheet_numbers
evidence_by_touch m = rw (with_touch_lem (system_of_model m), labelled_with_touch_lem (labelled_of_model m)) refl

pub written_by_touch : (m : Model) (room : ℕ) → written_by true m room ≡ written_for m room
unfolding written_by written_for
written_by_touch m room = rw (with_touch_lem (system_of_model m), evidence_by_touch m) refl

-- ---- offsets are small

module _ (touch : Bool) (m : Model) (ok : Lawful m) where
  sheet_most : length (spell_all (1 ∷ our_sheet (with_touch touch (system_of_model m)))) ≤ max_bytes
  unfolding our_sheet with_touch
  sheet_most =
      let Y = with_touch touch (system_of_model m) in
      omega (arith, spell_all_few (1 ∷ tab Y.size (number Y)), tab-length Y.size (number Y), size-states m, states_limit ok)

  pub evidence_by_most : length (evidence_by touch m) ≤ max_bytes
  evidence_by_most =
      let Y = with_touch touch (system_of_model m) in
      ⊎_elim
      (λ u. rw (← trail_is touch m ok u (trail_states Y) refl) (trail_most m ok (trail_states Y) (trail_goes touch m ok u (trail_states Y) refl).1))
      (λ u. rw (← sheet_is touch m u) sheet_most)
      (either (unsafe Y))

pub evidence_most : (m : Model) → Lawful m → length (our_evidence m) ≤ max_bytes
evidence_most m ok = rw (← evidence_by_touch m) (evidence_by_most true m ok)
