-- What the reading of a model's sheet is asked and tells.
use mathlib.Core.Path.{◌≡◌, refl, sym, ap, fun_ext, ◌∙◌}
use mathlib.Core.Bool.{Bool, true, false}
use mathlib.Core.List.{List}
use Prim.Native.Nat.{ℕ, ◌-◌, ◌*◌, ◌<◌}
use native.Mathlib.Omega.{arith}
use native.Mathlib.Decide.{dec_lt}
use lib.ListN.{length, get_or-eq_default}
use lib.Dec.{eqb}
use borrow.Author.Tests.{le-ltb}
use Rattle.theory.specs.Below.{bit}
use Rattle.theory.specs.StateGraph.{allowed_state, system_of}
use Rattle.model.specs.declared.Model.{Model}
use Rattle.graph.specs.Plan.{automaton_of, system_of_model}
use Rattle.graph.specs.States.{states}
use Rattle.graph.proofs.Plan.{some_regions}
use Rattle.successors.specs.Flags.{AllowedFlags}
use Rattle.successors.specs.Flow.{regions_in}
use Rattle.successors.proofs.Room.{states_limit}
use Rattle.evidence_number.specs.Numbers.{Numbers}
use Rattle.sheet_numbers.specs.Numbers.{SheetRoom, numbers_from, flagged}
use Rattle.sheet_rules.proofs.Keeps.{location_room}
use Rattle.sheet.specs.Answer.{sheet_numbers, Lent}

eqb-bit : (b : Bool) → eqb (bit b) 1 ≡ b
eqb-bit true = refl
eqb-bit false = refl

module _ (m : Model) (allowed : List ℕ) (A : AllowedFlags m allowed) where
  flags_are : flagged allowed ≡ (system_of_model m).allowed
  unfolding system_of allowed_state
  flags_are = fun_ext (λ p. by p (dec_lt p (states m)))
    where
      by : (p : ℕ) → Dec (p < states m) → flagged allowed p ≡ allowed_state (automaton_of m) m.locations p
      by p (yes b) = ap (λ (x : ℕ). eqb x 1) (A.is p b) ∙ eqb-bit (allowed_state (automaton_of m) m.locations p)
      by p (no b) =
          ap (λ (x : ℕ). eqb x 1) (get_or-eq_default allowed 0 (omega (arith, A.long))) ∙ rw (le-ltb p (states m) (omega arith))

module _ {m : Model} {allowed first targets shapes sheet : List ℕ} (E : Lent m allowed first targets shapes sheet) where
  pub read_asked : SheetRoom allowed sheet
  read_asked =
      let ok = E.filled.lawful in
      let r = some_regions m in
      let b = location_room 0 m.locations (regions_in m) (states m) refl ok.locations.0 in
      record {
        some = omega (arith, E.long);
        fits = omega (arith, E.long, states_limit ok);
        flags = E.flags.long ∙ sym E.long;
      }

  -- what was read
  pub read_told : (bs : List ℕ) (at : ℕ) (n : Numbers)
      → n ≡ numbers_from (flagged allowed) (2 * length sheet - 1) bs (length sheet) 0 at → sheet_numbers (system_of_model m) bs at ≡ n
  unfolding system_of
  read_told bs at n e = sym (rw (E.long, flags_are m allowed E.flags) at e)
