-- The ways of the call: the model refused, or its room.
use Prim.Native.Nat.{ℕ, ◌-◌, ◌≤◌}
use native.Mathlib.Omega.{arith}
use mathlib.Core.Path.{◌≡◌, sym, ap, ◌∙◌}
use mathlib.Core.List.{List, [], ◌∷◌}
use Rattle.std.specs.Prelude.{Result, Ok, Err, IsErrAnd}
use Rattle.limits.specs.declared.refusal.Refusal.{Refusal}
use Rattle.limits.specs.Limits.{max_states}
use Rattle.theory.proofs.System.{start_below}
use Rattle.model.specs.declared.Model.{Model}
use Rattle.model.specs.Model.{Lawful}
use Rattle.model.specs.declared.Plan.{Plan}
use Rattle.parser.specs.Parse.{Reading, numbered}
use Rattle.plan_reader.specs.Accept.{read_model}
use Rattle.graph.specs.Plan.{system_of_model}
use Rattle.graph.specs.States.{states}
use Rattle.graph.proofs.Plan.{size-states}
use Rattle.graph.proofs.States.{states_limit}
use Rattle.graph.proofs.Models.{system_laws}
use Rattle.call.proofs.Calls.{passed_told, told, refused_told}
use Rattle.op_room.specs.declared.Space.{Space}
use Rattle.op_room.specs.Room.{sheet_limit, room_for, room_answer, space_values, space_answer}

-- the start is a state, and there are not too many
pub states_within : (m : Model) → Lawful m → (1 ≤ states m) × (states m ≤ max_states)
states_within m ok = (omega (arith, start_below (system_of_model m) (system_laws m ok), size-states m), states_limit m ok)

module _ (bytes : List ℕ) where
  pub room_refused : (x : Result Space Refusal) (r : Refusal) → IsErrAnd x (λ e. e ≡ r) → numbered (Err r) ≡ read_model bytes → space_answer x ≡ room_answer bytes
  unfolding room_answer
  room_refused x r h e = passed_told space_values x r h ∙ refused_told _ r _ (ap (λ (x : Reading). x.refusal) (sym e))

  pub room_told : (p : Plan) → numbered (Ok p) ≡ read_model bytes → (s limit : ℕ) → s ≡ states p.model → limit ≡ sheet_limit s
      → record { number = 0; values = s ∷ s ∷ limit ∷ (s - 1) ∷ [] } ≡ room_answer bytes
  unfolding room_answer room_for
  room_told p e s limit f g =
      told _ _ _ (ap (λ (x : Reading). x.refusal) (sym e)) (rw (g, f) (ap (λ (x : Reading). room_for (states x.model)) e))
