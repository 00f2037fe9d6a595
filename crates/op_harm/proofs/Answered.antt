-- What the call says: refused, or what is found.
use Prim.Native.Nat.{ℕ}
use mathlib.Core.Path.{◌≡◌, refl}
use mathlib.Core.Bool.{Bool, true, false, cond}
use mathlib.Core.List.{List, [], ◌∷◌}
use Rattle.number.specs.Answer.{answer}
use Rattle.theory.specs.Below.{bit}
use Rattle.theory.specs.Marked.{unsafe}
use Rattle.model.specs.declared.Model.{Model}
use Rattle.graph.specs.Plan.{system_of_model}
use Rattle.graph.specs.States.{states}
use Rattle.trail_delay.specs.Ours.{our_delay}
use Rattle.outlook.specs.declared.Outlook.{Outlook}
use Rattle.outlook.specs.Outlook.{outlook_for}
use Rattle.call.specs.Admitted.{called}
use Rattle.call.specs.Call.{model_of}
use Rattle.call.proofs.Calls.{called_plain}
use Rattle.op_harm.specs.Harm.{harm_values, harm_in, harm_answer}

-- the answer, from what is said past number 8
pub harm_said : (bytes lent : List ℕ) → called (answer 0 (harm_values (model_of bytes))) bytes lent ≡ harm_answer bytes lent
unfolding harm_answer
harm_said bytes lent = called_plain bytes lent _

-- what is found gives the values
pub found_values : (m : Model) (s : ℕ) (x : Outlook) → s ≡ states m → x ≡ outlook_for true m → harm_in s x ≡ harm_values m
unfolding harm_in harm_values outlook_for
found_values m s x e f = rw (e, f) (by (unsafe (system_of_model m)))
  where
    by : (b : Bool) → harm_in (states m) (cond b (Outlook.Unsafe (our_delay m).base (our_delay m).rate) (Outlook.Safe 0)) ≡ bit b ∷ states m ∷ cond b (our_delay m).base 0 ∷ cond b (our_delay m).rate 0 ∷ []
    by true = refl
    by false = refl
