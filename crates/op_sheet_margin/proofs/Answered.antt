-- What the call says: refused, or what is found.
use Prim.Native.Nat.{ℕ}
use mathlib.Core.Path.{◌≡◌, refl}
use mathlib.Core.Bool.{Bool, true, false, cond}
use mathlib.Core.List.{List, [], ◌∷◌}
use Rattle.number.specs.Answer.{answer}
use Rattle.theory.specs.Below.{bit}
use Rattle.theory.specs.Marked.{unsafe}
use Rattle.model.specs.declared.Model.{Model}
use Rattle.graph.specs.Plan.{system_of_model}
use Rattle.graph.specs.States.{states}
use Rattle.outlook.specs.declared.Outlook.{Outlook}
use Rattle.outlook.specs.Outlook.{our_margin, outlook_for}
use Rattle.call.specs.Admitted.{called}
use Rattle.call.specs.Call.{model_of}
use Rattle.call.proofs.Calls.{called_plain}
use Rattle.op_sheet_margin.specs.SheetMargin.{bound_values, bound_in, sheet_margin_answer}

-- the answer, from what is said past number 8
pub sheet_margin_said : (bytes lent : List ℕ) → called (answer 0 (bound_values (model_of bytes))) bytes lent ≡ sheet_margin_answer bytes lent
unfolding sheet_margin_answer
sheet_margin_said bytes lent = called_plain bytes lent _

-- what is found gives the values
pub found_values : (m : Model) (s : ℕ) (x : Outlook) → s ≡ states m → x ≡ outlook_for false m → bound_in s x ≡ bound_values m
unfolding bound_in bound_values outlook_for
found_values m s x e f = rw (e, f) (by (unsafe (system_of_model m)))
  where
    by : (b : Bool) → bound_in (states m) (cond b (Outlook.Unsafe 0 0) (Outlook.Safe (our_margin m))) ≡ bit b ∷ states m ∷ cond b 0 (our_margin m) ∷ []
    by true = refl
    by false = refl
