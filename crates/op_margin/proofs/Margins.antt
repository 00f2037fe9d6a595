-- The ways of the margin: the model refused, or its bound.
use Prim.Native.Nat.{ℕ}
use mathlib.Core.Path.{◌≡◌, sym, ap, ◌∙◌}
use mathlib.Core.List.{List, [], ◌∷◌}
use Rattle.std.specs.Prelude.{Result, Ok, Err, IsErrAnd}
use Rattle.limits.specs.declared.refusal.Refusal.{Refusal}
use Rattle.model.specs.declared.Plan.{Plan}
use Rattle.parser.specs.Parse.{Reading, numbered}
use Rattle.plan_reader.specs.Accept.{read_model}
use Rattle.graph.specs.Plan.{automaton_of}
use Rattle.graph.specs.States.{states}
use Rattle.robust.specs.Margin.{margin}
use Rattle.call.proofs.Calls.{passed_told, told, refused_told}
use Rattle.op_margin.specs.declared.Tolerance.{Tolerance}
use Rattle.op_margin.specs.Margin.{margin_answer, tolerance_values, tolerance_answer}

module _ (bytes : List ℕ) where
  pub margin_refused : (x : Result Tolerance Refusal) (r : Refusal) → IsErrAnd x (λ e. e ≡ r) → numbered (Err r) ≡ read_model bytes
      → tolerance_answer x ≡ margin_answer bytes
  unfolding margin_answer
  margin_refused x r h e = passed_told tolerance_values x r h ∙ refused_told _ r _ (ap (λ (x : Reading). x.refusal) (sym e))

  pub margin_done : (p : Plan) → numbered (Ok p) ≡ read_model bytes → (s : ℕ) → s ≡ states p.model
      → (a : ℕ) → a ≡ margin (automaton_of p.model) p.model.locations → record { number = 0; values = s ∷ a ∷ [] } ≡ margin_answer bytes
  unfolding margin_answer
  margin_done p e s f a g =
      told _ _ _ (ap (λ (x : Reading). x.refusal) (sym e))
      (rw (f, g) (ap (λ (x : Reading). states x.model ∷ margin (automaton_of x.model) x.model.locations ∷ []) e))
