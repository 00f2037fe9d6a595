-- The time successor of a state, as the code is told it.
use mathlib.Core.Path.{◌≡◌, sym, ◌∙◌}
use Prim.Native.Nat.{ℕ, ◌<◌}
use native.Mathlib.Nat.{le_antisymm}
use native.Mathlib.Decide.{ℕ_discrete}
use native.Mathlib.Omega.{arith}
use lib.Dec.{eqb}
use borrow.Author.Tests.{eq-eqb, ne_eqb}
use Rattle.std.specs.Prelude.{Option, Some, None, nat_eq, unwrap_or}
use Rattle.std.specs.Option.{option_eq}
use Rattle.theory.specs.StateGraph.{time_from}
use Rattle.theory.proofs.StateGraph.{time_most}
use Rattle.model.specs.declared.Model.{Model}
use Rattle.graph.specs.Plan.{automaton_of}
use Rattle.graph.specs.States.{states, next_of}
use Rattle.graph.proofs.Numbers.{next_to, next_none}

-- S stands for none
pub later_is : (m : Model) (p n : ℕ) → n ≡ states m → (o : Option ℕ) → o ≡ next_of m (time_from (automaton_of m) m.locations p)
    → unwrap_or o n ≡ time_from (automaton_of m) m.locations p
later_is m p n s (Some q) e = sym (next_to m (time_from (automaton_of m) m.locations p) q (sym e)).0
later_is m p n s None e =
    s ∙ le_antisymm (next_none m (time_from (automaton_of m) m.locations p) (sym e)) (time_most (automaton_of m) m.locations p)

swapped : (s q : ℕ) → eqb s q ≡ eqb q s
swapped s q = by (ℕ_discrete s q)
  where
    by : Dec (s ≡ q) → eqb s q ≡ eqb q s
    by (yes e) = eq-eqb s q e ∙ sym (eq-eqb q s (sym e))
    by (no n) = ne_eqb s q n ∙ sym (ne_eqb q s (λ e. n (sym e)))

-- whether a state is the one told
pub told_is : (o : Option ℕ) (q n : ℕ) → q < n → option_eq nat_eq o (Some q) ≡ eqb q (unwrap_or o n)
told_is (Some s) q n h = swapped s q
told_is None q n h = sym (ne_eqb q n (λ e. omega arith))
