-- `least_time::steps::take_next` meets its contract: a state is taken in, or nothing.
use native.Mathlib.Omega.{arith}
use Prim.Native.Nat.{ℕ}
use mathlib.Core.Path.{◌≡◌, sym, ap, ◌∙◌}
use Rattle.std.specs.Prelude.{Option, Some, None}
use Rattle.search.proofs.Queue.{takes_none, takes_same}
use Rattle.least_time.proofs.steps.take_next.Goals as goal

never : {r : Option ℕ} (q : ℕ) → r ≡ Some q → r ≡ None → ⊥
never q e d = let z : ◌≡◌ {A = ℕ} 0 1 = cc in omega arith

same-to : (q p : ℕ) → Some q ≡ Some p → q ≡ p
same-to q p e = cc

pub take-requires : goal.take-requires
take-requires c = (c.requires.0, c.requires.1 _ c.in-Some.is, c.requires.2)

pub returns-in-Some-clause-takes : goal.returns-in-Some-clause-takes
returns-in-Some-clause-takes c = takes_same c.take.ensures.takes (λ q e. c.in-Some.is ∙ ap Some (sym e)) (λ q e. same-to q _ (sym e ∙ c.in-Some.is))

pub returns-in_default-clause-takes : goal.returns-in_default-clause-takes
returns-in_default-clause-takes c = record { takes = takes_none c.requires.2; covers = λ q e. absurd (never q e c.in_default.is) }
