-- The loop keeps the stack empty, and the nodes passed are not new.
use Prim.Native.Nat.{ℕ, ◌<◌}
use mathlib.Core.Path.{◌≡◌}
use Rattle.component.specs.Stack.{at}
use Rattle.component.specs.Held.{Idle, Same}
use Rattle.component.proofs.Pass.explore_all.Given as goal

abbrev pub invariant-loop-s : goal.invariant-loop-s
invariant-loop-s l = record {
  idle : Idle l.graph l.self;
  reached : (j : ℕ) → j < l.s → at l.self.mark.now j ≡ 0 → ⊥;
  same : Same l.initial.self l.self;
}
