-- The end of the steps left is the end of all; a label leads on, within the bytes.
use Prim.Native.Nat.{◌-◌, ◌≤◌}
use mathlib.Core.Path.{◌≡◌}
use lib.ListN.{length}
use Rattle.replay.specs.Steps.{steps_end}
use Rattle.replay.proofs.walk.steps_end.Given as goal

abbrev pub invariant-loop : goal.invariant-loop
invariant-loop l = (l.at ≤ l.p) × (l.p ≤ length l.bytes) × (steps_end l.bytes (l.count - l.counter) l.p ≡ steps_end l.bytes l.count l.at)
