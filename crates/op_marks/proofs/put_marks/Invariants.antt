-- `op_marks::put_marks` meets its contract.
use lib.Dec.{ltb}
use Prim.Native.Nat.{ℕ, ◌<◌}
use mathlib.Core.Path.{◌≡◌}
use lib.ListN.{length, get_or}
use Rattle.theory.specs.Below.{bit}
use Rattle.op_marks.proofs.put_marks.Given as goal

abbrev pub invariant-loop-p : goal.invariant-loop-p
invariant-loop-p l = (length l.out ≡ length l.initial.out) × ((k : ℕ) → k < l.p → get_or l.out k 0 ≡ bit (ltb 0 (get_or l.distances k 0)))
