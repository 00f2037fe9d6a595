-- `marks::keep_marks` meets its contract. The invariant: the flags passed tell which states have a distance.
use Prim.Native.Nat.{ℕ, ◌<◌}
use mathlib.Core.Path.{◌≡◌}
use lib.ListN.{get_or}
use lib.Dec.{ltb}
use Rattle.theory.specs.Below.{bit}
use Rattle.survey.proofs.marks.keep_marks.Given as goal

abbrev pub invariant-loop-p : goal.invariant-loop-p
invariant-loop-p l = ((k : ℕ) → k < l.p → get_or l.flags k 0 ≡ bit (ltb 0 (get_or l.distance k 0)))
