-- `marks::restore_marks` meets its contract. The invariant: the numbers passed are the flags.
use Prim.Native.Nat.{ℕ, ◌<◌}
use mathlib.Core.Path.{◌≡◌}
use lib.ListN.{get_or}
use Rattle.survey.proofs.marks.restore_marks.Given as goal

abbrev pub invariant-loop-p : goal.invariant-loop-p
invariant-loop-p l = ((k : ℕ) → k < l.p → get_or l.distance k 0 ≡ get_or l.flags k 0)
