-- `corners::fill_corners` meets its contract. The invariant: the slots of the regions passed hold their corners.
use Rattle.region_corners.proofs.Slots.{Placed}
use Rattle.region_corners.proofs.corners.fill_corners.Given as goal

abbrev pub invariant-loop-i : goal.invariant-loop-i
invariant-loop-i l = Placed l.n l.ceiling l.corner l.i
