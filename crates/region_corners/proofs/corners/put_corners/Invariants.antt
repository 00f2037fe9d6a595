-- `corners::put_corners` meets its contract. The invariant: the slots passed hold corners of the region.
use Rattle.region_corners.specs.Corners.{CornersFrom}
use Rattle.region_corners.proofs.corners.put_corners.Given as goal

abbrev pub invariant-loop-t : goal.invariant-loop-t
invariant-loop-t l = CornersFrom l.g l.s l.t l.initial.corner l.corner
