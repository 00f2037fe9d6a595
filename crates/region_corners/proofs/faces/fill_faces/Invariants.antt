-- `faces::fill_faces` meets its contract. The invariant: the rows of the regions passed hold their faces.
use Rattle.region_corners.proofs.FaceRows.{Laying}
use Rattle.region_corners.proofs.faces.fill_faces.Given as goal

abbrev pub invariant-loop-i : goal.invariant-loop-i
invariant-loop-i l = Laying l.n l.ceiling l.faces l.corners l.shapes l.i l.at
