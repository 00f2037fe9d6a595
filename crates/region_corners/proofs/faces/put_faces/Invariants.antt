-- `faces::put_faces` meets its contract. The invariant: the faces passed, of the row of the region's ranks, are looked up.
use Rattle.region_corners.proofs.Lookups.{Looking}
use Rattle.region_corners.proofs.faces.put_faces.Given as goal

abbrev pub invariant-loop-x : goal.invariant-loop-x
invariant-loop-x l = Looking l.index l.base l.at l.row l.initial.faces l.faces l.x-index l.end
