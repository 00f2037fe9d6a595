-- `table::start_list` meets its contract: the list is computed from the definition, all of it.
use mathlib.Core.Path.{refl}
use Rattle.theory.specs.Lists.{same}
use Rattle.theory.specs.Region.{fits, lawful, corners, has_corner, face, regions}
use Rattle.region_corners.specs.Faces.{face_codes, face_rows}
use Rattle.region_corners.proofs.table.start_list.Goals as goal

pub returns : goal.returns
unfolding face_rows face_codes regions lawful fits face corners has_corner same
returns c = refl
