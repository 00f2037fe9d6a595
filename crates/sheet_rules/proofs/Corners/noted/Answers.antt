-- `Corners::noted` meets its contract.
use Rattle.sheet_rules.proofs.Notes.{noted_none}
use Rattle.sheet_rules.proofs.Corners.noted.Goals as goal

pub loop-i-init : goal.loop-i-init
loop-i-init c = noted_none _ _ _
