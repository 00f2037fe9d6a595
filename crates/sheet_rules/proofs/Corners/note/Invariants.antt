-- `Corners::note` meets its contract. The invariant: the corners in the slots passed are noted.
use Rattle.sheet_rules.proofs.Notes.{PartNoted}
use Rattle.sheet_rules.proofs.Corners.note.Given as goal

abbrev pub invariant-loop-v : goal.invariant-loop-v
invariant-loop-v l = PartNoted l.self.sheet.now l.self.slots.now l.noted l.self.base l.i l.v-index
