-- `Corners::noted` meets its contract. The invariant: the corners of the in-states passed are noted.
use Rattle.sheet_rules.specs.Rules.{Noted}
use Rattle.sheet_rules.proofs.Corners.noted.Given as goal

abbrev pub invariant-loop-i : goal.invariant-loop-i
invariant-loop-i l = Noted l.self.sheet.now l.self.slots.now l.noted l.self.base l.i
