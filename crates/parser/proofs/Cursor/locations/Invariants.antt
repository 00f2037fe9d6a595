-- After l turns the reading is where l rounds lead.
use mathlib.Core.Path.{◌≡◌}
use Rattle.model.specs.Each.{each}
use Rattle.parser.specs.Parse.{going, parse_location}
use Rattle.parser.specs.Cursor.{SameHeader}
use Rattle.parser.proofs.Cursor.locations.Given as goal

abbrev pub invariant-loop-l : goal.invariant-loop-l
invariant-loop-l l = record {
  read : each l.l (parse_location l.fn.self.bytes.now l.fn.m.clocks l.fn.m.ceiling) (going l.fn.self.at l.fn.m) ≡ going l.self.at l.m;
  bytes : l.self.bytes ≡ l.fn.self.bytes;
  same : SameHeader l.fn.m l.m;
}
