-- After e turns the reading is where e rounds lead.
use mathlib.Core.Path.{◌≡◌}
use Rattle.model.specs.Each.{each}
use Rattle.parser.specs.Parse.{going, parse_edge}
use Rattle.parser.specs.Cursor.{SameHeader}
use Rattle.parser.proofs.Cursor.edges.Given as goal

abbrev pub invariant-loop-e : goal.invariant-loop-e
invariant-loop-e l = record {
  read : each l.e (parse_edge l.fn.self.bytes.now l.fn.m.clocks l.fn.m.ceiling l.fn.m.locations) (going l.fn.self.at l.fn.m) ≡ going l.self.at l.m;
  bytes : l.self.bytes ≡ l.fn.self.bytes;
  same : SameHeader l.fn.m l.m;
}
