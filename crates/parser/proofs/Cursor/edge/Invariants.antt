-- After x turns the reading is where x rounds lead.
use mathlib.Core.Path.{◌≡◌}
use Rattle.model.specs.Each.{each}
use Rattle.parser.specs.Parse.{going, ends_at, guard_at}
use Rattle.parser.specs.Cursor.{SameHeader}
use Rattle.parser.proofs.Cursor.edge.Given as goal

abbrev pub invariant-loop-x : goal.invariant-loop-x
invariant-loop-x l = record {
  read : each l.x (guard_at l.fn.self.bytes.now l.fn.m.ceiling l.e)
      (ends_at l.fn.self.bytes.now l.fn.m.clocks l.fn.m.locations l.e (going l.fn.self.at l.fn.m)) ≡ going l.self.at l.m;
  bytes : l.self.bytes ≡ l.fn.self.bytes;
  same : SameHeader l.fn.m l.m;
}
