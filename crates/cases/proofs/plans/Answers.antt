use Rattle.std.proofs.Common.{rules}
use Rattle.printing.proofs.Writes.{growing}
use Rattle.cases.proofs.plans.Goals as goal

pub returns-in_err-p : goal.returns-in_err-p
returns-in_err-p g c = search (rules, growing)

pub loop-p-preserved : goal.loop-p-preserved
loop-p-preserved g c = record {
  in_bounds = c.in_ok-p.ensures.next.1;
  grown = search (rules, growing);
}
