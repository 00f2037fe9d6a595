use Rattle.std.proofs.Common.{rules, arith}
use Rattle.printing.proofs.Writes.{growing}
use Rattle.cases.proofs.cases.Goals as goal

pub returns-in_err-show-clause-grows : goal.returns-in_err-show-clause-grows
returns-in_err-show-clause-grows g c = search (rules, growing)

pub loop-p-preserved : goal.loop-p-preserved
loop-p-preserved g c = record {
  further = omega arith;
  in_bounds = omega arith;
  grown = search (rules, growing);
}
