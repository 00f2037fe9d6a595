use Rattle.std.proofs.Common.{rules, arith}
use Rattle.printing.proofs.Writes.{growing}
use Rattle.search_cases.proofs.cases.Goals as goal

pub loop-p-preserved : goal.loop-p-preserved
loop-p-preserved g c = record { in_bounds = omega arith; grown = search (rules, growing) }

pub returns-in_err-answer : goal.returns-in_err-answer
returns-in_err-answer g c = search (rules, growing)
