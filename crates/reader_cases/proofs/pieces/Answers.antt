use Rattle.std.proofs.Common.{rules}
use Rattle.printing.proofs.Writes.{growing}
use Rattle.reader_cases.proofs.pieces.Goals as goal

pub returns-in_err-show_bytes : goal.returns-in_err-show_bytes
returns-in_err-show_bytes g c = search (rules, growing)

pub returns-in_err-ask_all : goal.returns-in_err-ask_all
returns-in_err-ask_all g c = search (rules, growing)

pub loop-count-preserved : goal.loop-count-preserved
loop-count-preserved g c = search (rules, growing)
