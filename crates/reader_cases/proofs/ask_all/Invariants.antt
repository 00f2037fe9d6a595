use Rattle.std.proofs.Common.{◌-◌, length}
use Rattle.printing.specs.Text.{Grows}
use Rattle.reader_cases.proofs.ask_all.Given as goal

abbrev pub invariant-loop-found : goal.invariant-loop-found
invariant-loop-found g l = Grows (g.W.Write.contents l.fn.to) (g.W.Write.contents l.to)

abbrev pub decreases-loop-found : goal.decreases-loop-found
decreases-loop-found g l = length l.reader.bytes.now - l.reader.at
