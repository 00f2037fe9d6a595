use Rattle.std.proofs.Common.{length}
use Rattle.printing.specs.Text.{Grows}
use Rattle.reader_cases.proofs.pieces.Given as goal

abbrev pub invariant-loop-count : goal.invariant-loop-count
invariant-loop-count g l = Grows (g.W.Write.contents l.fn.to) (g.W.Write.contents l.to)

abbrev pub decreases-loop-count : goal.decreases-loop-count
decreases-loop-count g l = length l.rest
