use Rattle.printing.specs.Text.{Grows}
use Rattle.reader_cases.proofs.show_bytes.Given as goal

abbrev pub invariant-loop-byte : goal.invariant-loop-byte
invariant-loop-byte g l = Grows (g.W.Write.contents l.fn.to) (g.W.Write.contents l.to)
