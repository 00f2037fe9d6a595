use Rattle.printing.specs.Text.{Grows}
use Rattle.cases.proofs.lent.show_bytes.Given as goal

abbrev pub invariant-loop-i : goal.invariant-loop-i
invariant-loop-i g l = Grows (g.W.Write.contents l.fn.to) (g.W.Write.contents l.to)
