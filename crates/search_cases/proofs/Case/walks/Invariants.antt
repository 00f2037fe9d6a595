use Rattle.printing.specs.Text.{Grows}
use Rattle.search_cases.proofs.Case.walks.Given as goal

abbrev pub invariant-loop-q : goal.invariant-loop-q
invariant-loop-q g l = Grows (g.W.Write.contents l.fn.to) (g.W.Write.contents l.to)
