use Rattle.printing.specs.Text.{Grows}
use Rattle.search_cases.proofs.show_words.Given as goal

abbrev pub invariant-loop-number : goal.invariant-loop-number
invariant-loop-number g l = Grows (g.W.Write.contents l.fn.to) (g.W.Write.contents l.to)
