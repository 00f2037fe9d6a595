-- `edges::fill_words` meets its contract. The invariant: the words of the edges below e are put.
use mathlib.Core.Path.{◌≡◌}
use lib.ListN.{length}
use Rattle.successors.specs.Words.{WordsBelow}
use Rattle.successors.proofs.edges.fill_words.Given as goal

abbrev pub invariant-loop-e : goal.invariant-loop-e
invariant-loop-e l = (length l.words ≡ length l.initial.words) × WordsBelow l.plan.model l.e l.words
