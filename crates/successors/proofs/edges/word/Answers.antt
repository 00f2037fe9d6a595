-- `edges::word` meets its contract.
use borrow.Author.Rules.{rules}
use Rattle.successors.specs.Words.{edge_word}
use Rattle.successors.proofs.edges.word.Goals as goal

pub returns : goal.returns
unfolding edge_word
returns c = search rules
