-- `fringe_ranks::link_heights` meets its contract. The invariant: the chains lead through the states passed.
use Rattle.region_corners.proofs.Links.{ChainsUpto}
use Rattle.fringe_ranks.specs.Ranks.{heights_in}
use Rattle.fringe_ranks.proofs.link_heights.Given as goal

abbrev pub invariant-loop-p : goal.invariant-loop-p
invariant-loop-p l = ChainsUpto (heights_in l.sheet) l.heads l.links l.p
