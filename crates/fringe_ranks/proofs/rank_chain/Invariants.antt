-- `fringe_ranks::rank_chain` meets its contract. The invariant: the states of height h without their ranks stand on the chain from `link`, which falls.
use Rattle.fringe_ranks.proofs.Along.{Along}
use Rattle.fringe_ranks.proofs.rank_chain.Given as goal

abbrev pub invariant-loop-link : goal.invariant-loop-link
invariant-loop-link l = Along l.space.plan.now.model l.sheet l.links l.h l.ranks l.entries l.link

abbrev pub decreases-loop-link : goal.decreases-loop-link
decreases-loop-link l = l.link
