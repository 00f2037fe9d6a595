-- `fringe_ranks::fringe_entries` meets its contract. The invariant: the fringe states below height h have their ranks.
use Rattle.fringe_ranks.specs.Ranks.{RankedUpto}
use Rattle.fringe_ranks.proofs.fringe_entries.Given as goal

abbrev pub invariant-loop-h : goal.invariant-loop-h
invariant-loop-h l = RankedUpto l.space.plan.now.model l.sheet l.h l.ranks l.entries
