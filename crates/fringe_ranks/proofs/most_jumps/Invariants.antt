-- `fringe_ranks::most_jumps` meets its contract. The invariant: `most` is the greatest rank that a step passed gives.
use Prim.Native.Nat.{◌+◌}
use mathlib.Core.Path.{◌≡◌}
use lib.ListN.{get_or, length}
use Rattle.std.specs.Prelude.{unwrap_or}
use Rattle.fringe_ranks.specs.Ranks.{rank_upto}
use Rattle.fringe_ranks.proofs.most_jumps.Given as goal

abbrev pub invariant-loop-q : goal.invariant-loop-q
invariant-loop-q l = l.most ≡ rank_upto l.targets l.flags l.ranks (unwrap_or l.later (length l.flags)) (get_or l.first l.p 0) (get_or l.first l.p 0 + l.q-index)
