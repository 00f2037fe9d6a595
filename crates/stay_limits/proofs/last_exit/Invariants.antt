-- After e turns it is the greatest of the first e edges.
use mathlib.Core.Path.{◌≡◌}
use Rattle.stay_limits.specs.Stay.{source_in, high_in, one_more, last_exit}
use Rattle.stay_limits.proofs.last_exit.Given as goal

abbrev pub invariant-loop-e : goal.invariant-loop-e
invariant-loop-e l = one_more l.last ≡ last_exit (source_in l.source) (high_in l.upper l.x) l.l l.e
