-- After e turns the marks are those of e edges.
use mathlib.Core.Path.{◌≡◌}
use Rattle.std.specs.Prelude.{map}
use Rattle.model.specs.Each.{each}
use Rattle.edge_walks.specs.Opening.{flag_of, flag_at}
use Rattle.edge_walks.specs.Cycle.{mark_edge}
use Rattle.edge_walks.proofs.cycle.round.Given as goal

abbrev pub invariant-loop-e : goal.invariant-loop-e
invariant-loop-e l = map flag_of l.b ≡ each l.e (mark_edge l.m (flag_at l.flags) (map flag_of l.a)) (map flag_of l.initial.b)
