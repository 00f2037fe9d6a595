-- After as many turns the marks are those of as many rounds.
use mathlib.Core.Path.{◌≡◌}
use Rattle.std.specs.Prelude.{map}
use Rattle.model.specs.Each.{each}
use Rattle.edge_walks.specs.Opening.{flag_of, flag_at}
use Rattle.edge_walks.specs.Cycle.{round_of}
use Rattle.edge_walks.proofs.cycle.survivors.Given as goal

abbrev pub invariant-loop : goal.invariant-loop
invariant-loop l = map flag_of l.a ≡ each l.counter (λ _ b. round_of l.m (flag_at l.flags) b) (map flag_of l.initial.a)
