-- `successors::fill_allowed` meets its contract. The invariant: the flags of the locations below l are set.
use Prim.Native.Nat.{◌*◌}
use Rattle.successors.specs.Flow.{regions_in}
use Rattle.successors.specs.Flags.{FlagsBelow}
use Rattle.successors.proofs.fill_allowed.Given as goal

abbrev pub invariant-loop-l : goal.invariant-loop-l
invariant-loop-l l = FlagsBelow l.space.plan.now.model (l.l * regions_in l.space.plan.now.model) l.allowed
