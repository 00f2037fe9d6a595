-- `fringe::fill_fringe` meets its contract. The invariant: the locations passed have the flags of the fringe.
use Prim.Native.Nat.{◌*◌}
use Rattle.fringe.specs.Flags.{FringeBelow}
use Rattle.fringe.proofs.fill_fringe.Given as goal

abbrev pub invariant-loop-l : goal.invariant-loop-l
invariant-loop-l l = FringeBelow l.fn.m l.sheet (l.l * l.regions) l.flags
