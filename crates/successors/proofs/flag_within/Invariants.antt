-- `successors::flag_within` meets its contract. The invariant: the flags of the first i regions are set.
use mathlib.Core.List.{[], ◌∷◌}
use Rattle.successors.specs.Flags.{Flagged}
use Rattle.successors.proofs.flag_within.Given as goal

abbrev pub invariant-loop-i : goal.invariant-loop-i
invariant-loop-i l = Flagged l.table (l.l1 ∷ l.l2 ∷ l.l3 ∷ []) l.base l.i l.initial.allowed l.allowed
