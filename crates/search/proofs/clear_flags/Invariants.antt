-- `search::clear_flags` meets its contract. The invariant: the places passed have lost their flag.
use Rattle.search.proofs.Flags.{Cleared}
use Rattle.search.proofs.clear_flags.Given as goal

abbrev pub invariant-loop-p : goal.invariant-loop-p
invariant-loop-p l = Cleared l.initial.level l.level l.p
