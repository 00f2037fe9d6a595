-- After l turns the model is that of l rounds.
use mathlib.Core.Path.{◌≡◌}
use Rattle.stay_fields.specs.Resolve.{resolved_at}
use Rattle.model.specs.Each.{each}
use Rattle.stay_fields.proofs.resolve_model.Given as goal

abbrev pub invariant-loop-l : goal.invariant-loop-l
invariant-loop-l l = l.t ≡ each l.l (resolved_at l.mark l.m) l.initial.t
