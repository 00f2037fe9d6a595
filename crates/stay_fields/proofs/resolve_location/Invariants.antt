-- After x turns the model is that of x rounds.
use mathlib.Core.Path.{◌≡◌}
use Rattle.model.specs.Model.{slot, with_invariant}
use Rattle.stay_fields.specs.Resolve.{meant_at}
use Rattle.model.specs.Each.{each}
use Rattle.stay_fields.proofs.resolve_location.Given as goal

abbrev pub invariant-loop-x : goal.invariant-loop-x
invariant-loop-x l = l.t ≡ each l.x (λ x u. with_invariant u (slot l.l x) (meant_at l.mark l.m l.l x)) l.initial.t
