-- After x turns the ends and the first x guards are laid.
use native.Mathlib.Omega.{arith}
use mathlib.Core.List.{[], ◌∷◌}
use Rattle.parser.specs.Parse.{reading_of}
use Rattle.canonical.specs.Canonical.{guard_numbers}
use Rattle.plan_writer.proofs.Laid.{room_first, laid_first, laid_next, room_next}
use Rattle.plan_writer.proofs.put_edge.Goals as goal

pub put_numbers-end-requires : goal.put_numbers-end-requires
put_numbers-end-requires c = room_first _ (_ ∷ _ ∷ _ ∷ []) _ c.requires.room

pub loop-x-init : goal.loop-x-init
loop-x-init c = laid_first (_ ∷ _ ∷ _ ∷ []) (guard_numbers (reading_of c.args.plan.now) c.args.e) c.put_numbers-end.ensures

pub put_numbers-end-requires-in-loop-x : goal.put_numbers-end-requires-in-loop-x
put_numbers-end-requires-in-loop-x c =
    room_next (_ ∷ _ ∷ _ ∷ []) (guard_numbers (reading_of c.args.plan.now) c.args.e) c.args.plan.now.model.clocks _ c.requires.room c.loop-x.invariant (omega arith)

pub loop-x-preserved : goal.loop-x-preserved
loop-x-preserved c =
    laid_next (_ ∷ _ ∷ _ ∷ []) (guard_numbers (reading_of c.args.plan.now) c.args.e) _ c.loop-x.invariant c.put_numbers-end-in-loop-x.ensures
