-- After x turns the kind and the first x stay fields are laid.
use native.Mathlib.Omega.{arith}
use mathlib.Core.List.{[], ◌∷◌}
use Rattle.parser.specs.Parse.{reading_of}
use Rattle.canonical.specs.Canonical.{stay_numbers}
use Rattle.plan_writer.proofs.Laid.{room_first, room_same, laid_first, laid_next, room_next, spelled_same}
use Rattle.plan_writer.proofs.put_location.Goals as goal

pub put-end-requires : goal.put-end-requires
put-end-requires c = room_first _ (_ ∷ []) _ c.requires.room

pub loop-x-init : goal.loop-x-init
loop-x-init c = laid_first (_ ∷ []) (stay_numbers (reading_of c.args.plan.now) c.args.l) c.put-end.ensures

pub put-end-requires-in-loop-x : goal.put-end-requires-in-loop-x
put-end-requires-in-loop-x c =
    let f = stay_numbers (reading_of c.args.plan.now) c.args.l in
    room_same _ _ _ (room_next (_ ∷ []) f c.args.plan.now.model.clocks _ c.requires.room c.loop-x.invariant (omega arith)) c.stay_field.ensures

pub loop-x-preserved : goal.loop-x-preserved
loop-x-preserved c =
    let f = stay_numbers (reading_of c.args.plan.now) c.args.l in
    laid_next (_ ∷ []) f _ c.loop-x.invariant (spelled_same c.put-end-in-loop-x.ensures c.stay_field.ensures)
