-- The count, the steps, then 6, then 14.
use mathlib.Core.Path.{sym}
use Rattle.replay.proofs.Replays.{steps_below}
use Rattle.replay.proofs.replay.Goals as goal

pub forbidden-requires : goal.forbidden-requires
forbidden-requires c = steps_below _ _ c.args.space.now.plan.now.lawful _ _ _ _ (sym c.in_ok-s.ensures)
