-- `marking::reach::Ways::take_corners` meets its contract. The invariant: what is left are the corners from number k on.
use mathlib.Core.Path.{◌∙◌}
use native.Mathlib.Omega.{arith}
use Rattle.search.proofs.Queue.{between_turn}
use Rattle.marking.proofs.reach.Ways.take_corners.Goals as goal

pub loop-k-preserved : goal.loop-k-preserved
loop-k-preserved c =
    let i = c.loop-k.invariant in
    let t = c.take_corner.ensures in (
      between_turn i.0 (omega arith) (omega arith) t.takes.all,
      t.takes.visits,
      record { level = t.same.level ∙ i.2.level; queue = t.same.queue ∙ i.2.queue },
    )
