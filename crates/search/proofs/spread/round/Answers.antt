-- `search::spread::round` meets its contract. The invariant: what is left is led to from place i of the queue on; the places before stay.
use mathlib.Core.Path.{◌≡◌, ◌∙◌}
use lib.ListN.{get_or}
use native.Mathlib.Omega.{arith}
use Rattle.search.proofs.Queue.{fits_le, between_turn}
use Rattle.search.proofs.spread.round.Goals as goal

pub offset_bounds-reached-i : goal.offset_bounds-reached-i
offset_bounds-reached-i g c =
    let k = c.loop-i.invariant.2.takes in
    omega (arith, fits_le k.fits, k.more, k.fits.limit, k.fits.same)

pub bounds-reached-i : goal.bounds-reached-i
bounds-reached-i g c =
    let k = c.loop-i.invariant.2.takes in
    omega (arith, fits_le k.fits, k.more, k.fits.limit, k.fits.same)

pub loop-i-preserved : goal.loop-i-preserved
loop-i-preserved g c =
    let l = c.loop-i in
    let i = l.invariant in
    let t = c.spread.ensures in
    let e : c.from-p.result ≡ get_or c.args.reached.now.queue.now l.i 0 = c.from-p.ensures ∙ i.2.takes.kept l.i (omega arith) in (
      record { level = t.same.level ∙ i.0.level; queue = t.same.queue ∙ i.0.queue },
      t.marks,
      between_turn i.2 (omega arith) (omega arith) (rw e at t.takes),
    )
