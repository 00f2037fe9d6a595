-- `least_time::levels::close` meets its contract. The invariant is `Closing`: the places below i have their jumps reached.
use native.Mathlib.Omega.{arith}
use mathlib.Core.Path.{refl, ◌∙◌}
use Rattle.search.proofs.Queue.{fits_le}
use Rattle.least_time.proofs.Searching.{closing_first, closing_turn, closing_end}
use Rattle.least_time.proofs.levels.close.Goals as goal

pub loop-i-init : goal.loop-i-init
loop-i-init c = (record { level = refl; queue = refl }, closing_first c.requires.2 c.requires.3 c.requires.4)

pub offset_bounds-reached-i : goal.offset_bounds-reached-i
offset_bounds-reached-i c = let k = c.loop-i.invariant.1.takes.fits in omega (arith, fits_le k, k.limit)

pub bounds-reached-i : goal.bounds-reached-i
bounds-reached-i c = let k = c.loop-i.invariant.1.takes.fits in omega (arith, fits_le k, k.same)

pub take_jumps-requires : goal.take_jumps-requires
take_jumps-requires c =
    let l = c.loop-i in
    let k = l.invariant.1.takes in
    record { state = omega (arith, c.from-p.ensures, k.fits.below l.i (omega arith), k.long, c.requires.0); queue = (k.long ∙ c.requires.0, c.requires.1, k.fits) }

pub overflow_add-i : goal.overflow_add-i
overflow_add-i c = let k = c.loop-i.invariant.1.takes.fits in omega (arith, fits_le k, k.limit)

pub loop-i-smaller : goal.loop-i-smaller
loop-i-smaller c = let k = c.loop-i.invariant.1.takes in omega (arith, fits_le k.fits, k.long)

pub loop-i-preserved : goal.loop-i-preserved
loop-i-preserved c =
    let i = c.loop-i.invariant in
    let t = c.take_jumps.ensures in
    (record { level = t.same.level ∙ i.0.level; queue = t.same.queue ∙ i.0.queue }, closing_turn i.1 (omega arith) (rw c.from-p.ensures at t.takes))

pub returns : goal.returns
returns c = let i = c.loop-i.invariant in record { closes = closing_end i.1 (omega arith); same = i.0 }
