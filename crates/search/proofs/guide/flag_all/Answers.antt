-- `search::guide::flag_all` meets its contract. The invariant: the states at the places from i on have their flags.
use Prim.Native.Nat.{◌+◌, ◌-◌}
use mathlib.Core.Path.{◌≡◌, ◌∙◌}
use native.Mathlib.Omega.{arith}
use lib.ListN.{get_or}
use Rattle.search.proofs.Queue.{fits_le}
use Rattle.search.proofs.Flags.{flagging_level, flagging_below, flagging_next, flagging_end}
use Rattle.search.proofs.guide.flag_all.Goals as goal

pub offset_bounds-queue-i : goal.offset_bounds-queue-i
offset_bounds-queue-i g c =
    let O = c.requires.1 in
    omega (arith, fits_le O.fits, O.fits.same, O.fits.limit)

pub bounds-queue-i : goal.bounds-queue-i
bounds-queue-i g c =
    let O = c.requires.1 in
    omega (arith, fits_le O.fits, O.fits.same, O.fits.limit)

pub flag_state-requires : goal.flag_state-requires
flag_state-requires g c =
    let l = c.loop-i in
    let O = c.requires.1 in
    let I = l.invariant 0 in
    let k : l.i ≡ l.i - 1 + 1 = omega arith in
    let b = flagging_below O I (l.i - 1) k in
    (rw c.from.ensures b, l.auto.level ∙ c.requires.0, rw c.from.ensures (omega (arith, flagging_level O I (l.i - 1) k, O.bounded (get_or c.args.queue.now (l.i - 1) 0) (omega (arith, b, I.raised.long)), fits_le O.fits, O.fits.limit)), c.requires.2)

pub loop-i-preserved : goal.loop-i-preserved
loop-i-preserved g c =
    let l = c.loop-i in
    let k : l.i ≡ l.i - 1 + 1 = omega arith in
    λ start. flagging_next c.requires.1 (l.invariant start) (l.i - 1) k (rw c.from.ensures at c.flag_state.ensures)

pub returns : goal.returns
returns g c =
    let l = c.loop-i in
    let z : l.i ≡ 0 = omega arith in
    λ start. flagging_end c.requires.1 (rw z at (l.invariant start))
