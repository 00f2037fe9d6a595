-- `fringe_ranks::rank_chain` meets its contract. The invariant: the states of height h without their ranks stand on the chain from `link`, which falls.
use native.Mathlib.Omega.{arith}
use Prim.Native.Nat.{suc, ◌-◌}
use mathlib.Core.Path.{◌≡◌}
use Rattle.fringe_ranks.proofs.Along.{along_start, along_long, along_end, along_link, along_state, along_below, along_turn}
use Rattle.fringe_ranks.proofs.rank_chain.Goals as goal

pub loop-link-init : goal.loop-link-init
loop-link-init c =
    let (A, C, b, U) = c.requires in
    rw c.from-link.ensures (along_start A C b U)

pub offset_bounds-links-p : goal.offset_bounds-links-p
offset_bounds-links-p c =
    let l = c.loop-link in
    let e : l.link ≡ suc (l.link - 1) = omega arith in
    omega (arith, (along_link l.invariant (l.link - 1) e).0)

pub bounds-links-p : goal.bounds-links-p
bounds-links-p c =
    let l = c.loop-link in
    let e : l.link ≡ suc (l.link - 1) = omega arith in
    (along_link l.invariant (l.link - 1) e).0

pub rank_state-entries-requires : goal.rank_state-entries-requires
rank_state-entries-requires c =
    let l = c.loop-link in
    let e : l.link ≡ suc (l.link - 1) = omega arith in
    (c.requires.0, along_state l.invariant (l.link - 1) e, along_long l.invariant, along_below l.invariant (l.link - 1) e)

pub loop-link-smaller : goal.loop-link-smaller
loop-link-smaller c =
    let l = c.loop-link in
    let e : l.link ≡ suc (l.link - 1) = omega arith in
    omega (arith, c.from-link-in-loop-link.ensures, (along_link l.invariant (l.link - 1) e).1)

pub loop-link-preserved : goal.loop-link-preserved
loop-link-preserved c =
    let l = c.loop-link in
    let e : l.link ≡ suc (l.link - 1) = omega arith in
    rw c.from-link-in-loop-link.ensures (along_turn l.invariant (l.link - 1) e c.rank_state-entries.ensures)

pub returns : goal.returns
returns c = along_end c.loop-link.invariant (omega arith)
