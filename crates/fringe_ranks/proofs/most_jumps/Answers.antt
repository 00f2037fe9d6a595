-- `fringe_ranks::most_jumps` meets its contract. The invariant: `most` is the greatest rank that a step passed gives.
use native.Mathlib.Omega.{arith}
use Prim.Native.Nat.{◌+◌, ◌<◌, max}
use mathlib.Core.Path.{ap, ◌∙◌}
use mathlib.Core.Bool.{Bool, cond}
use lib.Dec.{eqb}
use lib.ListN.{length, get_or}
use Rattle.std.specs.Prelude.{unwrap_or}
use Rattle.fringe_ranks.proofs.Later.{told_is}
use Rattle.fringe_ranks.proofs.Row.{row_bounds, row_below, row_start, row_turn, row_end}
use Rattle.fringe_ranks.proofs.most_jumps.Goals as goal

pub slice_bounds-row-end : goal.slice_bounds-row-end
slice_bounds-row-end c = (row_bounds c.requires.0 c.args.p c.requires.2).1

pub loop-q-init : goal.loop-q-init
loop-q-init c =
    row_start c.requires.0 c.args.p c.requires.2 c.args.flags.now c.args.ranks.now (unwrap_or c.args.later (length c.args.flags.now))

pub bounds-flags-q : goal.bounds-flags-q
bounds-flags-q c = omega (arith, c.from-q.ensures, row_below c.requires.0 c.args.p c.requires.2 c.loop-q.q-index c.loop-q-test.true)

pub bounds-ranks-q : goal.bounds-ranks-q
bounds-ranks-q c =
    omega (arith, c.from-q.ensures, row_below c.requires.0 c.args.p c.requires.2 c.loop-q.q-index c.loop-q-test.true, c.requires.1)

pub loop-q-preserved : goal.loop-q-preserved
loop-q-preserved c =
    let l = c.loop-q in
    let q = c.from-q.result in
    let flags = c.args.flags.now in
    let ranks = c.args.ranks.now in
    let below : q < length flags =
    omega (arith, c.from-q.ensures, row_below c.requires.0 c.args.p c.requires.2 l.q-index c.loop-q-test.true) in
    let timed = c.eq.ensures ∙ told_is c.args.later q (length flags) below in
    row_turn c.requires.0 c.args.p c.requires.2 flags ranks (unwrap_or c.args.later (length flags)) l.q-index l.most q c.raised-most.result
    c.loop-q-test.true l.invariant c.from-q.ensures
    (c.raised-most.ensures ∙ ap (λ (t : Bool). max l.most (cond (eqb (get_or flags q 0) 0) 0 (cond t (get_or ranks q 0) (get_or ranks q 0 + 1)))) timed)

pub returns : goal.returns
returns c =
    let l = c.loop-q in
    row_end c.requires.0 c.args.p c.requires.2 c.args.flags.now c.args.ranks.now (unwrap_or c.args.later (length c.args.flags.now))
    l.q-index l.most c.loop-q-test.false (omega arith) l.invariant
