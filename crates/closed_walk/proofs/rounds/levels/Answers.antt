-- `closed_walk::rounds::levels` meets its contract. The invariant is `Searched`, and no node before the level has a step to q. The measure: the nodes beyond place lo.
use mathlib.Core.Path.{◌≡◌, refl, sym, ◌∙◌}
use mathlib.Core.Bool.{true≢false}
use lib.ListN.{length, replicate}
use Rattle.std.proofs.Common.{rules}
use native.Mathlib.Omega.{arith}
use Rattle.limits.proofs.Zeros.{zero_at}
use Rattle.theory.specs.Adjacency.{Adjacent}
use Rattle.search.proofs.Queue.{fits_le}
use Rattle.search.proofs.Rounds.{fits_none, searched_first, searched_next}
use Rattle.closed_walk.proofs.Back.{levels_none, levels_found, none_next}
use Rattle.closed_walk.proofs.rounds.levels.Goals as goal

pub take-requires : goal.take-requires
take-requires c =
    let p = c.requires in
    let e : c.fill.new.self ≡ replicate (length c.args.level.now) 0 = search rules in
    let k = c.fill.ensures.len in
    (omega arith, omega arith, fits_none c.fill.new.self c.args.queue.now (zero_at (length c.args.level.now) e) (omega arith) (omega arith))

pub loop-lo-init : goal.loop-lo-init
loop-lo-init c =
    let p = c.requires in
    let e : c.fill.new.self ≡ replicate (length c.args.level.now) 0 = search rules in
    let k = c.fill.ensures.len in
    let t = c.take.ensures.takes in (
      record { level = refl; queue = refl },
      omega (arith, t.takes.long),
      searched_first (Adjacent c.args.steps.first.now c.args.steps.targets.now) (zero_at (length c.args.level.now) e) t (omega arith),
      λ j a b. absurd (omega arith),
    )

pub leads_back-requires : goal.leads_back-requires
leads_back-requires c = (c.loop-lo.invariant.1, c.loop-lo.invariant.2.fits)

pub returns-then-leads_back-clause-outcome : goal.returns-then-leads_back-clause-outcome
returns-then-leads_back-clause-outcome c =
    let l = c.loop-lo in
    let h = levels_found l.invariant.2 l.invariant.3 (c.leads_back.ensures.0 c.if-leads_back.true) in
    search rules

pub round-requires : goal.round-requires
round-requires c =
    let I = c.loop-lo.invariant.2 in
    record { states = (omega (arith, fits_le I.fits, I.fits.limit, I.early), I.ends, I.fits); marks = c.loop-lo.invariant.1 }

pub overflow_add-x : goal.overflow_add-x
overflow_add-x c =
    let I = c.loop-lo.invariant.2 in
    omega (arith, fits_le I.fits, I.fits.limit, I.early)

pub loop-lo-smaller : goal.loop-lo-smaller
loop-lo-smaller c = omega (arith, fits_le c.loop-lo.invariant.2.fits, c.loop-lo.invariant.1)

pub loop-lo-preserved : goal.loop-lo-preserved
loop-lo-preserved c =
    let l = c.loop-lo in
    let i = l.invariant in
    let t = c.round.ensures in (
      record { level = t.same.level ∙ i.0.level; queue = t.same.queue ∙ i.0.queue },
      t.takes.takes.long ∙ i.1,
      searched_next i.2 t.takes (omega arith),
      none_next i.2 i.3 (λ A. true≢false (sym (c.leads_back.ensures.1 A) ∙ c.if-leads_back.false)) t.takes,
    )

pub returns-clause-outcome : goal.returns-clause-outcome
returns-clause-outcome c = let h = levels_none c.loop-lo.invariant.2 c.loop-lo.invariant.3 (omega arith) in search rules
