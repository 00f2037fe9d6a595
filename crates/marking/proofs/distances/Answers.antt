-- `marking::distances` meets its contract. The invariant is `Searched`: the distances below x are found. The measure: the states beyond place lo.
use mathlib.Core.Path.{◌≡◌, refl, ◌∙◌}
use lib.ListN.{length, replicate}
use native.Mathlib.Omega.{arith}
use Rattle.std.proofs.Common.{rules}
use Rattle.limits.proofs.Zeros.{zero_at}
use Rattle.search.proofs.Queue.{fits_le}
use Rattle.search.proofs.Rounds.{fits_none, searched_first, searched_next}
use Rattle.marking.specs.Tables.{Successor}
use Rattle.marking.proofs.Steps.{searched_end}
use Rattle.marking.proofs.distances.Goals as goal

pub take-requires : goal.take-requires
take-requires c =
    let p = c.requires in
    let e : c.fill.new.self ≡ replicate (length c.args.distance.now) 0 = search rules in
    let k = c.fill.ensures.len in
    (omega arith, omega arith, fits_none c.fill.new.self c.args.queue.now (zero_at (length c.args.distance.now) e) (omega (arith, p.2.tables.states)) (omega arith))

pub loop-lo-init : goal.loop-lo-init
loop-lo-init c =
    let p = c.requires in
    let e : c.fill.new.self ≡ replicate (length c.args.distance.now) 0 = search rules in
    let d : c.fill-2.new.self ≡ replicate (length c.args.visited.now) 0 = search rules in
    let t = c.take.ensures.takes in
    let l : length c.take.new.self.level.now ≡ length c.args.distance.now = t.takes.long ∙ c.fill.ensures.len in (
      record { level = refl; queue = refl },
      record {
        nodes = l;
        tables = rw l p.2.tables;
        spots = rw (l, c.fill-2.ensures.len) p.3;
        visits = record { covers = λ k h. absurd (omega (arith, zero_at (length c.args.visited.now) d k)) };
      },
      searched_first (Successor c.args.regions c.args.first.now c.args.targets.now c.args.shapes.now c.args.heights.now) (zero_at (length c.args.distance.now) e) t (omega (arith, c.fill.ensures.len)),
    )

pub round-requires : goal.round-requires
round-requires c =
    let I = c.loop-lo.invariant.2 in
    record { states = (omega (arith, fits_le I.fits, I.fits.limit, I.early), I.ends, I.fits); marks = c.loop-lo.invariant.1 }

pub overflow_add-x : goal.overflow_add-x
overflow_add-x c =
    let I = c.loop-lo.invariant.2 in
    omega (arith, fits_le I.fits, I.fits.limit, I.early)

pub loop-lo-smaller : goal.loop-lo-smaller
loop-lo-smaller c = omega (arith, fits_le c.loop-lo.invariant.2.fits, c.loop-lo.invariant.1.nodes)

pub loop-lo-preserved : goal.loop-lo-preserved
loop-lo-preserved c =
    let i = c.loop-lo.invariant in
    let t = c.round.ensures in (
      record { level = t.same.level ∙ i.0.level; queue = t.same.queue ∙ i.0.queue },
      t.marks,
      searched_next i.2 t.takes (omega arith),
    )

pub returns : goal.returns
returns c =
    let i = c.loop-lo.invariant in
    let h = searched_end i.1.tables i.2 (omega arith) in
    search rules
