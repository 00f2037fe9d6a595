-- `least_time::times` meets its contract. The invariant is `Searched`: the times below y are found. The measure: the states beyond place lo.
use native.Mathlib.Omega.{arith}
use Prim.Native.Nat.{◌*◌}
use mathlib.Core.Path.{◌≡◌, refl, sym, ◌∙◌}
use lib.ListN.{length, replicate}
use Rattle.std.proofs.Common.{rules}
use Rattle.graph.specs.Plan.{labelled_of_model}
use Rattle.limits.proofs.Zeros.{zero_at}
use Rattle.search.proofs.Queue.{fits_le}
use Rattle.search.proofs.Rounds.{fits_none}
use Rattle.least_time.proofs.Models.{joined, size_is, start_is, start_room}
use Rattle.least_time.proofs.Searching.{searched_first, searched_next, searched_end}
use Rattle.least_time.proofs.times.Goals as goal

pub overflow_mul-start : goal.overflow_mul-start
overflow_mul-start c =
    let s = c.args.space.now in
    omega (arith, start_room s.plan.now.model s.plan.now.lawful s.table.now s.listed _ c.from.ensures)

pub take-requires : goal.take-requires
take-requires c =
    let s = c.args.space.now in
    let z : c.fill.new.self ≡ replicate (length c.args.level.now) 0 = search rules in
    let k = c.fill.ensures.len in
    let (b, h) = start_room s.plan.now.model s.plan.now.lawful s.table.now s.listed _ c.from.ensures in
    (omega arith, omega (arith, c.requires.0), fits_none c.fill.new.self c.args.queue.now (zero_at (length c.args.level.now) z) (omega (arith, c.requires.0)) (omega (arith, c.requires.0, c.requires.1)))

pub loop-lo-init : goal.loop-lo-init
loop-lo-init c =
    let s = c.args.space.now in
    let m = s.plan.now.model in
    let z : c.fill.new.self ≡ replicate (length c.args.level.now) 0 = search rules in
    let n : c.from.result * length s.table.now ≡ m.start * length s.table.now = rw c.from.ensures refl in (
      record { level = refl; queue = refl },
      searched_first (labelled_of_model m) (zero_at (length c.args.level.now) z) (c.fill.ensures.len ∙ c.requires.0 ∙ sym (size_is m))
          (start_is m s.plan.now.lawful s.table.now s.listed ∙ sym n) c.take.ensures.takes,
    )

pub close-requires : goal.close-requires
close-requires c =
    let I = c.loop-lo.invariant.1 in
    (I.size ∙ size_is c.args.space.now.plan.now.model, omega (arith, fits_le I.fits, I.fits.limit, I.ends.0), I.ends.1, I.fits, I.at)

pub overflow_add-y : goal.overflow_add-y
overflow_add-y c = let I = c.loop-lo.invariant.1 in omega (arith, fits_le I.fits, I.fits.limit, I.ends.0)

pub round-requires : goal.round-requires
round-requires c =
    let I = c.loop-lo.invariant.1 in
    let C = c.close.ensures.closes in record {
      states = (omega (arith, fits_le I.fits, I.fits.limit, I.ends.0), omega (arith, C.takes.more, I.ends.1), C.takes.fits);
      marks = C.takes.long ∙ I.size ∙ size_is c.args.space.now.plan.now.model;
    }

pub loop-lo-smaller : goal.loop-lo-smaller
loop-lo-smaller c =
    let I = c.loop-lo.invariant.1 in
    omega (arith, fits_le I.fits, I.size, c.close.ensures.closes.takes.more)

pub loop-lo-preserved : goal.loop-lo-preserved
loop-lo-preserved c =
    let i = c.loop-lo.invariant in
    let C = c.close.ensures in
    let A = c.round.ensures in
    let s = c.args.space.now in (
      record { level = A.same.level ∙ C.same.level ∙ i.0.level; queue = A.same.queue ∙ C.same.queue ∙ i.0.queue },
      searched_next (joined s.plan.now.model s.plan.now.lawful) i.1 c.loop-lo-test.true C.closes A.takes,
    )

pub returns : goal.returns
returns c =
    let s = c.args.space.now in
    let h = searched_end (joined s.plan.now.model s.plan.now.lawful) c.loop-lo.invariant.1 (omega arith) in
    search rules
