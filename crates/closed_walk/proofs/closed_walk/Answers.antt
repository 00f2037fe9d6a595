-- `closed_walk::closed_walk` meets its contract: the search, the flags and the walk along them, by the relation cut down to the nodes.
use mathlib.Core.Path.{◌≡◌, refl, ◌∙◌}
use native.Mathlib.Omega.{arith}
use Prim.Native.Nat.{◌-◌, ◌≤◌, ◌<◌}
use mathlib.Core.List.{◌++◌}
use lib.ListN.{length, take, drop, set, length-take, length-drop, length-append}
use Rattle.closed_walk.proofs.Inside.{cut, cut_agrees, closes_cut}
use Rattle.closed_walk.proofs.Back.{outcome_none, outcome_found, last_place, last_below, last_level, last_some, last_few}
use Rattle.closed_walk.proofs.Closing.{closes_none, walk_closes, walk_end}
use Rattle.closed_walk.proofs.closed_walk.Goals as goal

pub levels-requires : goal.levels-requires
levels-requires c =
    let p = c.requires in
    (p.0, p.1, refl, p.3)

pub returns-in_default : goal.returns-in_default
returns-in_default c =
    let p = c.requires in
    let a = c.args in
    let k = c.levels.auto.level in
    λ e H. closes_cut H p.0 (closes_none (length a.level.now) (cut (length a.level.now) e) (cut_agrees H p.0).inside a.q (rw k at (outcome_none c.in_default.ensures.outcome refl (cut (length a.level.now) e) (rw k (cut_agrees H p.0)))))

pub overflow_sub-end : goal.overflow_sub-end
overflow_sub-end c = omega (arith, c.in-Some.ensures.some)

pub offset_bounds-queue-end : goal.offset_bounds-queue-end
offset_bounds-queue-end c =
    let F = outcome_found c.in-Some.ensures.outcome (λ e. omega (arith, c.in-Some.ensures.some)) in
    omega (arith, last_place F, F.order.fits.same, F.order.fits.limit)

pub bounds-queue-end : goal.bounds-queue-end
bounds-queue-end c =
    let F = outcome_found c.in-Some.ensures.outcome (λ e. omega (arith, c.in-Some.ensures.some)) in
    omega (arith, last_place F, F.order.fits.same, F.order.fits.limit)

pub bounds-level-last : goal.bounds-level-last
bounds-level-last c =
    let F = outcome_found c.in-Some.ensures.outcome (λ e. omega (arith, c.in-Some.ensures.some)) in
    omega (arith, last_below F c.from-last.ensures, F.order.fits.limit)

pub flag_all-requires : goal.flag_all-requires
flag_all-requires c =
    let F = outcome_found c.in-Some.ensures.outcome (λ e. omega (arith, c.in-Some.ensures.some)) in
    (c.levels.auto.level, F.order, tt)

pub slice_bounds-trace-count : goal.slice_bounds-trace-count
slice_bounds-trace-count c =
    let F = outcome_found c.in-Some.ensures.outcome (λ e. omega (arith, c.in-Some.ensures.some)) in
    omega (arith, last_some F c.from-last.ensures c.from-count.ensures)

pub slice_bounds-trace-end : goal.slice_bounds-trace-end
slice_bounds-trace-end c =
    let F = outcome_found c.in-Some.ensures.outcome (λ e. omega (arith, c.in-Some.ensures.some)) in
    omega (arith, last_few F c.from-last.ensures c.from-count.ensures, c.levels.auto.level, c.requires.4)

pub slice_bounds-trace-length : goal.slice_bounds-trace-length
slice_bounds-trace-length c =
    let F = outcome_found c.in-Some.ensures.outcome (λ e. omega (arith, c.in-Some.ensures.some)) in
    simp length-take (omega (arith, last_few F c.from-last.ensures c.from-count.ensures, c.levels.auto.level, c.requires.4))

pub trace-requires : goal.trace-requires
trace-requires c =
    let F = outcome_found c.in-Some.ensures.outcome (λ e. omega (arith, c.in-Some.ensures.some)) in
    let p = c.requires in
    let k = c.flag_all.auto.level ∙ c.levels.auto.level in
    (rw k p.0, k, rw k (simp length-take (omega (arith, last_some F c.from-last.ensures c.from-count.ensures, last_few F c.from-last.ensures c.from-count.ensures, c.levels.auto.level, p.4))), rw k p.1, tt)

pub bounds-path-count : goal.bounds-path-count
bounds-path-count c =
    let F = outcome_found c.in-Some.ensures.outcome (λ e. omega (arith, c.in-Some.ensures.some)) in
    let k = last_few F c.from-last.ensures c.from-count.ensures in
    let y = last_some F c.from-last.ensures c.from-count.ensures in
    simp (length-append, length-drop) (omega (arith, simp length-take at c.trace.auto.path, c.levels.auto.level, c.requires.4))

pub returns : goal.returns
returns c =
    let F = outcome_found c.in-Some.ensures.outcome (λ e. omega (arith, c.in-Some.ensures.some)) in
    let p = c.requires in
    let a = c.args in
    let k = c.levels.auto.level in
    let y = last_level F c.from-last.ensures c.from-count.ensures in
    let z = last_some F c.from-last.ensures c.from-count.ensures in
    let few = last_few F c.from-last.ensures c.from-count.ensures in
    let n = c.from-count.result in
    let front = take (n - 1) a.path.now in
    let back = drop (n - 1) a.path.now in
    let l : length front ≡ n - 1 = simp length-take (omega (arith, p.4)) in
    let b : 0 < length back = simp length-drop (omega (arith, p.4)) in
    let f : n ≤ length c.flag_all.new.level = omega (arith, c.flag_all.auto.level) in
    λ e H. closes_cut H p.0 (walk_closes (rw k (cut_agrees H p.0)) k F.aims y z (c.flag_all.ensures a.q) (set (c.trace.new.path ++ back) (n - 1) a.q)
    (walk_end c.trace.new.path back (length front) (n - 1) n l c.trace.auto.path (omega arith) f b (cut (length a.level.now) e)
    (c.trace.ensures (cut (length a.level.now) e) (λ x. cut (length a.level.now) e x a.q))))
