-- `survey::search` meets its contract.
use native.Mathlib.Omega.{arith}
use Prim.Native.Nat.{ℕ, ◌*◌, ◌≤◌}
use mathlib.Core.Path.{◌≡◌, refl, sym, ap, ◌∙◌}
use Rattle.limits.specs.Limits.{max_locations, point_count}
use Rattle.graph.proofs.States.{clocks_of, ceiling_of}
use Rattle.tables.proofs.Lent.{prefix_long}
use Rattle.survey.proofs.Tables.{start_product, asked, levelled_by}
use Rattle.survey.proofs.search.Goals as goal

-- the flags of points fit
spots : {k n : ℕ} → k ≡ n → n ≤ max_locations → k * point_count ≤ max_locations * point_count
spots e b = omega (arith, e, b)

pub find_heights-requires : goal.find_heights-requires
find_heights-requires c = record { lawful = c.requires.lawful.0; scratch = c.requires.scratch }

pub overflow_mul-flags : goal.overflow_mul-flags
overflow_mul-flags c = omega (arith, spots c.from-flags.ensures c.args.plan.now.lawful.locations.1)

pub count-requires : goal.count-requires
count-requires c = (clocks_of c.args.plan.now.model c.args.plan.now.lawful, ceiling_of c.args.plan.now.model c.args.plan.now.lawful)

pub overflow_mul-start : goal.overflow_mul-start
overflow_mul-start c =
    let b = start_product c.args.plan.now.model c.args.plan.now.lawful c.from-r.result (c.from-r.ensures ∙ c.count.ensures) in
    rw c.from.ensures (omega (arith, b))

pub slice_bounds-visited-end : goal.slice_bounds-visited-end
slice_bounds-visited-end c = omega (arith, spots c.from-flags.ensures c.args.plan.now.lawful.locations.1)

pub slice_bounds-distances-end : goal.slice_bounds-distances-end
slice_bounds-distances-end c = prefix_long _ (max_locations * point_count) (spots c.from-flags.ensures c.args.plan.now.lawful.locations.1)

pub distances-requires : goal.distances-requires
distances-requires c =
    let found = c.find_heights in
    let given = c.requires.lawful in
    let long = c.requires.scratch in
    let Q = asked c.args.plan.now.model c.args.plan.now.lawful _ _ given.0 _ found.new.heights given.1 found.ensures _
    (c.from-r.ensures ∙ c.count.ensures) found.new.distance found.new.queue _
    (found.auto.distance ∙ long.second) (found.auto.queue ∙ long.third)
    (sym (prefix_long _ (max_locations * point_count) (spots c.from-flags.ensures c.args.plan.now.lawful.locations.1)) ∙ ap (λ (k : ℕ). k * point_count) c.from-flags.ensures) in
    (rw c.from.ensures Q.0, Q.1, Q.2, Q.3)

pub returns : goal.returns
returns c =
    let searched = c.distances in
    let found = c.find_heights in
    let given = c.requires.lawful in
    levelled_by c.args.plan.now.model c.args.plan.now.lawful _ _ given.0 _ found.new.heights given.1 found.ensures _ (c.from-r.ensures ∙ c.count.ensures)
    _ (rw c.from.ensures refl) _ _ _
    (searched.auto.distance ∙ found.auto.distance ∙ c.requires.scratch.second) searched.ensures
