-- A region that is too large or that the table lacks is unlawful; the others have the index that is found.
use native.Mathlib.Omega.{arith}
use mathlib.Core.Path.{sym, ap, ◌∙◌}
use Rattle.region_table.specs.Lookup.{found_in}
use Rattle.region_table.proofs.Listed.{listed_increasing}
use Rattle.graph.proofs.States.{clocks_of, ceiling_of, some_region, states_limit}
use Rattle.replay.proofs.Regions.{is_small_law, look_large, look_missing, look_found}
use Rattle.replay.proofs.look_up.Goals as goal

pub first-h-requires : goal.first-h-requires
first-h-requires c = clocks_of _ c.args.space.now.plan.now.lawful

pub returns-then-not-is_small : goal.returns-then-not-is_small
returns-then-not-is_small c = look_large _ c.args.space.now.plan.now.lawful _ c.args.space.now.listed _ c.requires _ _ c.first-h.ensures (sym c.is_small.ensures ∙ c.if-not-is_small.true)

pub pack-requires : goal.pack-requires
pack-requires c = (is_small_law _).0 (sym c.is_small.ensures ∙ c.if-not-is_small.false)

pub find-requires : goal.find-requires
find-requires c = listed_increasing _ _ (clocks_of _ c.args.space.now.plan.now.lawful) (ceiling_of _ c.args.space.now.plan.now.lawful) _ c.args.space.now.listed

pub returns-in_err-i : goal.returns-in_err-i
returns-in_err-i c =
    rw c.from_residual.ensures
    (look_missing _ c.args.space.now.plan.now.lawful _ c.args.space.now.listed _ c.requires _ _ c.first-h.ensures
    (ap (found_in c.args.space.now.table.now) (sym c.pack.ensures.value) ∙ sym c.find.ensures ∙ c.in_err-i.was))

pub nonzero_div-result : goal.nonzero_div-result
nonzero_div-result c = some_region _ c.args.space.now.plan.now.lawful _ c.args.space.now.listed _ c.requires

pub overflow_add-result : goal.overflow_add-result
overflow_add-result c =
    let q = look_found _ c.args.space.now.plan.now.lawful _ c.args.space.now.listed _ c.requires _ _ c.first-h.ensures (sym c.is_small.ensures ∙ c.if-not-is_small.false) _
    (ap (found_in c.args.space.now.table.now) (sym c.pack.ensures.value) ∙ sym c.find.ensures ∙ c.in_ok-i.was) in
    omega (arith, q.0, states_limit _ c.args.space.now.plan.now.lawful)

pub returns : goal.returns
returns c =
    (look_found _ c.args.space.now.plan.now.lawful _ c.args.space.now.listed _ c.requires _ _ c.first-h.ensures (sym c.is_small.ensures ∙ c.if-not-is_small.false) _
    (ap (found_in c.args.space.now.table.now) (sym c.pack.ensures.value) ∙ sym c.find.ensures ∙ c.in_ok-i.was)).1
