-- `state_at` meets its contract.
use native.Mathlib.Omega.{arith}
use mathlib.Core.Path.{sym, ap, ◌∙◌}
use Rattle.graph.proofs.States.{clocks_of, ceiling_of, small_of, states_limit, at_missing, at_state, at_none}
use Rattle.region_table.proofs.Listed.{listed_increasing}
use Rattle.region_table.specs.Lookup.{found_in}
use Rattle.graph.proofs.Space.state_at.Goals as goal

pub returns-then-not-stays : goal.returns-then-not-stays
returns-then-not-stays c =
    let s = c.args.self.now in
    sym (at_none s.plan.now.model s.plan.now.lawful c.args.l c.args.g c.requires.1 (sym c.stays.ensures ∙ c.if-not-stays.true))

pub pack-requires : goal.pack-requires
pack-requires c =
    let s = c.args.self.now in
    small_of s.plan.now.model s.plan.now.lawful c.args.g c.requires.1

pub find-requires : goal.find-requires
find-requires c =
    let s = c.args.self.now in
    listed_increasing s.plan.now.model.clocks s.plan.now.model.ceiling (clocks_of s.plan.now.model s.plan.now.lawful)
    (ceiling_of s.plan.now.model s.plan.now.lawful) s.table.now s.listed

pub returns-in_err-i : goal.returns-in_err-i
returns-in_err-i c =
    let s = c.args.self.now in
    absurd (at_missing s.plan.now.model s.plan.now.lawful s.table.now s.listed c.args.g c.requires.1
    (ap (found_in s.table.now) (sym c.pack.ensures.value) ∙ sym c.find.ensures ∙ c.in_err-i.was))

pub overflow_add-result : goal.overflow_add-result
overflow_add-result c =
    let s = c.args.self.now in
    let q = at_state s.plan.now.model s.plan.now.lawful s.table.now s.listed c.args.l c.in_ok-i.i
    c.args.g c.requires.0 c.requires.1
    (sym c.stays.ensures ∙ c.if-not-stays.false)
    (ap (found_in s.table.now) (sym c.pack.ensures.value) ∙ sym c.find.ensures ∙ c.in_ok-i.was) in
    omega (arith, q.0, states_limit s.plan.now.model s.plan.now.lawful)

pub returns : goal.returns
returns c =
    let s = c.args.self.now in
    let q = at_state s.plan.now.model s.plan.now.lawful s.table.now s.listed c.args.l c.in_ok-i.i
    c.args.g c.requires.0 c.requires.1
    (sym c.stays.ensures ∙ c.if-not-stays.false)
    (ap (found_in s.table.now) (sym c.pack.ensures.value) ∙ sym c.find.ensures ∙ c.in_ok-i.was) in
    sym q.1
