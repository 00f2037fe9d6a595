-- `jump_step` meets its contract.
use native.Mathlib.Omega.{arith}
use mathlib.Core.Path.{sym, ◌∙◌}
use lib.ListN.{get_or}
use Rattle.graph.proofs.States.{small_of, some_region, jump_away, jump_stuck, jump_closed, reset_known, jump_moves}
use Rattle.graph.proofs.Space.jump_step.Goals.{then-not-stays-via-then-not-stays, then-not-stays-via-else-not-stays+then-not-guard}
use Rattle.graph.proofs.Space.jump_step.Goals as goal

pub nonzero_div-l : goal.nonzero_div-l
nonzero_div-l c =
    let s = c.args.self.now in
    some_region s.plan.now.model s.plan.now.lawful s.table.now s.listed c.args.p c.requires.1

pub returns-then-from-l : goal.returns-then-from-l
returns-then-from-l c =
    let s = c.args.self.now in
    jump_away s.plan.now.model s.plan.now.lawful s.table.now s.listed c.args.p c.requires.1 c.args.e c.requires.0
    (λ e. c.if-from-l.true (c.from.ensures ∙ e))

pub returns-then-not-stays : goal.returns-then-not-stays
returns-then-not-stays c =
    let s = c.args.self.now in
    elim c.then-not-stays.branch [
      | then-not-stays-via-then-not-stays w ↦
          jump_stuck s.plan.now.model s.plan.now.lawful s.table.now s.listed c.args.p c.requires.1 c.region_of-g.result
          c.region_of-g.ensures c.stays.result c.stays.ensures c.args.e c.requires.0 w.if-not-stays.true
      | then-not-stays-via-else-not-stays+then-not-guard w ↦
          jump_closed s.plan.now.model s.plan.now.lawful s.table.now s.listed c.args.p c.requires.1 c.region_of-g.result
          c.region_of-g.ensures c.stays.result c.stays.ensures c.args.e c.requires.0
          (sym c.from.ensures ∙ c.if-from-l.false) w.if-not-stays.false (sym w.guard.ensures ∙ w.if-not-guard.true)
    ]

pub reset-requires : goal.reset-requires
reset-requires c =
    let s = c.args.self.now in
    small_of s.plan.now.model s.plan.now.lawful c.region_of-g.result c.region_of-g.ensures.0

pub state_at-requires : goal.state_at-requires
state_at-requires c =
    let s = c.args.self.now in (
      omega (arith, s.plan.now.lawful.ranges.source c.args.e, s.plan.now.lawful.ranges.target c.args.e, c.from-2.ensures),
      reset_known s.plan.now.model s.plan.now.lawful (get_or s.plan.now.model.reset c.args.e 0) c.region_of-g.result c.reset.result
          c.region_of-g.ensures.0 c.reset.ensures,
    )

pub returns : goal.returns
returns c =
    let s = c.args.self.now in
    jump_moves s.plan.now.model s.plan.now.lawful s.table.now s.listed c.args.p c.requires.1
    c.region_of-g.result c.region_of-g.ensures c.stays.result c.stays.ensures c.args.e c.requires.0
    (sym c.from.ensures ∙ c.if-from-l.false) c.if-not-stays.false (sym c.guard.ensures ∙ c.if-not-guard.false)
    c.reset.result c.reset.ensures c.state_at.result (rw c.from-2.ensures at c.state_at.ensures)
