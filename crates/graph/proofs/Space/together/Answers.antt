-- `together` meets its contract.
use mathlib.Core.Path.{sym, ◌∙◌}
use borrow.Author.Tests.{eqb-true}
use Rattle.graph.proofs.States.{some_region, joined_in, joined_out, joined_apart}
use Rattle.graph.proofs.Space.together.Goals.{then-p-self, else-p-self}
use Rattle.graph.proofs.Space.together.Goals as goal

pub nonzero_div-p : goal.nonzero_div-p
nonzero_div-p c =
    let s = c.args.self.now in
    some_region s.plan.now.model s.plan.now.lawful s.table.now s.listed c.args.p c.requires.0

pub nonzero_div-q : goal.nonzero_div-q
nonzero_div-q c =
    let s = c.args.self.now in
    some_region s.plan.now.model s.plan.now.lawful s.table.now s.listed c.args.p c.requires.0

pub returns-then-allowed : goal.returns-then-allowed
returns-then-allowed c =
    let s = c.args.self.now in
    elim c.if-p-self.branch [
      | then-p-self w ↦ joined_in s.plan.now.model s.plan.now.lawful s.table.now s.listed c.args.p c.args.q c.requires.0 c.requires.1
          w.if-p-self.true w.allowed.result c.allowed-then-allowed.result
          w.allowed.ensures (sym w.value-is ∙ c.if-allowed.true) c.allowed-then-allowed.ensures
      | else-p-self w ↦ absurd (w.if-p-self.false (eqb-true _ _ (sym w.value-is ∙ c.if-allowed.true)))
    ]

pub returns-else-allowed : goal.returns-else-allowed
returns-else-allowed c =
    let s = c.args.self.now in
    c.if-allowed.false
    ∙ elim c.if-p-self.branch [
      | then-p-self w ↦ joined_out s.plan.now.model s.plan.now.lawful s.table.now s.listed c.args.p c.args.q c.requires.0 c.requires.1
          w.allowed.result w.allowed.ensures (sym w.value-is ∙ c.if-allowed.false)
      | else-p-self w ↦ joined_apart s.plan.now.model s.plan.now.lawful s.table.now s.listed c.args.p c.args.q c.requires.0 c.requires.1 w.if-p-self.false
    ]
