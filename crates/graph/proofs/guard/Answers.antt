-- `guard` meets its contract.
use mathlib.Core.Path.{◌∙◌}
use Rattle.graph.proofs.States.{guard_opens, guard_shuts}
use Rattle.graph.proofs.guard.Goals as goal

pub returns-then-attains : goal.returns-then-attains
returns-then-attains c =
    let plan = c.args.plan.now in
    c.fits.ensures
    ∙ guard_opens plan.model plan.lawful c.args.g c.requires.1 c.args.e c.counted.result
    c.counted-2.result
    c.counted.ensures c.counted-2.ensures c.attains.result c.attains.ensures
    c.if-attains.true

pub returns-else-attains : goal.returns-else-attains
returns-else-attains c =
    let plan = c.args.plan.now in
    c.if-attains.false
    ∙ guard_shuts plan.model plan.lawful c.args.g c.requires.1 c.args.e c.counted.result
    c.counted-2.result
    c.counted.ensures c.counted-2.ensures c.attains.result c.attains.ensures c.if-attains.false
