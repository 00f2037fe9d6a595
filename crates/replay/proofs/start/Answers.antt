-- The region of zeros is the origin, whose state is allowed and so is found.
use mathlib.Core.Path.{refl, ◌∙◌}
use Rattle.replay.proofs.Steps.{origin_known, start_at}
use Rattle.replay.proofs.start.Goals as goal

pub state_at-requires : goal.state_at-requires
state_at-requires c = (rw c.from.ensures c.args.space.now.plan.now.lawful.start, origin_known _ c.args.space.now.plan.now.lawful)

pub unwrap-requires : goal.unwrap-requires
unwrap-requires c = rw (c.state_at.ensures, c.from.ensures, start_at _ c.args.space.now.plan.now.lawful) refl

pub returns : goal.returns
returns c = let e = rw c.from.ensures at c.state_at.ensures ∙ start_at _ c.args.space.now.plan.now.lawful in cc
