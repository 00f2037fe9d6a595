-- `trail_delay::move_delay` meets its contract, by the kinds of moves.
use mathlib.Core.Path.{ap, ◌∙◌}
use Rattle.trail_delay.specs.Ours.{move_delay}
use Rattle.trail_delay.proofs.Delays.{flow_delay, face-delay}
use Rattle.trail_delay.proofs.move_delay.Goals as goal

pub returns-in-Flow-clause-value : goal.returns-in-Flow-clause-value
returns-in-Flow-clause-value c =
    let plan = c.args.space.now.plan.now in
    flow_delay plan.model plan.lawful _ _ c.label_jumps.ensures.value ∙ ap (move_delay plan.model) c.in-Flow.ensures.value

pub returns-in-Face-clause-value : goal.returns-in-Face-clause-value
returns-in-Face-clause-value c =
    let plan = c.args.space.now.plan.now in
    face-delay plan.model plan.lawful c.args.q ∙ ap (move_delay plan.model) c.in-Face.ensures.value
