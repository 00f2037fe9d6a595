-- `stays` meets its contract.
use mathlib.Core.Path.{◌∙◌}
use Rattle.graph.proofs.States.{fits_three}
use Rattle.graph.specs.Plan.{automaton_of}
use Rattle.graph.proofs.stays.Goals as goal

pub returns : goal.returns
unfolding automaton_of
returns c =
    let plan = c.args.plan.now in
    c.fits.ensures ∙ fits_three plan.model plan.lawful c.args.g c.requires.1 plan.model.invariant c.args.l
