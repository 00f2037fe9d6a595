-- `Region::successor` meets its contract: the successor of n clocks keeps the ceiling just when it does as three clocks.
use mathlib.Core.Path.{sym, ◌∙◌}
use Rattle.region.proofs.Views.{time_next, time_past}
use Rattle.region.proofs.Region.successor.Goals as goal

pub returns-then-fits : goal.returns-then-fits
returns-then-fits c =
    time_next c.args.n c.requires.0 c.args.ceiling c.args.self c.after-g.result c.after-g.ensures
    (sym c.fits.ensures ∙ c.if-fits.true)

pub returns-else-fits : goal.returns-else-fits
returns-else-fits c =
    time_past c.args.n c.requires.0 c.args.ceiling c.args.self c.after-g.result c.after-g.ensures
    (sym c.fits.ensures ∙ c.if-fits.false)
