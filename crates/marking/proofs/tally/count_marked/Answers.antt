-- `marking::tally::count_marked` meets its contract: the marked states are those that are reached.
use mathlib.Core.Path.{◌∙◌}
use Rattle.marking.proofs.Steps.{count-marks}
use Rattle.marking.proofs.tally.count_marked.Goals as goal

pub returns : goal.returns
returns c = λ Y L D. c.count_reached.ensures ∙ count-marks Y L c.args.distance.now D
