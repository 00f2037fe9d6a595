-- A clock that does not let the edge open decides.
use native.Mathlib.Omega.{arith}
use mathlib.Core.Path.{sym, ◌∙◌}
use Rattle.edge_walks.specs.Opening.{opens_for, opens_alone}
use Rattle.edge_walks.proofs.Opens.{all_not}
use Rattle.edge_walks.proofs.opening.opens_alone.Goals as goal

pub returns-then-not-clock_opens : goal.returns-then-not-clock_opens
unfolding opens_alone
returns-then-not-clock_opens c =
    all_not c.args.m.now.clocks c.loop-x.x (opens_for c.args.m.now c.args.e) (omega arith) (sym c.clock_opens.ensures ∙ c.if-not-clock_opens.true)
