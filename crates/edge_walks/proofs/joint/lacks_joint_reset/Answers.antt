-- The flags are those of the edges that count and do not reset every clock, and nothing else is looked at; without an edge there are none.
use mathlib.Core.Path.{◌∙◌}
use Rattle.edge_walks.specs.Joint.{lacks_joint_reset}
use Rattle.edge_walks.proofs.ClosedWalks.{flagged_cycle}
use Rattle.edge_walks.proofs.Joints.{no_edges}
use Rattle.edge_walks.proofs.joint.lacks_joint_reset.Goals as goal

pub returns-then-m-eq0 : goal.returns-then-m-eq0
returns-then-m-eq0 c = no_edges c.args.m.now c.requires c.if-m-eq0.true

pub returns : goal.returns
unfolding lacks_joint_reset
returns c = c.has_cycle.ensures ∙ flagged_cycle c.partial_resets.ensures
