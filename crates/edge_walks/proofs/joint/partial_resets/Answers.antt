-- The flags are those of the edges that count and do not reset every clock.
use native.Mathlib.Omega.{arith}
use Rattle.std.proofs.lemmas.Grind.{common_steps}
use Rattle.edge_walks.proofs.joint.partial_resets.Goals as goal

pub returns : goal.returns
returns c = record { at = λ e h. let flag = c.flag_edges.ensures e h in let opens = c.requires.flagged.at e h in grind (arith, common_steps, flag, opens) }
