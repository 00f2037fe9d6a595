-- The flags are those of the edges that can open alone.
use native.Mathlib.Omega.{arith}
use Rattle.std.proofs.lemmas.Grind.{common_steps}
use Rattle.edge_walks.proofs.opening.open_edges.Goals as goal

pub returns : goal.returns
returns c = record { at = λ e h. let flag = c.flag_edges.ensures e h in grind (arith, common_steps, flag) }
