-- After e turns the first e flags are what the test says.
use native.Mathlib.Omega.{arith}
use mathlib.Core.Path.{◌∙◌}
use Prim.Native.Nat.{ℕ}
use mathlib.Core.Bool.{Bool}
use lib.ListN.{length-set}
use Rattle.edge_walks.proofs.Opens.{put_flag}
use Rattle.edge_walks.proofs.opening.flag_edges.Goals as goal

pub loop-e-preserved : goal.loop-e-preserved
loop-e-preserved g c = (
  length-set c.loop-e.flags c.loop-e.e _ ∙ c.loop-e.invariant.0,
  put_flag (λ (i : ℕ) (b : Bool). goal.F-post g c.args.pass i b) c.loop-e.flags c.loop-e.e _ (omega arith) c.pass.ensures c.loop-e.invariant.1,
)
