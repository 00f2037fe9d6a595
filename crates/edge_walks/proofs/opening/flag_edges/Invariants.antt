-- After e turns the first e flags are what the test says.
use Prim.Native.Nat.{ℕ, ◌<◌}
use mathlib.Core.Path.{◌≡◌}
use lib.ListN.{length}
use Rattle.limits.specs.Limits.{max_edges}
use Rattle.edge_walks.specs.Opening.{flag_at}
use Rattle.edge_walks.proofs.opening.flag_edges.Given as goal

abbrev pub invariant-loop-e : goal.invariant-loop-e
invariant-loop-e g l = (length l.flags ≡ max_edges) × ((i : ℕ) → i < l.e → goal.F-post g l.pass i (flag_at l.flags i))
