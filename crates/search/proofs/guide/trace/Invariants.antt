-- `search::guide::trace` meets its contract. The invariant: p is reached after i steps of the walk.
use Prim.Native.Nat.{◌<◌}
use mathlib.Core.Path.{◌≡◌}
use lib.ListN.{length}
use Rattle.search.specs.Flags.{Follows}
use Rattle.search.proofs.guide.trace.Given as goal

abbrev pub invariant-loop-i : goal.invariant-loop-i
invariant-loop-i g l = (l.p < length l.level) × (length l.path ≡ length l.initial.path)
    × Follows (g.G.Guide.leads l.guide) l.start (length l.initial.path) l.level l.path l.i l.p
