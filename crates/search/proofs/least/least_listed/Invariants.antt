-- `search::least::least_listed` meets its contract. The invariant: what is left stands from this place on.
use lib.ListN.{length}
use Prim.Native.Nat.{◌<◌}
use Rattle.std.specs.Prelude.{unwrap_or, IfSome}
use Rattle.search.specs.Queue.{InList}
use Rattle.search.specs.Least.{At}
use Rattle.search.proofs.Scan.{Partly}
use Rattle.search.proofs.least.least_listed.Given as goal

abbrev pub invariant-loop-t : goal.invariant-loop-t
invariant-loop-t l = (IfSome l.fn.best (λ b. b < length l.level) → IfSome l.low (λ b. b < length l.level))
    × Partly (At l.level l.y (InList l.row l.base 0 (length l.row))) (At l.level l.y (InList l.row l.base l.t-index (length l.row)))
    (unwrap_or l.fn.best (length l.level)) (unwrap_or l.low (length l.level))
