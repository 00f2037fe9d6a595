-- `merged` meets its contract: the loop drops the starts above w; the first start is 0, so one is left.
use Rattle.component.proofs.Scans.{MergedTo}
use Rattle.component.specs.Stack.{at}
use Rattle.component.proofs.Pass.merged.Given as goal

abbrev pub invariant-loop-r : goal.invariant-loop-r
invariant-loop-r l = MergedTo (at l.self.start.now) l.self.segs l.w l.r

abbrev pub decreases-loop-r : goal.decreases-loop-r
decreases-loop-r l = l.r
