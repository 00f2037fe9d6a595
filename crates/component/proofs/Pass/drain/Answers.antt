-- With the path empty the stack is empty.
use native.Mathlib.Omega.{arith}
use mathlib.Core.Path.{◌≡◌}
use Rattle.component.proofs.PassLaws.{empty}
use Rattle.component.proofs.Ends.{pass_idle}
use Rattle.component.proofs.Pass.drain.Goals as goal

pub returns-clause-idle : goal.returns-clause-idle
returns-clause-idle c =
    let P = c.loop-self.invariant.pass in
    let z : c.loop-self.self.depth ≡ 0 = omega arith in
    let (t, s) = empty P z in
    record { pass = pass_idle P z; top = t; segs = s; depth = z }
