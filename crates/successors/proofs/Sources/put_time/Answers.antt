-- `successors::put_time` meets its contract.
use native.Mathlib.Omega.{arith}
use Rattle.successors.proofs.Tables.{time_found}
use Rattle.successors.proofs.Sources.put_time.Goals as goal

pub returns-then-j-self : goal.returns-then-j-self
returns-then-j-self c =
    time_found c.args.self.now.later.now c.args.self.now.allowed.now c.args.base c.args.i c.from-j.ensures
    (omega (arith, c.if-j-self.true)) c.put.ensures
