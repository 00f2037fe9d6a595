-- Refused in a round, the whole edge is.
use native.Mathlib.Omega.{arith}
use Rattle.std.proofs.lemmas.Grind.{common_steps}
use mathlib.Core.Path.{ap}
use Rattle.parser.proofs.Stops.{guards_refused}
use Rattle.parser.proofs.Cursor.edge.Goals as goal

pub returns-in_err-guard-clause-read : goal.returns-in_err-guard-clause-read
returns-in_err-guard-clause-read c =
    let i = c.loop-x.invariant in
    let e =
    guards_refused c.args.self.now.bytes.now c.args.m.now.clocks _ _ _ _ _ _ _ c.in_err-guard.field-0.0
    (omega arith) i.read (ap (λ b. b.now) i.bytes) i.same.ceiling c.in_err-guard.ensures.read in
    grind (arith, common_steps, e)
