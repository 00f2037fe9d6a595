-- Refused in a round, all edges are.
use native.Mathlib.Omega.{arith}
use Rattle.std.proofs.lemmas.Grind.{common_steps}
use mathlib.Core.Path.{ap}
use Rattle.parser.proofs.Stops.{edges_refused}
use Rattle.parser.proofs.Cursor.edges.Goals as goal

pub returns-in_err-edge-clause-read : goal.returns-in_err-edge-clause-read
returns-in_err-edge-clause-read c =
    let i = c.loop-e.invariant in
    let e =
    edges_refused c.args.self.now.bytes.now c.args.m.now.edges _ _ _ _ _ _ _ _ _ _ c.in_err-edge.field-0.0
    (omega arith) i.read (ap (λ b. b.now) i.bytes) i.same.clocks i.same.ceiling i.same.locations c.in_err-edge.ensures.read in
    grind (arith, common_steps, e)
