-- Refused in a round, all locations are.
use native.Mathlib.Omega.{arith}
use Rattle.std.proofs.lemmas.Grind.{common_steps}
use mathlib.Core.Path.{ap}
use Rattle.parser.proofs.Stops.{locations_refused}
use Rattle.parser.proofs.Cursor.locations.Goals as goal

pub returns-in_err-location-clause-read : goal.returns-in_err-location-clause-read
returns-in_err-location-clause-read c =
    let i = c.loop-l.invariant in
    let e =
    locations_refused c.args.self.now.bytes.now c.args.m.now.locations _ _ _ _ _ _ _ _ c.in_err-location.field-0.0
    (omega arith) i.read (ap (λ b. b.now) i.bytes) i.same.clocks i.same.ceiling c.in_err-location.ensures.read in
    grind (arith, common_steps, e)
