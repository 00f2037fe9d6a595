-- Refused at the kind or in a round, the whole location is.
use native.Mathlib.Omega.{arith}
use Rattle.std.proofs.lemmas.Grind.{common_steps}
use mathlib.Core.Path.{ap}
use Rattle.parser.proofs.Stops.{kind_refused, fields_refused}
use Rattle.parser.proofs.Cursor.location.Goals as goal

pub returns-in_err-m-clause-read : goal.returns-in_err-m-clause-read
returns-in_err-m-clause-read c =
    let s = c.args in
    let m = s.m.now in
    let e = kind_refused s.self.now.bytes.now m.clocks m.ceiling s.l s.self.now.at m c.in_err-m.field-0.0 c.in_err-m.ensures.value in
    grind (arith, common_steps, e)

pub returns-in_err-m-2-clause-read : goal.returns-in_err-m-2-clause-read
returns-in_err-m-2-clause-read c =
    let i = c.loop-x.invariant in
    let e =
    fields_refused c.args.self.now.bytes.now c.args.m.now.clocks _ _ _ _ _ _ _ _ c.in_err-m-2.field-0.0
    (omega arith) i.read (ap (λ b. b.now) i.bytes) i.same.ceiling c.in_err-m-2.ensures.value in
    grind (arith, common_steps, e)
