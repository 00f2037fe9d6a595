-- Refused at the locations or at the edges, the whole is; else the end decides.
use native.Mathlib.Omega.{arith}
use Rattle.std.proofs.lemmas.Grind.{common_steps}
use mathlib.Core.Path.{ap}
use Rattle.parser.proofs.Bodies.{refused_first, refused_next, resolvable, ended}
use Rattle.parser.proofs.Cursor.body.Goals as goal

pub returns-in_err-locations : goal.returns-in_err-locations
returns-in_err-locations c =
    let e = refused_first c.args.self.now.bytes.now c.args.self.now.at c.args.mark c.args.m.now c.requires.blank c.in_err-locations.field-0.0 c.in_err-locations.ensures.read in
    grind (arith, common_steps, e)

pub returns-in_err-edges : goal.returns-in_err-edges
returns-in_err-edges c =
    let l = c.in_ok-locations.ensures in
    let e =
    refused_next c.args.self.now.bytes.now c.args.self.now.at c.args.mark c.args.m.now c.requires.blank
    _ _ (ap (λ b. b.now) l.bytes) l.same _ l.read c.in_err-edges.field-0.0 c.in_err-edges.ensures.read in
    grind (arith, common_steps, e)

pub finish-requires : goal.finish-requires
finish-requires c =
    let l = c.in_ok-locations.ensures in
    resolvable c.args.self.now.bytes.now c.args.self.now.at c.args.mark c.args.m.now c.requires.blank
    _ _ (ap (λ b. b.now) l.bytes) l.same _ l.read _ c.in_ok-edges.ensures.read c.requires.counted

pub returns : goal.returns
returns c =
    let l = c.in_ok-locations.ensures in
    let e =
    ended c.args.self.now.bytes.now c.args.self.now.at c.args.mark c.args.m.now c.requires.blank
    _ _ (ap (λ b. b.now) l.bytes) l.same _ l.read _ _ (ap (λ b. b.now) c.in_ok-edges.ensures.bytes) c.in_ok-edges.ensures.read in
    grind (arith, common_steps, e, c.finish.ensures)
