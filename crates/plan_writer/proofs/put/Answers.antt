-- One number, as a list.
use native.Mathlib.Omega.{arith}
use mathlib.Core.Path.{ap, ◌∙◌}
use Prim.Native.Nat.{ℕ}
use lib.ListN.{length}
use Rattle.number.specs.Number.{spell}
use Rattle.spelling.proofs.Lays.{lays_as}
use Rattle.plan_writer.proofs.Laid.{spell_one}
use Rattle.plan_writer.proofs.put.Goals as goal

pub put-requires : goal.put-requires
put-requires c = (omega arith, omega (arith, ap (λ (v : ℕ). length (spell v)) c.from.ensures, ap length (spell_one c.args.v), c.requires))

pub returns : goal.returns
returns c = lays_as c.put.ensures (ap spell c.from.ensures ∙ spell_one _)
