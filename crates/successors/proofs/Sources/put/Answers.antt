-- `Sources::put` meets its contract.
use native.Mathlib.Omega.{arith}
use mathlib.Core.Path.{refl}
use Rattle.successors.proofs.Room.{states_limit}
use Rattle.successors.proofs.Rows.{puts_one}
use Rattle.successors.proofs.Sources.put.Goals as goal

pub overflow_cast-targets : goal.overflow_cast-targets
overflow_cast-targets c =
    let s = c.args.self.now in
    omega (arith, s.given.flags.long, states_limit s.given.lawful)

pub returns-then-self-q-eq1 : goal.returns-then-self-q-eq1
returns-then-self-q-eq1 c = puts_one c.args.targets.now c.args.n c.args.q c.requires.1 (refl, c.if-self-q-eq1.true) (λ x t. t.0)
