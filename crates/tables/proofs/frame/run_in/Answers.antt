-- `frame::run_in` meets its contract.
use native.Mathlib.Omega.{arith}
use mathlib.Core.Path.{refl}
use Rattle.tables.proofs.Arrays.{states_fit, firsts_fit, lent_room}
use Rattle.tables.proofs.frame.run_in.Goals as goal

pub whole_as_front-allowed : goal.whole_as_front-allowed
whole_as_front-allowed g c =
    let s = c.args.space.now in
    omega (arith, c.state_count-s.ensures, states_fit s.plan.now.lawful s.listed c.requires.fits)

pub whole_as_front-first : goal.whole_as_front-first
whole_as_front-first g c =
    let s = c.args.space.now in
    omega (arith, c.state_count-s.ensures, firsts_fit s.plan.now.lawful s.listed c.requires.fits)

pub run-requires-clause-room : goal.run-requires-clause-room
run-requires-clause-room g c =
    let s = c.args.space.now in
    lent_room s.plan.now.lawful s.listed c.requires.fits _ _ _ c.state_count-s.ensures refl c.shapes_end.ensures
