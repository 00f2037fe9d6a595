-- `successors::flag_location` meets its contract.
use native.Mathlib.Omega.{arith}
use Rattle.successors.proofs.Flags.{packed_below, flags_room, flags_next}
use Rattle.successors.proofs.Room.{states_limit}
use Rattle.successors.proofs.flag_location.Goals as goal

pub flag_within-requires : goal.flag_within-requires
flag_within-requires c = let s = c.args.space.now in (packed_below s.plan.now.lawful s.listed, flags_room s.plan.now.lawful s.listed c.requires.0 c.args.allowed.now c.requires.1.long, omega (arith, c.requires.1.long, states_limit s.plan.now.lawful))

pub returns : goal.returns
returns c = let s = c.args.space.now in flags_next s.plan.now.lawful s.listed c.requires.0 c.requires.1 c.flag_within.ensures
