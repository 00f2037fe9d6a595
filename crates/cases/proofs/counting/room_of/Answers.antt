use Rattle.std.proofs.Common.{arith}
use Rattle.graph.proofs.States.{states_limit}
use Rattle.cases.proofs.counting.room_of.Goals as goal

pub returns-clause-has_room : goal.returns-clause-has_room
returns-clause-has_room c = omega (arith, states_limit c.args.plan.now.model c.args.plan.now.lawful, c.state_count.ensures)
