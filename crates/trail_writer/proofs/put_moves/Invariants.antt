-- `trail_writer::trail::put_moves` meets its contract. The invariant: what is laid goes with what is left of the path.
use lib.ListN.{length}
use Rattle.trail_writer.proofs.Moves.{Moving}
use Rattle.trail_writer.proofs.put_moves.Given as goal

abbrev pub invariant-loop-q : goal.invariant-loop-q
invariant-loop-q l = Moving l.space.plan.now.model l.space.table.now l.first l.targets (length l.initial.level) (length l.initial.queue) (length l.initial.walk) l.start l.path l.initial.out l.at l.out l.end l.p l.q-index
