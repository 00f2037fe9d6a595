-- `successors::list_leaving` meets its contract. The invariant: the edges below e are tried.
use Rattle.successors.proofs.Leaving.{Listed}
use Rattle.successors.proofs.list_leaving.Given as goal

abbrev pub invariant-loop-e : goal.invariant-loop-e
invariant-loop-e l = Listed l.m l.l l.initial.edges l.edges l.e l.n
