-- `closed_walk::rounds::leads_back` meets its contract. The invariant: no node before place i has a step to q.
use Rattle.closed_walk.specs.Rounds.{NoneBack}
use Rattle.closed_walk.proofs.rounds.leads_back.Given as goal

abbrev pub invariant-loop-i : goal.invariant-loop-i
invariant-loop-i l = NoneBack l.steps.first.now l.steps.targets.now l.q l.reached.queue.now l.lo l.i
