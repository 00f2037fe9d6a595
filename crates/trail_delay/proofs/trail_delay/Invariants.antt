-- `trail_delay::trail_delay` meets its contract. What is added so far goes with what is left of the path.
use Rattle.trail_delay.proofs.Delays.{Summed}
use Rattle.trail_delay.proofs.trail_delay.Given as goal

abbrev pub invariant-loop-q : goal.invariant-loop-q
invariant-loop-q l = Summed l.space.plan.now.model l.path l.base l.rate l.p l.q-index
