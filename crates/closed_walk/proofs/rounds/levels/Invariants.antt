-- `closed_walk::rounds::levels` meets its contract. The invariant is `Searched`, and no node before the level has a step to q. The measure: the nodes beyond place lo.
use Prim.Native.Nat.{◌-◌}
use mathlib.Core.Path.{◌≡◌}
use lib.ListN.{length}
use Rattle.theory.specs.Adjacency.{Adjacent}
use Rattle.search.specs.Held.{SameQueue}
use Rattle.search.specs.Rounds.{Searched}
use Rattle.closed_walk.specs.Rounds.{NoneBack}
use Rattle.closed_walk.proofs.rounds.levels.Given as goal

abbrev pub invariant-loop-lo : goal.invariant-loop-lo
invariant-loop-lo l = SameQueue l.initial.reached l.reached
    × (length l.reached.level.now ≡ l.steps.nodes)
    × Searched (Adjacent l.steps.first.now l.steps.targets.now) l.q l.x l.lo l.reached.end l.reached.level.now l.reached.queue.now
    × NoneBack l.steps.first.now l.steps.targets.now l.q l.reached.queue.now 0 l.lo

abbrev pub decreases-loop-lo : goal.decreases-loop-lo
decreases-loop-lo l = l.steps.nodes - l.lo
