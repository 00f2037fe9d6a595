-- No label passed so far leads there.
use Prim.Native.Nat.{suc}
use Rattle.step_writer.proofs.Least.{NoneBefore}
use Rattle.step_writer.proofs.label.least_label.Given as goal

abbrev pub invariant-loop-e : goal.invariant-loop-e
invariant-loop-e l = NoneBefore l.space.plan.now.model l.p l.q (suc l.e)
