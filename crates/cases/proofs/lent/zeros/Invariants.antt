-- Each number passed adds at most 2.
use Prim.Native.Nat.{◌*◌, ◌≤◌}
use Rattle.cases.proofs.lent.zeros.Given as goal

abbrev pub invariant-loop-i : goal.invariant-loop-i
invariant-loop-i l = l.n ≤ 2 * l.i
