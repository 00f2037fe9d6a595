use Rattle.std.proofs.Common.{◌≤◌, length}
use Rattle.lines.proofs.numbers.Given as goal

abbrev pub invariant-loop-c : goal.invariant-loop-c
invariant-loop-c l = l.n ≤ length l.out
