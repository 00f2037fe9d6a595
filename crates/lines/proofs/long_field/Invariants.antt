use Rattle.std.proofs.Common.{◌≤◌}
use Rattle.lines.proofs.long_field.Given as goal

abbrev pub invariant-loop-c : goal.invariant-loop-c
invariant-loop-c l = l.at ≤ l.c-index
