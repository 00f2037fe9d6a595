use Rattle.std.proofs.Common.{◌≤◌, ◌-◌, length}
use Rattle.printing.specs.Text.{Grows}
use Rattle.search_cases.proofs.cases.Given as goal

abbrev pub invariant-loop-p : goal.invariant-loop-p
invariant-loop-p g l = record {
  in_bounds : l.p ≤ length l.text;
  grown : Grows (g.W.Write.contents l.fn.to) (g.W.Write.contents l.to);
}

abbrev pub decreases-loop-p : goal.decreases-loop-p
decreases-loop-p g l = length l.text - l.p
