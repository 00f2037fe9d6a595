-- `sheet_rules::sheet_keeps` meets its contract. The invariant: the locations passed keep the rules.
use Prim.Native.Nat.{ℕ, ◌*◌, ◌<◌}
use lib.ListN.{get_or}
use lib.Dec.{eqb}
use Rattle.sheet_rules.specs.Rules.{LocationKeeps}
use Rattle.sheet_rules.proofs.sheet_keeps.Given as goal

abbrev pub invariant-loop-l : goal.invariant-loop-l
invariant-loop-l l =
    (k : ℕ) → k < l.l → LocationKeeps l.sheet l.first l.targets l.shapes (k * l.regions) l.regions (eqb (get_or l.m.kind k 0) 1)
