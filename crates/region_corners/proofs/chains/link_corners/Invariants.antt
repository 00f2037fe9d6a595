-- `chains::link_corners` meets its contract. The invariant: the chains lead through the slots passed.
use Rattle.region_corners.proofs.Linking.{Linking}
use Rattle.region_corners.proofs.chains.link_corners.Given as goal

abbrev pub invariant-loop-slot : goal.invariant-loop-slot
invariant-loop-slot l = Linking l.corners l.links l.heads l.initial.shapes l.shapes l.slot
