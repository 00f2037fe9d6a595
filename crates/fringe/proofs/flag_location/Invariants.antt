-- `fringe::flag_location` meets its contract. The invariant: the regions passed have their flags.
use Rattle.shapes.specs.Layout.{corners_in}
use Rattle.fringe.specs.Flags.{LocationFlags}
use Rattle.fringe.proofs.flag_location.Given as goal

abbrev pub invariant-loop-i : goal.invariant-loop-i
invariant-loop-i l = LocationFlags l.sheet (corners_in l.regions l.shapes) l.base l.regions l.i l.initial.flags l.flags
