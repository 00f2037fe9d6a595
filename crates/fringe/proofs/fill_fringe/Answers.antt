-- `fringe::fill_fringe` meets its contract. The invariant: the locations passed have the flags of the fringe.
use native.Mathlib.Omega.{arith}
use mathlib.Core.Path.{sym, ◌∙◌}
use Rattle.sheet_rules.proofs.Models.{location_fits}
use Rattle.fringe.proofs.Flags.{tables_of, fringe_more}
use Rattle.fringe.proofs.fill_fringe.Goals as goal

pub flag_location-requires : goal.flag_location-requires
flag_location-requires c =
    let loop = c.loop-l in
    let tables = tables_of c.requires.lawful c.requires.tables _ c.regions_in-regions.ensures in
    record {
      room = location_fits _ _ c.regions_in-regions.ensures _ c.requires.long loop.l (omega (arith, c.loop-l-test.true));
      long = loop.invariant.long ∙ sym c.requires.long;
      tables = tables.room;
      slots = tables.slots;
    }

pub loop-l-preserved : goal.loop-l-preserved
loop-l-preserved c =
    fringe_more c.requires.lawful c.requires.tables _ c.regions_in-regions.ensures _ c.requires.blank c.loop-l.l (omega (arith, c.loop-l-test.true))
    c.loop-l.invariant c.flag_location.ensures
