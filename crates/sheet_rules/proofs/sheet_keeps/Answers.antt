-- `sheet_rules::sheet_keeps` meets its contract. The invariant: the locations passed keep the rules.
use native.Mathlib.Omega.{arith}
use borrow.Author.Count.{below_more}
use Rattle.sheet_rules.proofs.Keeps.{told, denied, refuted, upheld, shuts, opens}
use Rattle.sheet_rules.proofs.Models.{some_regions, location_fits, sizes_are, keeps_told}
use Rattle.sheet_rules.proofs.sheet_keeps.Goals as goal

pub is_in-requires : goal.is_in-requires
is_in-requires c =
    omega (
      arith,
      some_regions _ _ c.regions_in-regions.ensures,
      location_fits _ _ c.regions_in-regions.ensures _ c.requires.long c.from.result
          (omega (arith, c.from.ensures, c.requires.filled.lawful.start)),
    )

pub returns-then-not-is_in : goal.returns-then-not-is_in
returns-then-not-is_in c =
    keeps_told _ c.requires.filled _ c.regions_in-regions.ensures c.args.sheet.now c.requires.blank _
    (denied (λ K. (rw c.from.ensures at (shuts c.is_in.ensures c.if-not-is_in.true)) K.start_in))

pub invariant_of-location : goal.invariant_of-location
invariant_of-location c =
    record {
      asked = record {
        room = location_fits _ _ c.regions_in-regions.ensures _ c.requires.long c.loop-l.l (omega (arith, c.loop-l-test.true));
        sizes = sizes_are _ c.requires.filled _ c.regions_in-regions.ensures _ c.requires.long;
      };
    }

pub returns-then-not-keeps : goal.returns-then-not-keeps
returns-then-not-keeps c =
    keeps_told _ c.requires.filled _ c.regions_in-regions.ensures c.args.sheet.now c.requires.blank _
    (denied (λ K. refuted c.keeps.ensures c.if-not-keeps.true (K.states c.loop-l.l (omega (arith, c.loop-l-test.true)))))

pub loop-l-preserved : goal.loop-l-preserved
loop-l-preserved c = below_more _ _ c.loop-l.invariant (upheld c.keeps.ensures c.if-not-keeps.false)

pub returns : goal.returns
returns c =
    let loop = c.loop-l in
    keeps_told _ c.requires.filled _ c.regions_in-regions.ensures c.args.sheet.now c.requires.blank _
    (told (record {
      start_in = rw c.from.ensures at (opens c.is_in.ensures c.if-not-is_in.false);
      states = λ k h. loop.invariant k (omega (arith, c.loop-l-test.false));
    }))
