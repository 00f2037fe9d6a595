-- `select` meets its contract: the entries before i have been tried or cannot pass, and those that pass stand at the front.
use mathlib.Core.Path.{sym, ap, ◌∙◌}
use lib.ListN.{length}
use Rattle.std.proofs.lemmas.List.{length-take-le}
use Rattle.limits.specs.Limits.{max_regions}
use native.Mathlib.Omega.{arith}
use Rattle.region_table.specs.Table.{packed, chosen}
use Rattle.region_table.proofs.Selection.{filled_in, filled_skip, selects}
use Rattle.region_table.proofs.Entries.{table_length, table_ascending, entry_small, whole_count}
use Rattle.region_table.proofs.select.Goals as goal

pub copy_from_slice-requires : goal.copy_from_slice-requires
copy_from_slice-requires c = length-take-le max_regions c.args.out.now c.requires.2 ∙ sym (ap length c.entries-all.ensures ∙ table_length)

pub returns-then-is_whole-clause-value : goal.returns-then-is_whole-clause-value
returns-then-is_whole-clause-value c = whole_count c.args.n c.args.ceiling (sym c.is_whole.ensures ∙ c.if-is_whole.true)

pub selected-requires : goal.selected-requires
selected-requires c = rw c.entries-all.ensures (entry_small c.loop-i.i c.loop-i-test.true)

pub loop-i-preserved-then-selected : goal.loop-i-preserved-then-selected
loop-i-preserved-then-selected c =
    let a = c.args in
    let e = c.entries-all.ensures in
    let x = rw e at (sym c.selected.ensures ∙ c.if-selected.true) in (
      e,
      rw e (filled_in (chosen a.n a.ceiling) packed a.out.now c.loop-i.out c.loop-i.i c.loop-i.k c.loop-i.invariant.1
          (omega (arith, table_length)) (omega (arith, table_length)) x),
    )

pub next-i-requires : goal.next-i-requires
next-i-requires c =
    rw c.entries-all.ensures
    (table_ascending, omega (arith, table_length), entry_small c.loop-i.i (omega arith))

pub loop-i-preserved : goal.loop-i-preserved
loop-i-preserved c =
    let a = c.args in
    let e = c.entries-all.ensures in
    let x = rw e at (sym c.selected.ensures ∙ c.if-selected.false) in (
      e,
      filled_skip a.n a.ceiling a.out.now c.loop-i.out c.loop-i.i c.loop-i.k c.loop-i.invariant.1 _ x (rw e at c.next-i.ensures),
    )

pub returns : goal.returns
returns c =
    let (a, b) = selects c.args.n c.args.ceiling _ _ _ _ c.loop-i.invariant.1 c.requires.0 c.requires.1
    (omega (arith, table_length)) in
    record {
      value = a;
      out_after = b;
      upper_bound = omega (arith, c.loop-i.invariant.1.few, c.loop-i.invariant.1.within, table_length);
    }
