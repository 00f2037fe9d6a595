-- `region_at` meets its contract.
use native.Mathlib.Omega.{arith}
use Rattle.region_table.proofs.Listed.{listed_length, listed_below, listed_known}
use Rattle.region_steps.proofs.region_at.Goals as goal

pub offset_bounds-table-i : goal.offset_bounds-table-i
offset_bounds-table-i c = omega (arith, listed_length c.args.n c.args.ceiling c.requires.0 c.requires.1 c.args.table.now c.requires.2)

pub bounds-table-i : goal.bounds-table-i
bounds-table-i c = omega (arith, listed_length c.args.n c.args.ceiling c.requires.0 c.requires.1 c.args.table.now c.requires.2)

pub unpack-requires : goal.unpack-requires
unpack-requires c =
    listed_below c.args.n c.args.ceiling c.requires.0 c.requires.1 c.args.table.now c.requires.2 c.args.i
    (omega (arith, listed_length c.args.n c.args.ceiling c.requires.0 c.requires.1 c.args.table.now c.requires.2))

pub returns-clause-known : goal.returns-clause-known
returns-clause-known c = (listed_known c.args.n c.args.ceiling c.requires.0 c.requires.1 c.args.table.now c.requires.2 c.args.i
    (omega (arith, listed_length c.args.n c.args.ceiling c.requires.0 c.requires.1 c.args.table.now c.requires.2))
    c.unpack.result c.unpack.ensures).0

pub returns-clause-result_value : goal.returns-clause-result_value
returns-clause-result_value c = (listed_known c.args.n c.args.ceiling c.requires.0 c.requires.1 c.args.table.now c.requires.2 c.args.i
    (omega (arith, listed_length c.args.n c.args.ceiling c.requires.0 c.requires.1 c.args.table.now c.requires.2))
    c.unpack.result c.unpack.ensures).1
