-- `search::least::Steps::least` meets its contract: the successors stand in the row.
use native.Mathlib.Omega.{arith}
use Rattle.search.proofs.Rows.{row_in, row_out, row_below}
use Rattle.search.proofs.Scan.{least_same}
use Rattle.search.proofs.row.Steps.least.Goals as goal

pub least_listed-requires : goal.least_listed-requires
least_listed-requires c = rw c.row.ensures (λ i h. omega (arith, row_below c.args.self.rows c.requires.0 i h, c.requires.1))

pub returns : goal.returns
returns c =
    let L = rw c.row.ensures at c.least_listed.ensures in
    record {
      is = least_same L.is (λ q t. record { has = t.has; is = row_in c.args.self.rows c.requires.0 q t.is }) (λ q t. record { has = t.has; is = row_out c.args.self.rows c.requires.0 q t.is });
      below = L.below tt;
    }
