-- The table: its length, its rule, and the bound of its entries.
use Prim.Native.Nat.{ℕ, ◌<◌}
use native.Mathlib.Omega.{arith}
use mathlib.Core.Path.{◌≡◌, refl, sym, ◌∙◌}
use mathlib.Core.Bool.{true, ◌&&◌}
use mathlib.Core.List.{List, Memᴰ}
use lib.ListN.{length, get_or}
use lib.Dec.{eqb}
use borrow.Author.Tests.{eqb-true}
use Rattle.theory.specs.Region.{Clock, lawful, regions}
use Rattle.theory.proofs.Below.{and_left, and_right}
use Rattle.theory.proofs.Lists.{map_law}
use Rattle.theory.proofs.Enumeration.{regions_law}
use Rattle.theory.proofs.RegionCount.{count_law}
use Rattle.limits.specs.Limits.{max_clocks, max_ceiling, max_regions}
use Rattle.region.specs.Packed.{packed_bound, pack_clocks}
use Rattle.region_table.specs.Table.{packed_regions, packed}
use Rattle.region_table.specs.Lookup.{Increasing}
use Rattle.region_table.proofs.Packed.{packed_length, packed_increasing, packed_below}
use Rattle.region_table.proofs.Chosen.{all_clocks, full_ceiling}

pub table_length : length packed ≡ max_regions
table_length = packed_length max_clocks max_ceiling ∙ sym (count_law max_clocks max_ceiling (omega arith) (omega arith))

-- ---- 01: "its rule (lawful, ascending, complete) is shown over all of it"

pub table_lawful : (p : ℕ) → Memᴰ p packed → (xs : List Clock) × (lawful max_clocks max_ceiling xs ≡ true) × (p ≡ pack_clocks xs)
unfolding packed_regions
table_lawful p m = let (xs, k, e) = (map_law pack_clocks (regions max_clocks max_ceiling) p).0 m in (xs, (regions_law max_clocks max_ceiling xs).0 k, e)

pub table_complete : (xs : List Clock) → lawful max_clocks max_ceiling xs ≡ true → Memᴰ (pack_clocks xs) packed
unfolding packed_regions
table_complete xs t = (map_law pack_clocks (regions max_clocks max_ceiling) (pack_clocks xs)).1 (xs, (regions_law max_clocks max_ceiling xs).1 t, refl)

pub table_ascending : Increasing packed
table_ascending = packed_increasing max_clocks max_ceiling all_clocks full_ceiling

pub entry_small : (i : ℕ) → i < max_regions → get_or packed i 0 < packed_bound
entry_small i h =
    packed_below max_clocks max_ceiling all_clocks full_ceiling i (omega (arith, table_length, packed_length max_clocks max_ceiling))

-- all clocks at the largest ceiling have as many regions as the table
pub whole_count : (n M : ℕ) → (eqb n max_clocks && eqb M max_ceiling) ≡ true → max_regions ≡ length (regions n M)
whole_count n M t =
    let a : n ≡ max_clocks = eqb-true n max_clocks (and_left (eqb n max_clocks) (eqb M max_ceiling) t) in
    let b : M ≡ max_ceiling = eqb-true M max_ceiling (and_right (eqb n max_clocks) (eqb M max_ceiling) t) in
    rw (a, b) (sym table_length ∙ packed_length max_clocks max_ceiling)
