-- The list of the packed regions of n clocks at ceiling M: its length, its order, its entries.
use Prim.Native.Nat.{ℕ, ◌<◌}
use mathlib.Core.Path.{◌≡◌}
use mathlib.Core.List.{[]}
use lib.ListN.{length, get_or, get_or-map, length-map}
use Rattle.theory.specs.Region.{regions}
use Rattle.theory.proofs.Sorted.{sorted_map}
use Rattle.theory.proofs.Enumeration.{regions_law, regions_ascending, region_at_lem}
use Rattle.region.specs.Limits.{Clocks, Ceiling}
use Rattle.region.specs.View.{struct_of}
use Rattle.region.specs.Packed.{packed_bound, pack_clocks}
use Rattle.region.proofs.Packing.{pack_small, lawful_small, pack_before}
use Rattle.region_table.specs.Table.{packed_regions}
use Rattle.region_table.specs.Lookup.{Increasing}

pub packed_length : (n M : ℕ) → length (packed_regions n M) ≡ length (regions n M)
unfolding packed_regions
packed_length n M = length-map (regions n M) pack_clocks

module _ (n M : ℕ) (k : Clocks n) (h : Ceiling M) where
  -- ascending regions have ascending numbers
  pub packed_increasing : Increasing (packed_regions n M)
  unfolding packed_regions
  packed_increasing =
      sorted_map pack_clocks (regions_ascending n M)
      (λ xs ys m l b. pack_before n M k h xs ys ((regions_law n M xs).0 m) ((regions_law n M ys).0 l) b)

  pub packed_at : (i : ℕ) → i < length (regions n M) → get_or (packed_regions n M) i 0 ≡ pack_clocks (get_or (regions n M) i [])
  unfolding packed_regions
  packed_at i l = get_or-map pack_clocks (regions n M) i []

  pub packed_below : (i : ℕ) → i < length (regions n M) → get_or (packed_regions n M) i 0 < packed_bound
  packed_below i l =
      let xs = get_or (regions n M) i [] in
      rw (packed_at i l) (pack_small (struct_of xs) (lawful_small n M k h xs (region_at_lem n M i l)))
