-- Regions by their numbers: what a struct that is region i comes with, and how many regions there are.
use Prim.Native.Nat.{ℕ, ◌<◌}
use native.Mathlib.Omega.{arith}
use mathlib.Core.Path.{◌≡◌}
use mathlib.Core.List.{List}
use lib.ListN.{length, get_or}
use Rattle.theory.specs.Region.{regions}
use Rattle.theory.proofs.Enumeration.{region_at_lem}
use Rattle.region.specs.Limits.{Clocks, Ceiling}
use Rattle.region.specs.View.{view, struct_of, Small, Known}
use Rattle.region.specs.Packed.{unpack}
use Rattle.region_table.specs.Table.{packed_regions}
use Rattle.region.specs.declared.Region.{Region}
use Rattle.region.proofs.Known.{known_small, known_struct}
use Rattle.region_table.proofs.Listed.{listed_length, listed_known}
use Rattle.region_corners.specs.Corners.{region_at}

-- g is region i
pub record At (n M i : ℕ) (g : Region) : Type 0 where
  pub below : i < length (regions n M)
  pub known : Known n M g
  pub is : view n g ≡ region_at n M i

module _ {n M : ℕ} (k : Clocks n) (h : Ceiling M) where
  pub at_struct : (i : ℕ) → i < length (regions n M) → At n M i (struct_of (region_at n M i))
  at_struct i l = let (w, v) = known_struct n M k h (region_at n M i) (region_at_lem n M i l) in record { below = l; known = w; is = v }

  pub at_small : {i : ℕ} {g : Region} → At n M i g → Small g
  at_small {g = g} A = known_small n M k h g A.known

  -- an entry of the table
  pub at_listed : {s : List ℕ} {g : Region} → s ≡ packed_regions n M → (i : ℕ) → i < length s → g ≡ unpack (get_or s i 0) → At n M i g
  at_listed {s} {g} e i l q =
      let (w, v) = listed_known n M k h s e i l g q in record { below = omega (arith, listed_length n M k h s e); known = w; is = v }
