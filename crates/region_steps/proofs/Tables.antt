-- What a reader of the tables knows: which entries are numbers of regions, and of which.
use Prim.Native.Nat.{ℕ, ◌≤◌, ◌<◌}
use native.Mathlib.Omega.{arith}
use mathlib.Core.Path.{◌≡◌}
use mathlib.Core.Bool.{true}
use mathlib.Core.List.{List, []}
use lib.ListN.{length, get_or}
use Rattle.theory.specs.Region.{lawful, successor, reset_clocks, close_up, regions}
use Rattle.theory.specs.StateGraph.{index_in}
use Rattle.theory.proofs.Enumeration.{region_at_lem}
use Rattle.theory.proofs.RegionSteps.{reset_lawful}
use Rattle.region.specs.View.{mask_bits}
use Rattle.region_steps.specs.Tables.{Laters}
use Rattle.region_steps.proofs.Index.{index_le, index_back, index_below}

module _ (n M : ℕ) (later : List ℕ) (v : Laters n M later) (i : ℕ) (h : i < length (regions n M)) where
  pub later_le : get_or later i 0 ≤ length (regions n M)
  later_le = rw (v.is i h) (index_le (regions n M) (successor (get_or (regions n M) i [])))

  -- an entry below the number of regions is the number of the time successor
  pub later_region : get_or later i 0 < length (regions n M) → get_or (regions n M) (get_or later i 0) [] ≡ successor (get_or (regions n M) i [])
  later_region b = rw (v.is i h) (index_back (regions n M) (successor (get_or (regions n M) i [])) (rw (v.is i h) at b))

  -- any other says that there is none
  pub later_none : length (regions n M) ≤ get_or later i 0 → lawful n M (successor (get_or (regions n M) i [])) ≡ true → ⊥
  later_none b t = omega (arith, v.is i h, index_below n M (successor (get_or (regions n M) i [])) t)

-- a region after a reset has a number
pub reset_below : (n M k i : ℕ) → i < length (regions n M)
    → index_in (regions n M) (close_up (reset_clocks (mask_bits n k) (get_or (regions n M) i []))) < length (regions n M)
reset_below n M k i h =
    let xs = get_or (regions n M) i [] in
    index_below n M (close_up (reset_clocks (mask_bits n k) xs)) (reset_lawful n M (mask_bits n k) xs (region_at_lem n M i h))
