-- The table of all regions as packed numbers, and what of it belongs to fewer clocks and a smaller ceiling.
use Rattle.std.specs.Prelude.{ℕ, ◌≤◌, ◌<◌, ◌≡◌, Bool, false, cond, List, [], ◌∷◌, map, leb, length, get_or}
use Rattle.theory.specs.Region.{fits, regions}
use Rattle.limits.specs.Limits.{max_clocks, max_ceiling}
use Rattle.region.specs.View.{view}
use Rattle.region.specs.Packed.{pack_clocks, unpack}

-- the regions of n clocks at ceiling M, in order
unfoldable pub packed_regions : ℕ → ℕ → List ℕ
packed_regions n M = map pack_clocks (regions n M)

-- the regions of all clocks at the largest ceiling
abbrev pub packed : List ℕ
packed = packed_regions max_clocks max_ceiling

-- the limits of the clocks of the table, where a plan has n of them: those past n are 0
abbrev pub limits_of : ℕ → ℕ → List ℕ
limits_of n M = M ∷ cond (leb 2 n) M 0 ∷ cond (leb 3 n) M 0 ∷ []

-- a number of the table belongs to n clocks at ceiling M
unfoldable pub chosen : ℕ → ℕ → ℕ → Bool
chosen n M p = fits (view max_clocks (unpack p)) (limits_of n M)

-- after entry i the next that can belong is entry j
pub record Skips (n M : ℕ) (s : List ℕ) (i j : ℕ) : Type 0 where
  pub later : i < j
  pub within : j ≤ length s
  pub none : (k : ℕ) → i < k → k < j → chosen n M (get_or s k 0) ≡ false

-- of the numbers above p none below q belongs
pub record Gap (n M p q : ℕ) : Type 0 where
  pub later : p < q
  pub none : (x : ℕ) → p < x → x < q → chosen n M x ≡ false
