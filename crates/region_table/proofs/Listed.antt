-- Regions of n clocks at ceiling M and their indices: what a caller needs of a list of packed regions.
use Prim.Native.Nat.{ℕ, ◌≤◌, ◌<◌}
use native.Mathlib.Omega.{arith}
use mathlib.Core.Path.{◌≡◌, sym, ap, ◌∙◌, subst}
use mathlib.Core.List.{List, [], ◌++◌}
use lib.ListN.{length, get_or, take, length-append}
use lib.Seq.{take_at}
use Rattle.theory.specs.Region.{regions}
use Rattle.theory.proofs.Enumeration.{region_at_lem, index_at}
use Rattle.region.specs.Limits.{Clocks, Ceiling}
use Rattle.region.specs.View.{view, struct_of, Small, Known}
use Rattle.region.specs.Packed.{packed_bound, pack, pack_clocks, unpack}
use Rattle.region.specs.declared.Region.{Region}
use Rattle.region.proofs.Packing.{unpack-pack, lawful_small}
use Rattle.region.proofs.Known.{known_struct}
use Rattle.region_table.specs.Table.{packed_regions}
use Rattle.region_table.specs.Lookup.{found_in, Increasing}
use Rattle.std.proofs.Common.{Some}
use Rattle.region_table.proofs.Lookup.{found_at, at_found}
use Rattle.region_table.proofs.Packed.{packed_length, packed_increasing, packed_at, packed_below}

module _ (n M : ℕ) (k : Clocks n) (h : Ceiling M) where
  -- the number at an index is that of the region with this index
  pub known_at : (i : ℕ) → i < length (regions n M)
      → Known n M (unpack (get_or (packed_regions n M) i 0)) × (view n (unpack (get_or (packed_regions n M) i 0)) ≡ get_or (regions n M) i [])
  known_at i l =
      let xs = get_or (regions n M) i [] in
      let t = region_at_lem n M i l in
      let e : unpack (get_or (packed_regions n M) i 0) ≡ struct_of xs
      = ap unpack (packed_at n M k h i l) ∙ unpack-pack (struct_of xs) (lawful_small n M k h xs t) in
      subst (λ (g : Region). Known n M g × (view n g ≡ xs)) (sym e) (known_struct n M k h xs t)

  -- a region is found at its index
  pub known_found : (g : Region) → Known n M g
      → (i : ℕ) × (i < length (regions n M)) × (get_or (regions n M) i [] ≡ view n g) × (found_in (packed_regions n M) (pack g) ≡ Some i)
  known_found g w =
      let (i, l, e) = index_at n M (view n g) w.lawful in
      let p : get_or (packed_regions n M) i 0 ≡ pack g = packed_at n M k h i l ∙ ap pack_clocks e ∙ ap pack w.padded.same in
      (i, l, e, found_at (packed_regions n M) (pack g) i (packed_increasing n M k h) (omega (arith, packed_length n M)) p)

  -- what is found is a region, and no other struct has its number
  pub found_known : (g : Region) → Small g → (i : ℕ) → found_in (packed_regions n M) (pack g) ≡ Some i
      → (i < length (regions n M)) × Known n M g × (get_or (regions n M) i [] ≡ view n g)
  found_known g s i e =
      let (l, p) = at_found (packed_regions n M) (pack g) i e in
      let l : i < length (regions n M) = omega (arith, packed_length n M) in
      let (w, v) = known_at i l in
      let q : unpack (get_or (packed_regions n M) i 0) ≡ g = ap unpack p ∙ unpack-pack g s in
      (l, subst (Known n M) q w, sym v ∙ ap (view n) q)

  -- ---- a list that holds the packed regions

  module _ (s : List ℕ) (e : s ≡ packed_regions n M) where
    pub listed_length : length s ≡ length (regions n M)
    listed_length = ap length e ∙ packed_length n M

    pub listed_increasing : Increasing s
    listed_increasing = rw e (packed_increasing n M k h)

    pub listed_below : (i : ℕ) → i < length s → get_or s i 0 < packed_bound
    listed_below i l = rw e (packed_below n M k h i (omega (arith, listed_length)))

    pub listed_known : (i : ℕ) → i < length s → (g : Region) → g ≡ unpack (get_or s i 0) → Known n M g × (view n g ≡ get_or (regions n M) i [])
    listed_known i l g q =
        subst (λ (g : Region). Known n M g × (view n g ≡ get_or (regions n M) i []))
        (sym (q ∙ ap (λ (s : List ℕ). unpack (get_or s i 0)) e)) (known_at i (omega (arith, listed_length)))

-- what a selection leaves at the front of a slice
module _ (n M k : ℕ) (out rest : List ℕ) (c : k ≡ length (regions n M)) (e : out ≡ packed_regions n M ++ rest) where
  pub front_within : k ≤ length out
  front_within = rw e (omega (arith, length-append (packed_regions n M) rest, packed_length n M))

  pub front_selected : take k out ≡ packed_regions n M
  front_selected = rw e (take_at (packed_regions n M) rest k (packed_length n M ∙ sym c))

  pub front_length : k ≡ length (take k out)
  front_length = sym (ap length front_selected ∙ packed_length n M ∙ sym c)
