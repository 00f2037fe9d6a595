-- Regions of n clocks at ceiling M as structs, and their steps: what a caller of the methods needs.
use Prim.Native.Nat.{ℕ}
use native.Mathlib.Omega.{arith}
use mathlib.Core.Path.{◌≡◌, refl, sym, ap, ◌∙◌, subst}
use mathlib.Core.Bool.{Bool, true, false, cond}
use mathlib.Core.List.{List}
use lib.ListN.{replicate}
use Rattle.theory.specs.Region.{Clock, fits, lawful, successor, reset_clocks, close_up}
use Rattle.theory.proofs.Enumeration.{lawful-length}
use Rattle.theory.proofs.RegionSteps.{successor-lawful, reset_lawful}
use Rattle.limits.specs.Limits.{max_clocks}
use Rattle.region.specs.Limits.{Clocks, Ceiling}
use Rattle.region.specs.View.{view, struct_of, Small, time_of, later_of, mask_bits, Known}
use Rattle.region.specs.declared.Region.{Region}
use Rattle.std.proofs.Common.{Some, None}
use Rattle.region.proofs.Views.{view_struct, padded_struct, reset_view}
use Rattle.region.proofs.Packing.{lawful_small}

module _ (n M : ℕ) (k : Clocks n) (h : Ceiling M) where
  pub known_small : (g : Region) → Known n M g → Small g
  known_small g w = subst Small w.padded.same (lawful_small n M k h (view n g) w.lawful)

  -- the struct of a lawful region is known, and is that region
  pub known_struct : (xs : List Clock) → lawful n M xs ≡ true → Known n M (struct_of xs) × (view n (struct_of xs) ≡ xs)
  known_struct xs t =
      let e = lawful-length n M xs t in
      let v = view_struct n k xs e in
      (record { padded = padded_struct n k xs e; lawful = ap (lawful n M) v ∙ t }, v)

  -- ---- steps

  later_next : (xs : List Clock) (g : Region) → later_of (time_of n M xs) ≡ Some g
      → (fits (successor xs) (replicate n M) ≡ true) × (struct_of (successor xs) ≡ g)
  unfolding time_of
  later_next xs g e = by (fits (successor xs) (replicate n M)) refl e
    where
      by : (b : Bool) → fits (successor xs) (replicate n M) ≡ b → later_of (cond b (Some (successor xs)) None) ≡ Some g
          → (fits (successor xs) (replicate n M) ≡ true) × (struct_of (successor xs) ≡ g)
      by true q r = (q, cc)
      by false q r = let z : ◌≡◌ {A = ℕ} 0 1 = cc in absurd (omega arith)

  pub known_next : (g x : Region) → Known n M g → later_of (time_of n M (view n g)) ≡ Some x → Known n M x × (view n x ≡ successor (view n g))
  known_next g x w e =
      let (f, q) = later_next (view n g) x e in
      rw (sym q) (known_struct (successor (view n g)) (successor-lawful n M (view n g) w.lawful f))

  pub known_past : (g : Region) → later_of (time_of n M (view n g)) ≡ None → fits (successor (view n g)) (replicate n M) ≡ false
  unfolding time_of
  known_past g e = by (fits (successor (view n g)) (replicate n M)) e
    where
      by : (b : Bool) → later_of (cond b (Some (successor (view n g))) None) ≡ None → b ≡ false
      by true r = let z : ◌≡◌ {A = ℕ} 0 1 = cc in absurd (omega arith)
      by false r = refl

  pub known_reset : (mask : ℕ) (g x : Region) → Known n M g → x ≡ struct_of (close_up (reset_clocks (mask_bits max_clocks mask) (view max_clocks g)))
      → Known n M x × (view n x ≡ close_up (reset_clocks (mask_bits n mask) (view n g)))
  known_reset mask g x w e =
      let ys = close_up (reset_clocks (mask_bits n mask) (view n g)) in
      rw (e ∙ reset_view n k mask g w.padded) (known_struct ys (reset_lawful n M (mask_bits n mask) (view n g) w.lawful))
