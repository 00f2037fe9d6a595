-- 01's counts are the lengths of the lists of regions; their terms are small, as the ceiling is.
use Prim.Native.Nat.{ℕ, ◌+◌, ◌*◌, ◌≤◌}
use native.Mathlib.Nat.{mul-le-mul, le_refl}
use native.Mathlib.Omega.{arith}
use mathlib.Core.Path.{◌≡◌, sym, ap, ◌∙◌}
use lib.ListN.{length}
use Rattle.theory.specs.Region.{regions}
use Rattle.theory.specs.Enumeration.{count_of}
use Rattle.theory.proofs.RegionCount.{count_law}
use Rattle.limits.specs.Limits.{max_ceiling, max_regions}
use Rattle.region.specs.Limits.{Clocks, Ceiling}
use Rattle.region.proofs.Views.{three}

-- a bound for each product of the counts
pub record Terms (M c : ℕ) : Type 0 where
  pub square : M * M ≤ c * c
  pub cube : M * M * M ≤ c * c * c
  pub next : (M + 1) * (M + 1) ≤ (c + 1) * (c + 1)
  pub all : (M + 1) * (M + 1) * (M + 1) ≤ (c + 1) * (c + 1) * (c + 1)
  pub two : 3 * M * ((M + 1) * (M + 1)) ≤ 3 * c * ((c + 1) * (c + 1))
  pub one : 9 * (M * M) * (M + 1) ≤ 9 * (c * c) * (c + 1)

pub terms : (M : ℕ) → Ceiling M → Terms M max_ceiling
terms M h =
    let square = mul-le-mul h.high h.high in
    let up : M + 1 ≤ max_ceiling + 1 = omega (arith, h.high) in
    let next = mul-le-mul up up in
    record {
      square = square;
      cube = mul-le-mul square h.high;
      next = next;
      all = mul-le-mul next up;
      two = mul-le-mul (mul-le-mul (le_refl 3) h.high) next;
      one = mul-le-mul (mul-le-mul (le_refl 9) square) up;
    }

pub regions_few : (n M : ℕ) → Clocks n → Ceiling M → length (regions n M) ≤ max_regions
regions_few n M k h =
    let t = terms M h in
    omega (arith, count_law n M k.low k.high, three (λ n. count_of n M ≤ max_regions) (omega arith) (omega arith) (omega arith) n k)

-- ---- the formula for each number of clocks

module _ (n M : ℕ) (k : Clocks n) where
  counted : (m : ℕ) → n ≡ m → count_of m M ≡ length (regions n M)
  counted m e = ap (λ (n : ℕ). count_of n M) (sym e) ∙ count_law n M k.low k.high

  pub one_count : n ≡ 1 → 2 * M + 1 ≡ length (regions n M)
  one_count = counted 1

  pub two_count : n ≡ 2 → 6 * (M * M) + 4 * M + 1 ≡ length (regions n M)
  two_count = counted 2

  pub three_count : (n ≡ 1 → ⊥) → (n ≡ 2 → ⊥) → count_of 3 M ≡ length (regions n M)
  three_count f g = counted 3 (omega (arith, k.low, k.high, f, g))
