-- The index of a region in a list: where it stands first, or the length where it stands nowhere.
use Prim.Native.Nat.{ℕ, zero, suc, ◌≤◌, ◌<◌, suc-le-suc}
use native.Mathlib.Omega.{arith}
use native.Mathlib.Nat.{le_of_suc-le-suc}
use mathlib.Core.Path.{◌≡◌, refl, sym, ap, ◌∙◌}
use mathlib.Core.Bool.{Bool, true, false, cond, false≢true}
use mathlib.Core.Logic.{◌⊎◌, inl, inr}
use mathlib.Core.List.{List, [], ◌∷◌, Memᴰ}
use lib.ListN.{length, get_or, replicate}
use Rattle.theory.specs.Region.{Region, fits, lawful, regions}
use Rattle.theory.specs.StateGraph.{same_region, index_in}
use Rattle.theory.proofs.Below.{either}
use Rattle.theory.proofs.Region.{fits_law, lawful_law}
use Rattle.theory.proofs.Enumeration.{regions_law, index_at, index_once}
use Rattle.theory.proofs.StateGraph.{same_region_law}

index_first : (l : List Region) (i : ℕ) → i < length l → ((k : ℕ) → k < i → get_or l k [] ≡ get_or l i [] → ⊥) → index_in l (get_or l i []) ≡ i
unfolding index_in
index_first [] i h n = absurd (omega arith)
index_first (ys ∷ l) zero h n = rw ((same_region_law ys ys).1 refl)
index_first (ys ∷ l) (suc i) h n =
    by (either (same_region (get_or l i []) ys)) (index_first l i (le_of_suc-le-suc h) (λ k j. n (suc k) (suc-le-suc j)))
  where
    by : (same_region (get_or l i []) ys ≡ true) ⊎ (same_region (get_or l i []) ys ≡ false) → index_in l (get_or l i []) ≡ i
        → index_in (ys ∷ l) (get_or l i []) ≡ suc i
    by (inl s) e = absurd (n 0 (omega arith) (sym ((same_region_law (get_or l i []) ys).0 s)))
    by (inr s) e = rw s (ap suc e)

pub index_none : (l : List Region) (xs : Region) → (Memᴰ xs l → ⊥) → index_in l xs ≡ length l
unfolding index_in
index_none [] xs n = refl
index_none (ys ∷ l) xs n = by (either (same_region xs ys)) (index_none l xs (λ m. n (Memᴰ.tail m)))
  where
    by : (same_region xs ys ≡ true) ⊎ (same_region xs ys ≡ false) → index_in l xs ≡ length l → index_in (ys ∷ l) xs ≡ length (ys ∷ l)
    by (inl s) e = absurd (n (Memᴰ.head ((same_region_law xs ys).0 s)))
    by (inr s) e = rw s (ap suc e)

pub index_le : (l : List Region) (xs : Region) → index_in l xs ≤ length l
unfolding index_in
index_le [] xs = omega arith
index_le (ys ∷ l) xs = by (same_region xs ys) (index_le l xs)
  where
    by : (b : Bool) → index_in l xs ≤ length l → cond b 0 (suc (index_in l xs)) ≤ suc (length l)
    by true h = omega arith
    by false h = omega arith

-- a region stands at its index
pub index_back : (l : List Region) (xs : Region) → index_in l xs < length l → get_or l (index_in l xs) [] ≡ xs
unfolding index_in
index_back [] xs h = absurd (omega arith)
index_back (ys ∷ l) xs h = by (same_region xs ys) refl h (index_back l xs)
  where
    by : (b : Bool) → same_region xs ys ≡ b → cond b 0 (suc (index_in l xs)) < suc (length l)
        → (index_in l xs < length l → get_or l (index_in l xs) [] ≡ xs) → get_or (ys ∷ l) (cond b 0 (suc (index_in l xs))) [] ≡ xs
    by true s k ih = sym ((same_region_law xs ys).0 s)
    by false s k ih = ih (le_of_suc-le-suc k)

module _ (n M : ℕ) where
  -- the region at an index has that index
  pub index_own : (i : ℕ) → i < length (regions n M) → index_in (regions n M) (get_or (regions n M) i []) ≡ i
  index_own i h = index_first (regions n M) i h (λ k l e. omega (arith, index_once n M k i (omega arith) h e))

  pub index_below : (xs : Region) → lawful n M xs ≡ true → index_in (regions n M) xs < length (regions n M)
  index_below xs t = let (i, h, e) = index_at n M xs t in rw (sym e, index_own i h) h

  -- past the ceiling is no region
  pub index_past : (xs : Region) → fits xs (replicate n M) ≡ false → index_in (regions n M) xs ≡ length (regions n M)
  index_past xs f =
      index_none (regions n M) xs
      (λ m. false≢true (sym f ∙ (fits_law xs (replicate n M)).1 ((lawful_law n M xs).0 ((regions_law n M xs).0 m)).capped))
