-- The region with all clocks at 0 is the first, over any number of clocks and any ceiling.
use Prim.Native.Nat.{ℕ, zero, suc, ◌+◌, ◌*◌, ◌<◌}
use native.Mathlib.Nat.{add-zero}
use native.Mathlib.Omega.{arith}
use mathlib.Core.Path.{◌≡◌, refl, ap, ◌∙◌}
use mathlib.Core.Bool.{true}
use mathlib.Core.List.{List, [], ◌∷◌, ◌++◌, map}
use lib.Dec.{leb-zero}
use lib.ListN.{length, replicate}
use borrow.Author.Tests.{eq-eqb}
use Rattle.theory.specs.Lists.{keep, from, flat, lists}
use Rattle.theory.specs.Automaton.{Automaton}
use Rattle.theory.specs.Region.{Clock, top_rank, fits, lawful, clocks, regions}
use Rattle.theory.specs.RegionGraph.{point, origin}
use Rattle.theory.specs.StateGraph.{region_count, same_region, index_in, number_of}

lists_first : (n c : ℕ) → (rest : List (List ℕ)) × (lists n (from 0 (suc c)) ≡ replicate n 0 ∷ rest)
lists_first zero c = ([], refl)
lists_first (suc n) c =
    let (rest, e) = lists_first n c in
    let row : ℕ → List (List ℕ) = λ x. map (λ l. x ∷ l) (lists n (from 0 (suc c))) in
    let later = flat (map row (from 1 c)) in
    (map (λ l. 0 ∷ l) rest ++ later, ap (λ (k : List (List ℕ)). map (λ l. 0 ∷ l) k ++ later) e)

clocks_zero : (n : ℕ) → clocks (replicate n 0) (replicate n 0) ≡ point (replicate n 0)
clocks_zero zero = refl
clocks_zero (suc n) = rw (clocks_zero n)

top_zero : (n : ℕ) → top_rank (point (replicate n 0)) ≡ 0
top_zero zero = refl
top_zero (suc n) = omega (arith, top_zero n)

fits_zero : (n M : ℕ) → fits (point (replicate n 0)) (replicate n M) ≡ true
unfolding fits
fits_zero zero M = refl
fits_zero (suc n) M = rw (leb-zero M) (fits_zero n M)

lawful_zero : (n M : ℕ) → lawful n M (point (replicate n 0)) ≡ true
unfolding lawful
lawful_zero n M = rw (fits_zero n M, top_zero n)

regions_first : (n M : ℕ) → (rest : List (List Clock)) × (regions n M ≡ point (replicate n 0) ∷ rest)
unfolding regions
regions_first n M =
    let (ws, e) = lists_first n M in
    let (rs, d) = lists_first n n in
    let ranks = lists n (from 0 (suc n)) in
    let row : List ℕ → List (List Clock) = λ ws. map (clocks ws) ranks in
    let later = map (clocks (replicate n 0)) rs ++ flat (map row ws) in (
      keep (lawful n M) later,
      ap (λ (k : List (List ℕ)). keep (lawful n M) (flat (map row k))) e
          ∙ ap (λ (k : List (List ℕ)). keep (lawful n M) (map (clocks (replicate n 0)) k ++ flat (map row ws))) d
          ∙ ap (λ (x : List Clock). keep (lawful n M) (x ∷ later)) (clocks_zero n)
          ∙ rw (lawful_zero n M),
    )

same_self : (xs : List Clock) → same_region xs xs ≡ true
unfolding same_region
same_self [] = refl
same_self (x ∷ xs) = rw (eq-eqb x.whole x.whole refl, eq-eqb x.rank x.rank refl) (same_self xs)

origin_first : (n M : ℕ) → index_in (regions n M) (point (replicate n 0)) ≡ 0
unfolding index_in
origin_first n M = let (rest, e) = regions_first n M in rw (e, same_self (point (replicate n 0)))

pub some_region : (n M : ℕ) → 0 < length (regions n M)
some_region n M = omega (arith, ap length (regions_first n M).1)

-- 01: "the start (all clocks 0)", by its number: the first state of its location
pub start_number : (m : Automaton) (l : ℕ) → number_of m l (origin m) ≡ l * region_count m
unfolding number_of
start_number m l = ap (λ (i : ℕ). l * region_count m + i) (origin_first m.clocks m.ceiling) ∙ add-zero (l * region_count m)
