-- `regions n M` are the lawful regions of n clocks at ceiling M, all of them, each once and in order: over any n and M.
use Prim.Native.Nat.{ℕ, zero, suc, ◌≤◌, ◌<◌}
use native.Mathlib.Omega.{arith}
use native.Mathlib.Decide.{dec_lt}
use mathlib.Core.Path.{◌≡◌, refl, sym, ap, ap₂, ◌∙◌, subst}
use mathlib.Core.Bool.{true}
use mathlib.Core.Logic.{◌↔◌, ◌⊎◌, inl, inr}
use mathlib.Core.List.Memᴰ
use mathlib.Core.List.{List, [], ◌∷◌, ◌++◌, map, Memᴰ}
use lib.ListN.{length, get_or, replicate}
use Rattle.theory.specs.Lists.{from, flat, lists}
use Rattle.theory.specs.Pointwise.{more}
use Rattle.theory.specs.Region.{Clock, Region, rounded_up, Fits, top_rank, wholes, lawful, clocks, regions}
use Rattle.theory.specs.Enumeration.{ranks, key, Before, here, later, Sorted, Ascending}
use Rattle.theory.proofs.Lists.{map_law}
use Rattle.theory.proofs.Region.{lawful_law}
use Rattle.theory.proofs.Ranks.{top_in, ranks_few}
use Rattle.theory.proofs.Sorted.{keep_law, flat_law, from_law, lists-length, in_lists, sorted_keep, sorted_map, sorted_flat, sorted_at, at_in, in_at}

-- ---- a region of n clocks is its whole parts and its ranks

clocks_of : (xs : Region) → clocks (wholes xs) (ranks xs) ≡ xs
clocks_of [] = refl
clocks_of (x ∷ xs) = ap (λ (l : Region). x ∷ l) (clocks_of xs)

key_of : (ws rs : List ℕ) → length ws ≡ length rs → key (clocks ws rs) ≡ ws ++ rs
key_of ws rs e = ap₂ ◌++◌ (whole_parts ws rs e) (rank_parts ws rs e)
  where
    whole_parts : (ws rs : List ℕ) → length ws ≡ length rs → wholes (clocks ws rs) ≡ ws
    whole_parts [] rs e = refl
    whole_parts (w ∷ ws) [] e = absurd (omega arith)
    whole_parts (w ∷ ws) (r ∷ rs) e = ap (λ (l : List ℕ). w ∷ l) (whole_parts ws rs (omega arith))

    rank_parts : (ws rs : List ℕ) → length ws ≡ length rs → ranks (clocks ws rs) ≡ rs
    rank_parts [] [] e = refl
    rank_parts [] (r ∷ rs) e = absurd (omega arith)
    rank_parts (w ∷ ws) [] e = absurd (omega arith)
    rank_parts (w ∷ ws) (r ∷ rs) e = ap (λ (l : List ℕ). r ∷ l) (rank_parts ws rs (omega arith))

length-wholes : (xs : Region) → length (wholes xs) ≡ length xs
length-wholes [] = refl
length-wholes (x ∷ xs) = ap suc (length-wholes xs)

length-ranks : (xs : Region) → length (ranks xs) ≡ length xs
length-ranks [] = refl
length-ranks (x ∷ xs) = ap suc (length-ranks xs)

-- ---- bounds of a lawful region

pub fits_length : (M : ℕ) (xs : Region) (n : ℕ) → Fits xs (replicate n M) → length xs ≡ n
fits_length M [] zero h = refl
fits_length M [] (suc n) h = elim h [ ]
fits_length M (x ∷ xs) zero h = elim h [ ]
fits_length M (x ∷ xs) (suc n) (more h hs) = ap suc (fits_length M xs n hs)

whole_le : (M : ℕ) (xs : Region) (n : ℕ) → Fits xs (replicate n M) → (w : ℕ) → Memᴰ w (wholes xs) → w ≤ M
whole_le M [] n h w m = absurd (Memᴰ.not-nil m)
whole_le M (x ∷ xs) zero h w m = elim h [ ]
whole_le M (x ∷ xs) (suc n) (more h hs) w m = by (whole_le M xs n hs w) (Memᴰ.cases_cons m)
  where
    rounded : (w r : ℕ) → w ≤ rounded_up w r
    rounded w zero = omega arith
    rounded w (suc r) = omega arith

    by : (Memᴰ w (wholes xs) → w ≤ M) → (w ≡ x.whole) ⊎ Memᴰ w (wholes xs) → w ≤ M
    by ih (inl e) = omega (arith, rounded x.whole x.rank)
    by ih (inr k) = ih k

pub lawful-length : (n M : ℕ) (xs : Region) → lawful n M xs ≡ true → length xs ≡ n
lawful-length n M xs t = fits_length M xs n ((lawful_law n M xs).0 t).capped

-- whole parts are at most the ceiling
pub lawful_whole : (n M : ℕ) (xs : Region) → lawful n M xs ≡ true → (w : ℕ) → Memᴰ w (wholes xs) → w ≤ M
lawful_whole n M xs t = whole_le M xs n ((lawful_law n M xs).0 t).capped

-- ranks are at most the number of clocks
pub lawful_rank : (n M : ℕ) (xs : Region) → lawful n M xs ≡ true → (r : ℕ) → Memᴰ r (ranks xs) → r ≤ n
lawful_rank n M xs t r m =
    let (x, k, e) = (map_law (λ (x : Clock). x.rank) xs r).0 m in
    let few = ranks_few xs (top_rank xs) ((lawful_law n M xs).0 t).ranked in
    omega (arith, top_in k, lawful-length n M xs t)

-- ---- all lawful regions and no others

in_sized : (n k : ℕ) (l : List ℕ) → length l ≡ n → ((x : ℕ) → Memᴰ x l → x ≤ k) → Memᴰ l (lists n (from 0 (suc k)))
in_sized n k l e h =
    subst (λ (n : ℕ). Memᴰ l (lists n (from 0 (suc k)))) e
    (in_lists (from 0 (suc k)) l (λ x m. (from_law 0 (suc k) x).1 (omega arith, omega (arith, h x m))))

pub regions_law : (n M : ℕ) (xs : Region) → Memᴰ xs (regions n M) ↔ (lawful n M xs ≡ true)
unfolding regions
regions_law n M xs = (λ m. ((keep_law (lawful n M) xs all).0 m).1, λ t. (keep_law (lawful n M) xs all).1 (every_choice t, t))
  where
    row : List ℕ → List Region
    row ws = map (clocks ws) (lists n (from 0 (suc n)))

    all : List Region
    all = flat (map row (lists n (from 0 (suc M))))

    every_choice : lawful n M xs ≡ true → Memᴰ xs all
    every_choice t =
        let e = lawful-length n M xs t in
        let w = in_sized n M (wholes xs) (length-wholes xs ∙ e) (lawful_whole n M xs t) in
        let r = in_sized n n (ranks xs) (length-ranks xs ∙ e) (lawful_rank n M xs t) in
        (flat_law xs (map row (lists n (from 0 (suc M))))).1 (
          row (wholes xs),
          (map_law row (lists n (from 0 (suc M))) (row (wholes xs))).1 (wholes xs, w, refl),
          (map_law (clocks (wholes xs)) (lists n (from 0 (suc n))) xs).1 (ranks xs, r, sym (clocks_of xs)),
        )

-- ---- in order

pub before_front : {a b : List ℕ} → Before a b → (c d : List ℕ) → Before (a ++ c) (b ++ d)
before_front (here h) c d = here h
before_front (later h) c d = later (before_front h c d)

pub before_back : (a : List ℕ) {c d : List ℕ} → Before c d → Before (a ++ c) (a ++ d)
before_back [] h = h
before_back (x ∷ a) h = later (before_back a h)

before_self : {a b : List ℕ} → Before a b → a ≡ b → ⊥
before_self (here {x = x} {y = y} h) e = let q : x ≡ y = cc in omega arith
before_self (later h) e = before_self h (cc)

from_sorted : (k c : ℕ) → Sorted (λ x y. x < y) (from k c)
from_sorted k zero = Sorted.none
from_sorted k (suc c) = Sorted.more (λ y m. ((from_law (suc k) c y).0 m).0) (from_sorted (suc k) c)

lists_sorted : (n : ℕ) {xs : List ℕ} → Sorted (λ x y. x < y) xs → Sorted Before (lists n xs)
lists_sorted zero s = Sorted.more (λ y m. absurd (Memᴰ.not-nil m)) Sorted.none
lists_sorted (suc n) {xs} s =
    let rest = lists n xs in
    sorted_flat (λ x. map (λ l. x ∷ l) rest) s (λ x m. sorted_map (λ l. x ∷ l) (lists_sorted n s) (λ a b u v h. later h))
    (λ x y m k h a b u v.
    let (c, i, e) = (map_law (λ l. x ∷ l) rest a).0 u in
    let (d, j, f) = (map_law (λ l. y ∷ l) rest b).0 v in
    subst (λ b. Before a b) (sym f) (subst (λ a. Before a (y ∷ d)) (sym e) (here h)))

pub regions_ascending : (n M : ℕ) → Ascending (regions n M)
unfolding regions
regions_ascending n M =
    sorted_keep (lawful n M)
    (sorted_flat (λ ws. map (clocks ws) rs) (lists_sorted n (from_sorted 0 (suc M)))
    (λ ws m. sorted_map (clocks ws) (lists_sorted n (from_sorted 0 (suc n))) (λ a b u v h. joined ws ws a b m m u v (before_back ws h)))
    (λ ws vs m k h a b u v.
    let (c, i, e) = (map_law (clocks ws) rs a).0 u in
    let (d, j, f) = (map_law (clocks vs) rs b).0 v in
    subst (λ b. Before (key a) (key b)) (sym f)
    (subst (λ a. Before (key a) (key (clocks vs d))) (sym e) (joined ws vs c d m k i j (before_front h c d)))))
  where
    rs : List (List ℕ)
    rs = lists n (from 0 (suc n))

    sized : (ws a : List ℕ) → Memᴰ ws (lists n (from 0 (suc M))) → Memᴰ a rs → key (clocks ws a) ≡ ws ++ a
    sized ws a m u = key_of ws a (lists-length n (from 0 (suc M)) ws m ∙ sym (lists-length n (from 0 (suc n)) a u))

    joined : (ws vs a b : List ℕ) → Memᴰ ws (lists n (from 0 (suc M))) → Memᴰ vs (lists n (from 0 (suc M))) → Memᴰ a rs
        → Memᴰ b rs → Before (ws ++ a) (vs ++ b) → Before (key (clocks ws a)) (key (clocks vs b))
    joined ws vs a b m k u v h = rw (sized ws a m u, sized vs b k v) h

-- ---- an index says which region, and back

pub region_at_lem : (n M i : ℕ) → i < length (regions n M) → lawful n M (get_or (regions n M) i []) ≡ true
region_at_lem n M i h = (regions_law n M (get_or (regions n M) i [])).0 (at_in [] (regions n M) i h)

pub index_at : (n M : ℕ) (xs : Region) → lawful n M xs ≡ true → (i : ℕ) × (i < length (regions n M)) × (get_or (regions n M) i [] ≡ xs)
index_at n M xs t = in_at [] ((regions_law n M xs).1 t)

pub index_once : (n M i j : ℕ) → i < length (regions n M) → j < length (regions n M) → get_or (regions n M) i [] ≡ get_or (regions n M) j [] → i ≡ j
index_once n M i j h k e = by (dec_lt i j) (dec_lt j i)
  where
    by : Dec (i < j) → Dec (j < i) → i ≡ j
    by (yes q) d = absurd (before_self (sorted_at [] (regions_ascending n M) i j q k) (ap key e))
    by (no p) (yes q) = absurd (before_self (sorted_at [] (regions_ascending n M) j i q h) (ap key (sym e)))
    by (no p) (no q) = omega (arith, p, q)
