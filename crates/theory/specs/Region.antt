-- Regions, their corners and faces, and the parts of their steps (01, "Regions" and "Steps between allowed states"), over any number of clocks.
use Rattle.std.specs.Prelude.{◌≡◌, List, [], ◌∷◌, map, Bool, true, false, not, cond, ◌&&◌, ◌||◌, ℕ, zero, suc, ◌+◌, ◌≤◌, max, eqb, leb, replicate}
use Rattle.theory.specs.Lists.{every, some, keep, same, down, from, flat, lists}
use Rattle.theory.specs.Pointwise.{Each}

-- "A region gives each clock a whole part w, 0..M, and a rank r of its fraction. Rank 0 means no fraction."
pub record Clock : Type 0 where
  pub whole : ℕ
  pub rank : ℕ

abbrev pub Region : Type 0
Region = List Clock

abbrev pub clock : ℕ → ℕ → Clock
clock w r = record { whole = w; rank = r }

-- ---- limits

-- the least whole number that is not below the clock: w at rank 0, w + 1 otherwise
abbrev pub rounded_up : ℕ → ℕ → ℕ
rounded_up w zero = w
rounded_up w (suc r) = w + 1

-- within limits from above, as the ceiling, stay limits and highs are: "w at most the limit at rank 0, w+1 at most the limit otherwise"
abbrev pub Fits : Region → List ℕ → Type 0
Fits = Each (λ (x : Clock) c. rounded_up x.whole x.rank ≤ c)

-- within limits from below, as lows are: "w at least low"
abbrev pub Attains : Region → List ℕ → Type 0
Attains = Each (λ (x : Clock) c. c ≤ x.whole)

-- ---- lawful regions

abbrev pub has_rank : Region → ℕ → Bool
has_rank [] r = false
has_rank (x ∷ xs) r = eqb x.rank r || has_rank xs r

-- g of 01, the largest rank
abbrev pub top_rank : Region → ℕ
top_rank [] = 0
top_rank (x ∷ xs) = max x.rank (top_rank xs)

-- A region of n clocks at ceiling M. "A clock at M has rank 0" is part of the first law; "the other ranks present are just 1..g" is the second.
pub record Lawful (n M : ℕ) (xs : Region) : Type 0 where
  pub capped : Fits xs (replicate n M)
  pub ranked : (r : ℕ) → 1 ≤ r → r ≤ top_rank xs → has_rank xs r ≡ true

-- ---- corners and faces

-- the whole parts, raised by one at the clocks with rank t or more
abbrev pub raise : ℕ → Region → List ℕ
raise t [] = []
raise t (x ∷ xs) = cond (leb t x.rank) (x.whole + 1) x.whole ∷ raise t xs

abbrev pub wholes : Region → List ℕ
wholes xs = map (λ (x : Clock). x.whole) xs

-- "g+1 whole points: all whole parts as they are, or raised by one at the clocks with rank t or more, for t = 1..g"
pub data Corner (xs : Region) : List ℕ → Type 0 where
  base : Corner xs (wholes xs)
  raised : (t : ℕ) → 1 ≤ t → t ≤ top_rank xs → Corner xs (raise t xs)

-- ys is a face of xs: "a region whose corners are some, not all, of these"
pub record Face (xs ys : Region) : Type 0 where
  pub some_of : (p : List ℕ) → Corner ys p → Corner xs p
  pub not_all : (p : List ℕ) × Corner xs p × (Corner ys p → ⊥)

-- "shares a corner"
abbrev pub Shares : Region → Region → Type 0
Shares xs ys = (p : List ℕ) × Corner xs p × Corner ys p

-- ---- time: "if some rank is 0, those clocks get rank 1 and the others' ranks rise by one; otherwise the top-rank clocks go to w+1, rank 0"

abbrev pub rise_ranks : Region → Region
rise_ranks [] = []
rise_ranks (x ∷ xs) = clock x.whole (x.rank + 1) ∷ rise_ranks xs

abbrev pub carry : ℕ → Region → Region
carry t [] = []
carry t (x ∷ xs) = cond (eqb x.rank t) (clock (x.whole + 1) 0) x ∷ carry t xs

-- the time successor
abbrev pub successor : Region → Region
successor xs = cond (has_rank xs 0) (rise_ranks xs) (carry (top_rank xs) xs)

-- ---- jump: "reset clocks become w 0, rank 0; remaining ranks close up"

abbrev pub reset_clocks : List Bool → Region → Region
reset_clocks bs [] = []
reset_clocks [] (x ∷ xs) = x ∷ xs
reset_clocks (true ∷ bs) (x ∷ xs) = clock 0 0 ∷ reset_clocks bs xs
reset_clocks (false ∷ bs) (x ∷ xs) = x ∷ reset_clocks bs xs

-- how many of the ranks 1..r are present
abbrev pub ranks_upto : Region → ℕ → ℕ
ranks_upto xs zero = 0
ranks_upto xs (suc r) = cond (has_rank xs (suc r)) (ranks_upto xs r + 1) (ranks_upto xs r)

abbrev pub renumber : (ℕ → ℕ) → Region → Region
renumber f [] = []
renumber f (x ∷ xs) = clock x.whole (f x.rank) ∷ renumber f xs

abbrev pub close_up : Region → Region
close_up xs = renumber (ranks_upto xs) xs

-- ---- the same as tests

unfoldable pub fits : Region → List ℕ → Bool
fits [] [] = true
fits [] (c ∷ cs) = false
fits (x ∷ xs) [] = false
fits (x ∷ xs) (c ∷ cs) = leb (rounded_up x.whole x.rank) c && fits xs cs

unfoldable pub attains : Region → List ℕ → Bool
attains [] [] = true
attains [] (c ∷ cs) = false
attains (x ∷ xs) [] = false
attains (x ∷ xs) (c ∷ cs) = leb c x.whole && attains xs cs

unfoldable pub lawful : ℕ → ℕ → Region → Bool
lawful n M xs = fits xs (replicate n M) && every (has_rank xs) (down (top_rank xs))

-- the corners from the lowest (no clock has a rank above the top one) to the highest
unfoldable pub corners : Region → List (List ℕ)
corners xs = map (λ t. raise t xs) (down (suc (top_rank xs)))

unfoldable pub has_corner : Region → List ℕ → Bool
has_corner xs p = some (same p) (corners xs)

-- ys is a face of xs
unfoldable pub face : Region → Region → Bool
face xs ys = every (has_corner xs) (corners ys) && not (every (has_corner ys) (corners xs))

unfoldable pub shares : Region → Region → Bool
shares xs ys = some (has_corner ys) (corners xs)

-- ---- all regions: "ordered by w1..wn, then r1..rn, read as a list"

abbrev pub clocks : List ℕ → List ℕ → Region
clocks [] rs = []
clocks (w ∷ ws) [] = []
clocks (w ∷ ws) (r ∷ rs) = clock w r ∷ clocks ws rs

-- n clocks have whole parts up to M and ranks up to n
unfoldable pub regions : ℕ → ℕ → List Region
regions n M = keep (lawful n M) (flat (map (λ ws. map (clocks ws) (lists n (from 0 (suc n)))) (lists n (from 0 (suc M)))))
