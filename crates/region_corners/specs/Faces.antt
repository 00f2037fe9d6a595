-- The faces of every region, by the regions' numbers.
use Rattle.std.specs.Prelude.{◌≡◌, Bool, cond, ◌&&◌, List, [], ◌∷◌, map, ℕ, ◌+◌, ◌*◌, ◌/◌, ◌%◌, ◌<◌, length, get_or, ltb}
use Rattle.theory.specs.Lists.{keep, from}
use Rattle.theory.specs.Region.{Clock, clock, lawful, face, regions}
use Rattle.region.specs.View.{struct_of}
use Rattle.limits.specs.Limits.{max_clocks, rank_base, rank_code_count}
use Rattle.region_steps.specs.Codes.{code_of}
pub use Rattle.region_steps.specs.Codes.{whole_code, rank_code}
use Rattle.region_corners.specs.Corners.{region_at}

-- of the regions with these numbers, the second is a face of the first: "a region whose corners are some, not all, of these"
unfoldable pub face_of : ℕ → ℕ → ℕ → ℕ → Bool
face_of n M i j = ltb i (length (regions n M)) && (ltb j (length (regions n M)) && face (region_at n M i) (region_at n M j))

-- ---- faces by ranks: a region with whole parts w has just the faces of the region with whole parts 0 and the same ranks, moved by w

-- the region with whole parts 0 and the ranks of a code
abbrev pub at_origin : ℕ → List Clock
at_origin c = clock 0 (c / (rank_base * rank_base)) ∷ clock 0 (c / rank_base % rank_base) ∷ clock 0 (c % rank_base) ∷ []

-- the codes of its faces
unfoldable pub face_codes : ℕ → List ℕ
face_codes c =
    cond (lawful max_clocks 1 (at_origin c)) (map (λ ys. code_of (struct_of ys)) (keep (face (at_origin c)) (regions max_clocks 1))) []

-- for all codes of ranks
unfoldable pub face_rows : List (List ℕ)
face_rows = map face_codes (from 0 rank_code_count)

-- the length of them all
abbrev pub face_count : ℕ
face_count = 170

-- where the rows begin when they stand one after the other, the first at place a, and where the last one ends
abbrev pub starts : ℕ → List (List ℕ) → List ℕ
starts a [] = a ∷ []
starts a (l ∷ ls) = a ∷ starts (a + length l) ls

-- what `index` holds at `base` plus each of the first x numbers of l stands from place `at` on, and the places before are as they were
pub record LookedUp (index l : List ℕ) (base at x : ℕ) (faces faces' : List ℕ) : Type 0 where
  pub long : length faces' ≡ length faces
  pub kept : (k : ℕ) → k < at → get_or faces' k 0 ≡ get_or faces k 0
  pub is : (k : ℕ) → k < x → get_or faces' (at + k) 0 ≡ get_or index (base + get_or l k 0) 0
