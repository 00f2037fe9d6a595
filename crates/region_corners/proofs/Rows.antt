-- Rows that stand one after the other in one list, and the list of where they begin; the rows of faces by codes of ranks.
use Prim.Native.Nat.{ℕ, zero, suc, ◌+◌, ◌-◌, ◌≤◌, ◌<◌}
use native.Mathlib.Omega.{arith}
use native.Mathlib.Nat.{le_of_suc-le-suc}
use native.Mathlib.Numerals.{add-one}
use mathlib.Core.Path.{◌≡◌, refl, sym, ap, ◌∙◌}
use mathlib.Core.Bool.{true}
use mathlib.Core.List.{List, [], ◌∷◌, ◌++◌, map}
use lib.Dec.{leb}
use lib.ListN.{length, get_or, take, drop, length-take, length-drop, length-append, get_or-append}
use Rattle.std.proofs.lemmas.Grind.{same_number_lists}
use Rattle.std.proofs.lemmas.List.{get_or-take, get_or-drop}
use lib.Seq.{get_or-append-add}
use Rattle.theory.specs.Lists.{every, same, from, flat}
use Rattle.theory.specs.Region.{fits, lawful, corners, has_corner, face, regions}
use Rattle.theory.proofs.Below.{leb↔}
use Rattle.theory.proofs.Lists.{every_law}
use Rattle.theory.proofs.Sorted.{at_in}
use Rattle.limits.specs.Limits.{rank_code_count, max_faces}
use Rattle.region_corners.specs.Faces.{face_codes, face_rows, face_count, starts}

-- ---- rows

start_first : (a : ℕ) (ls : List (List ℕ)) → get_or (starts a ls) 0 0 ≡ a
start_first a [] = refl
start_first a (l ∷ ls) = refl

pub start_next : (a : ℕ) (ls : List (List ℕ)) (c : ℕ) → c < length ls
    → get_or (starts a ls) (suc c) 0 ≡ get_or (starts a ls) c 0 + length (get_or ls c [])
start_next a [] c h = absurd (omega arith)
start_next a (l ∷ ls) zero h = start_first (a + length l) ls
start_next a (l ∷ ls) (suc c) h = start_next (a + length l) ls c (le_of_suc-le-suc h)

start_least : (a : ℕ) (ls : List (List ℕ)) (c : ℕ) → c < length ls → a ≤ get_or (starts a ls) c 0
start_least a [] c h = absurd (omega arith)
start_least a (l ∷ ls) zero h = omega arith
start_least a (l ∷ ls) (suc c) h = omega (arith, start_least (a + length l) ls c (le_of_suc-le-suc h))

-- a row ends within all of them
start_most : (a : ℕ) (ls : List (List ℕ)) (c : ℕ) → c < length ls → get_or (starts a ls) (suc c) 0 ≤ a + length (flat ls)
start_most a [] c h = absurd (omega arith)
start_most a (l ∷ ls) zero h = omega (arith, start_first (a + length l) ls, length-append l (flat ls))
start_most a (l ∷ ls) (suc c) h =
    omega (arith, start_most (a + length l) ls c (le_of_suc-le-suc h), length-append l (flat ls))

-- where a row begins, and k places on, is its number k
row_place : (a : ℕ) (ls : List (List ℕ)) (c k j : ℕ) → c < length ls → k < length (get_or ls c []) → a + j ≡ get_or (starts a ls) c 0 + k
    → get_or (flat ls) j 0 ≡ get_or (get_or ls c []) k 0
row_place a [] c k j h i e = absurd (omega arith)
row_place a (l ∷ ls) zero k j h i e =
    let q : j ≡ k = omega arith in rw q (get_or-append l (flat ls) 0 k i)
row_place a (l ∷ ls) (suc c) k j h i e =
    let b = start_least (a + length l) ls c (le_of_suc-le-suc h) in
    let q : j ≡ length l + (j - length l) = omega arith in
    let r : a + length l + (j - length l) ≡ get_or (starts (a + length l) ls) c 0 + k = omega arith in
    ap (λ (j : ℕ). get_or (l ++ flat ls) j 0) q ∙ get_or-append-add l (flat ls) (j - length l) 0
    ∙ row_place (a + length l) ls c k (j - length l) (le_of_suc-le-suc h) i r

-- ---- the rows of faces

at_from : (f : ℕ → List ℕ) (k c i : ℕ) → i < c → get_or (map f (from k c)) i [] ≡ f (k + i)
at_from f k zero i h = absurd (omega arith)
at_from f k (suc c) zero h = ap f (omega arith)
at_from f k (suc c) (suc i) h = at_from f (suc k) c i (le_of_suc-le-suc h) ∙ ap f (omega arith)

row_at : (c : ℕ) → c < rank_code_count → get_or face_rows c [] ≡ face_codes c
unfolding face_rows
row_at c h = at_from face_codes 0 rank_code_count c h ∙ ap face_codes (omega arith)

rows_long : length face_rows ≡ rank_code_count
unfolding face_rows
rows_long = refl

pub faces_long : length (flat face_rows) ≡ face_count
unfolding face_rows face_codes regions lawful fits face corners has_corner same
faces_long = refl

rows_few : every (λ l. leb (length l) max_faces) face_rows ≡ true
unfolding face_rows face_codes regions lawful fits face corners has_corner same
rows_few = refl

pub row_few : (c : ℕ) → c < rank_code_count → length (face_codes c) ≤ max_faces
row_few c h =
    rw (sym (row_at c h))
    ((every_law (λ (l : List ℕ). leb↔ (length l) max_faces) face_rows).0 rows_few (get_or face_rows c [])
    (at_in [] face_rows c (rw rows_long h)))

module _ (c : ℕ) (h : c < rank_code_count) where
  pub row_end : get_or (starts 0 face_rows) (c + 1) 0 ≡ get_or (starts 0 face_rows) c 0 + length (face_codes c)
  row_end = rw (add-one c, ← row_at c h) (start_next 0 face_rows c (rw rows_long h))

  pub row_within : get_or (starts 0 face_rows) (c + 1) 0 ≤ face_count
  row_within = rw (add-one c) (omega (arith, start_most 0 face_rows c (rw rows_long h), faces_long))

  pub row_entry : (k : ℕ) → k < length (face_codes c) → get_or (flat face_rows) (get_or (starts 0 face_rows) c 0 + k) 0 ≡ get_or (face_codes c) k 0
  row_entry k l =
      let r = row_at c h in
      row_place 0 face_rows c k (get_or (starts 0 face_rows) c 0 + k) (rw rows_long h) (rw r l) (omega arith) ∙ ap (λ (m : List ℕ). get_or m k 0) r

  -- the places from where it begins up to where it ends
  pub row_part : (a b : ℕ) → a ≡ get_or (starts 0 face_rows) c 0 → b ≡ get_or (starts 0 face_rows) (c + 1) 0
      → take (b - a) (drop a (flat face_rows)) ≡ face_codes c
  row_part a b p q =
      let l : length (take (b - a) (drop a (flat face_rows))) ≡ length (face_codes c)
      = simp (length-take, length-drop) (omega (arith, row_end, row_within, faces_long)) in
      same_number_lists _ _ l
      (λ k i. let j : k < length (face_codes c) = omega arith in
      get_or-take (b - a) (drop a (flat face_rows)) k 0 (omega (arith, row_end)) ∙ get_or-drop a (flat face_rows) k 0
      ∙ ap (λ (a : ℕ). get_or (flat face_rows) (a + k) 0) p ∙ row_entry k j)
