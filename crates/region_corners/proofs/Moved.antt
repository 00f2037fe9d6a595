-- Regions moved by whole numbers: their corners move with them, so a moved face is a face of the moved region. For any number of clocks.
use Prim.Native.Nat.{ℕ, suc, ◌+◌, max}
use native.Mathlib.Omega.{arith}
use mathlib.Core.Path.{◌≡◌, refl, sym, ap, ap₂, ◌∙◌}
use mathlib.Core.Bool.{Bool, true, false, not, cond, ◌&&◌, ◌||◌}
use mathlib.Core.List.{List, [], ◌∷◌, map, map-map}
use lib.Dec.{eqb, leb}
use lib.ListN.{replicate}
use Rattle.theory.specs.Lists.{every, some, same, down}
use Rattle.theory.specs.Region.{Clock, clock, fits, lawful, has_rank, top_rank, raise, corners, has_corner, face}
use Rattle.theory.proofs.Below.{bool_ext, eqb↔, and_intro, and_right}

-- a point moved: no two points become one, whatever their lengths
abbrev pub move_by : List ℕ → List ℕ → List ℕ
move_by [] p = p
move_by (w ∷ ws) [] = []
move_by (w ∷ ws) (x ∷ p) = (w + x) ∷ move_by ws p

-- a region moved
abbrev pub moved : List ℕ → List Clock → List Clock
moved [] xs = xs
moved (w ∷ ws) [] = []
moved (w ∷ ws) (x ∷ xs) = clock (w + x.whole) x.rank ∷ moved ws xs

eqb-add : (w x y : ℕ) → eqb (w + x) (w + y) ≡ eqb x y
eqb-add w x y =
    bool_ext (eqb (w + x) (w + y)) (eqb x y)
    (λ e. let h = (eqb↔ (w + x) (w + y)).0 e in (eqb↔ x y).1 (omega arith))
    (λ e. let h = (eqb↔ x y).0 e in (eqb↔ (w + x) (w + y)).1 (omega arith))

same_moved : (ws p q : List ℕ) → same (move_by ws p) (move_by ws q) ≡ same p q
unfolding same
same_moved [] p q = refl
same_moved (w ∷ ws) [] [] = refl
same_moved (w ∷ ws) [] (y ∷ q) = refl
same_moved (w ∷ ws) (x ∷ p) [] = refl
same_moved (w ∷ ws) (x ∷ p) (y ∷ q) = ap₂ ◌&&◌ (eqb-add w x y) (same_moved ws p q)

-- ---- ranks stay

rank_moved : (ws : List ℕ) (xs : List Clock) (r : ℕ) → has_rank (moved ws xs) r ≡ has_rank xs r
rank_moved [] xs r = refl
rank_moved (w ∷ ws) [] r = refl
rank_moved (w ∷ ws) (x ∷ xs) r = ap (λ (b : Bool). eqb x.rank r || b) (rank_moved ws xs r)

top_moved : (ws : List ℕ) (xs : List Clock) → top_rank (moved ws xs) ≡ top_rank xs
top_moved [] xs = refl
top_moved (w ∷ ws) [] = refl
top_moved (w ∷ ws) (x ∷ xs) = ap (λ (m : ℕ). max x.rank m) (top_moved ws xs)

every_alike : {A : Type 0} (p q : A → Bool) (l : List A) → ((x : A) → p x ≡ q x) → every p l ≡ every q l
every_alike p q [] e = refl
every_alike p q (x ∷ l) e = rw (e x, every_alike p q l e) refl

ranked_moved : (ws : List ℕ) (xs : List Clock)
    → every (has_rank (moved ws xs)) (down (top_rank (moved ws xs))) ≡ every (has_rank xs) (down (top_rank xs))
ranked_moved ws xs = rw (top_moved ws xs) (every_alike (has_rank (moved ws xs)) (has_rank xs) (down (top_rank xs)) (rank_moved ws xs))

-- within limits of their own, the two are lawful together
pub lawful-moved : (n M m N : ℕ) (ws : List ℕ) (xs : List Clock) → lawful n M xs ≡ true → fits (moved ws xs) (replicate m N) ≡ true
    → lawful m N (moved ws xs) ≡ true
unfolding lawful
lawful-moved n M m N ws xs t f =
    and_intro (fits (moved ws xs) (replicate m N)) _ f (ranked_moved ws xs ∙ and_right (fits xs (replicate n M)) _ t)

pub moved-lawful : (n M m N : ℕ) (ws : List ℕ) (xs : List Clock) → lawful n M (moved ws xs) ≡ true → fits xs (replicate m N) ≡ true
    → lawful m N xs ≡ true
unfolding lawful
moved-lawful n M m N ws xs t f =
    and_intro (fits xs (replicate m N)) _ f (sym (ranked_moved ws xs) ∙ and_right (fits (moved ws xs) (replicate n M)) _ t)

-- ---- corners move

raised_moved : (b : Bool) (w x : ℕ) → cond b (w + x + 1) (w + x) ≡ w + cond b (x + 1) x
raised_moved true w x = omega arith
raised_moved false w x = refl

raise-moved : (t : ℕ) (ws : List ℕ) (xs : List Clock) → raise t (moved ws xs) ≡ move_by ws (raise t xs)
raise-moved t [] xs = refl
raise-moved t (w ∷ ws) [] = refl
raise-moved t (w ∷ ws) (x ∷ xs) = ap₂ ◌∷◌ (raised_moved (leb t x.rank) w x.whole) (raise-moved t ws xs)

map_alike : {A B : Type 0} (f h : A → B) (l : List A) → ((x : A) → f x ≡ h x) → map f l ≡ map h l
map_alike f h [] e = refl
map_alike f h (x ∷ l) e = ap₂ ◌∷◌ (e x) (map_alike f h l e)

corners-moved : (ws : List ℕ) (xs : List Clock) → corners (moved ws xs) ≡ map (move_by ws) (corners xs)
unfolding corners
corners-moved ws xs =
    let ts = down (suc (top_rank xs)) in
    ap (λ (g : ℕ). map (λ t. raise t (moved ws xs)) (down (suc g))) (top_moved ws xs)
    ∙ map_alike (λ t. raise t (moved ws xs)) (λ t. move_by ws (raise t xs)) ts (λ t. raise-moved t ws xs)
    ∙ sym (map-map (move_by ws) (λ t. raise t xs) ts)

-- ---- faces move

module _ {A B : Type 0} (f : A → B) (p : B → Bool) (q : A → Bool) (e : (x : A) → p (f x) ≡ q x) where
  some-map : (l : List A) → some p (map f l) ≡ some q l
  some-map [] = refl
  some-map (x ∷ l) = rw (e x, some-map l) refl

  every-map : (l : List A) → every p (map f l) ≡ every q l
  every-map [] = refl
  every-map (x ∷ l) = rw (e x, every-map l) refl

-- a map of points that keeps them apart, and takes the corners of two regions to those of two others, keeps faces
module _ (f : List ℕ → List ℕ) (apart : (p q : List ℕ) → same (f p) (f q) ≡ same p q) where
  has_corner_mapped : (xs xs' : List Clock) → corners xs' ≡ map f (corners xs) → (p : List ℕ) → has_corner xs' (f p) ≡ has_corner xs p
  unfolding has_corner
  has_corner_mapped xs xs' e p = rw e (some-map f (same (f p)) (same p) (apart p) (corners xs))

  inside_mapped : (xs ys xs' ys' : List Clock) → corners xs' ≡ map f (corners xs) → corners ys' ≡ map f (corners ys)
      → every (has_corner xs') (corners ys') ≡ every (has_corner xs) (corners ys)
  inside_mapped xs ys xs' ys' d e = rw e (every-map f (has_corner xs') (has_corner xs) (has_corner_mapped xs xs' d) (corners ys))

  face_mapped : (xs ys xs' ys' : List Clock) → corners xs' ≡ map f (corners xs) → corners ys' ≡ map f (corners ys)
      → face xs' ys' ≡ face xs ys
  unfolding face
  face_mapped xs ys xs' ys' d e =
      ap₂ (λ (a b : Bool). a && not b) (inside_mapped xs ys xs' ys' d e) (inside_mapped ys xs ys' xs' e d)

pub face-moved : (ws : List ℕ) (xs ys : List Clock) → face (moved ws xs) (moved ws ys) ≡ face xs ys
face-moved ws xs ys =
    face_mapped (move_by ws) (same_moved ws) xs ys (moved ws xs) (moved ws ys) (corners-moved ws xs) (corners-moved ws ys)
