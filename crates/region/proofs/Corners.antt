-- Corners as numbers: the numbers by the thresholds from the highest down decide shared corners and faces.
use Prim.Native.Nat.{ℕ, zero, suc, ◌+◌, ◌≤◌, ◌<◌}
use native.Mathlib.Omega.{arith}
use native.Mathlib.Decide.{dec_le}
use mathlib.Core.Path.{◌≡◌, refl, sym, ap, ap₂, ◌∙◌}
use mathlib.Core.Bool.{Bool, true, false, not, cond, ◌&&◌, or_self_left, and_self_left}
use mathlib.Core.List.{List, [], ◌∷◌, map}
use lib.Dec.{leb, eqb}
use Rattle.theory.specs.Lists.{every, some, same, down}
use Rattle.theory.specs.Region.{Clock, top_rank, raise, corners, has_corner, face, shares}
use Rattle.theory.proofs.Below.{bool_ext, eqb↔}
use Rattle.theory.proofs.Lists.{same_law}
use Rattle.theory.proofs.Region.{raise_none}
use Rattle.limits.specs.Limits.{max_clocks, max_ceiling, slot_count, point_base}
use Rattle.region.specs.View.{view, Small}
use Rattle.region.specs.Corners.{point_code, code_at}
use Rattle.region.specs.declared.Region.{Region}

-- ---- thresholds above the top rank give one corner again and again

module _ {A : Type 0} (f : ℕ → A) (p : A → Bool) (g : ℕ) (c : (t : ℕ) → g < t → f t ≡ f (suc g)) where
  some-down : (k : ℕ) → g < k → some p (map f (down k)) ≡ some p (map f (down (suc g)))
  some-down zero h = absurd (omega arith)
  some-down (suc k) h = by (some-down k) (dec_le (suc g) k)
    where
      by : (g < k → some p (map f (down k)) ≡ some p (map f (down (suc g)))) → Dec (g < k)
          → some p (map f (down (suc k))) ≡ some p (map f (down (suc g)))
      by ih (yes q) = rw (c (suc k) (omega arith), ih q) (or_self_left (p (f (suc g))) _)
      by ih (no q) = let e : k ≡ g = omega (arith, q) in rw e refl

  every-down : (k : ℕ) → g < k → every p (map f (down k)) ≡ every p (map f (down (suc g)))
  every-down zero h = absurd (omega arith)
  every-down (suc k) h = by (every-down k) (dec_le (suc g) k)
    where
      by : (g < k → every p (map f (down k)) ≡ every p (map f (down (suc g)))) → Dec (g < k)
          → every p (map f (down (suc k))) ≡ every p (map f (down (suc g)))
      by ih (yes q) = rw (c (suc k) (omega arith), ih q) (and_self_left (p (f (suc g))) _)
      by ih (no q) = let e : k ≡ g = omega (arith, q) in rw e refl

above_top : (xs : List Clock) (t : ℕ) → top_rank xs < t → raise t xs ≡ raise (suc (top_rank xs)) xs
above_top xs t h = raise_none t xs h ∙ sym (raise_none (suc (top_rank xs)) xs (omega arith))

some-corners : (p : List ℕ → Bool) (xs : List Clock) (k : ℕ) → top_rank xs < k → some p (map (λ t. raise t xs) (down k)) ≡ some p (corners xs)
unfolding corners
some-corners p xs k h = some-down (λ t. raise t xs) p (top_rank xs) (above_top xs) k h

every-corners : (p : List ℕ → Bool) (xs : List Clock) (k : ℕ) → top_rank xs < k → every p (map (λ t. raise t xs) (down k)) ≡ every p (corners xs)
unfolding corners
every-corners p xs k h = every-down (λ t. raise t xs) p (top_rank xs) (above_top xs) k h

-- ---- tests on numbers and on points

module _ {A B C : Type 0} (f : C → A) (h : C → B) (p : A → Bool) (q : B → Bool) (e : (x : C) → p (f x) ≡ q (h x)) where
  some_alike : (l : List C) → some p (map f l) ≡ some q (map h l)
  some_alike [] = refl
  some_alike (x ∷ l) = rw (e x, some_alike l) refl

  every_alike : (l : List C) → every p (map f l) ≡ every q (map h l)
  every_alike [] = refl
  every_alike (x ∷ l) = rw (e x, every_alike l) refl

module _ (a b c x y z : ℕ) (ha : a < point_base) (hb : b < point_base) (hc : c < point_base) (hx : x < point_base) (hy : y < point_base) (hz : z < point_base) where
  code_same : eqb (point_code 0 (a ∷ b ∷ c ∷ [])) (point_code 0 (x ∷ y ∷ z ∷ [])) ≡ same (a ∷ b ∷ c ∷ []) (x ∷ y ∷ z ∷ [])
  code_same =
      let p = a ∷ b ∷ c ∷ [] in
      let q = x ∷ y ∷ z ∷ [] in
      bool_ext (eqb (point_code 0 p) (point_code 0 q)) (same p q)
      (λ e. let h = (eqb↔ (point_code 0 p) (point_code 0 q)).0 e in
      let i : a ≡ x = omega arith in
      let j : b ≡ y = omega arith in
      let k : c ≡ z = omega arith in
      (same_law p q).1 (cc))
      (λ e. (eqb↔ (point_code 0 p) (point_code 0 q)).1 (ap (point_code 0) ((same_law p q).0 e)))

pub raised_le : (b : Bool) (w : ℕ) → w ≤ max_ceiling → cond b (w + 1) w < point_base
raised_le true w h = omega arith
raised_le false w h = omega arith

code_eq : (a b : Region) → Small a → Small b → (t u : ℕ) → eqb (code_at a t) (code_at b u) ≡ same (raise t (view max_clocks a)) (raise u (view max_clocks b))
unfolding code_at
code_eq a b s r t u =
    code_same _ _ _ _ _ _
    (raised_le (leb t a.r1) a.w1 s.w1) (raised_le (leb t a.r2) a.w2 s.w2) (raised_le (leb t a.r3) a.w3 s.w3)
    (raised_le (leb u b.r1) b.w1 r.w1) (raised_le (leb u b.r2) b.w2 r.w2) (raised_le (leb u b.r3) b.w3 r.w3)

top_small : (g : Region) → Small g → top_rank (view max_clocks g) < slot_count
top_small g s = omega (arith, s.r1, s.r2, s.r3)

-- ---- the tests of the code

abbrev pub codes_of : Region → List ℕ
codes_of g = map (code_at g) (down slot_count)

codes_has : (a b : Region) → Small a → Small b → (t : ℕ) → some (eqb (code_at a t)) (codes_of b) ≡ has_corner (view max_clocks b) (raise t (view max_clocks a))
unfolding has_corner
codes_has a b s r t =
    some_alike (code_at b) (λ u. raise u (view max_clocks b)) (eqb (code_at a t)) (same (raise t (view max_clocks a))) (code_eq a b s r t) (down slot_count)
    ∙ some-corners (same (raise t (view max_clocks a))) (view max_clocks b) slot_count (top_small b r)

pub codes_share : (a b : Region) → Small a → Small b → some (λ p. some (eqb p) (codes_of b)) (codes_of a) ≡ shares (view max_clocks a) (view max_clocks b)
unfolding shares
codes_share a b s r =
    some_alike (code_at a) (λ t. raise t (view max_clocks a)) (λ p. some (eqb p) (codes_of b)) (has_corner (view max_clocks b)) (codes_has a b s r) (down slot_count)
    ∙ some-corners (has_corner (view max_clocks b)) (view max_clocks a) slot_count (top_small a s)

codes_inside : (a b : Region) → Small a → Small b
    → every (λ p. some (eqb p) (codes_of b)) (codes_of a) ≡ every (has_corner (view max_clocks b)) (corners (view max_clocks a))
codes_inside a b s r =
    every_alike (code_at a) (λ t. raise t (view max_clocks a)) (λ p. some (eqb p) (codes_of b)) (has_corner (view max_clocks b)) (codes_has a b s r) (down slot_count)
    ∙ every-corners (has_corner (view max_clocks b)) (view max_clocks a) slot_count (top_small a s)

pub codes_face : (a b : Region) → Small a → Small b
    → (every (λ p. some (eqb p) (codes_of a)) (codes_of b) && not (every (λ p. some (eqb p) (codes_of b)) (codes_of a))) ≡ face (view max_clocks a) (view max_clocks b)
unfolding face
codes_face a b s r = ap₂ (λ (x y : Bool). x && not y) (codes_inside b a r s) (codes_inside a b s r)
