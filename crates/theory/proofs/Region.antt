-- The tests of regions say what 01 means by them: limits, lawful regions, corners, faces, shared corners, allowed states, guards.
use Prim.Native.Nat.{ℕ, suc, ◌≤◌, ◌<◌}
use native.Mathlib.Omega.{arith}
use native.Mathlib.Decide.{dec_le}
use mathlib.Core.Path.{◌≡◌, refl, sym, ap, ◌∙◌, subst}
use mathlib.Core.Bool.{true, true≢false, false≢true}
use mathlib.Core.Logic.{◌↔◌}
use mathlib.Core.List.{List, [], ◌∷◌, Memᴰ}
use lib.ListN.{replicate}
use borrow.Author.Tests.{lt-leb}
use Rattle.theory.specs.Lists.{every, down}
use Rattle.theory.specs.Pointwise.{Each}
use Rattle.theory.specs.Automaton.{Automaton, Edge}
use Rattle.theory.specs.Region.{Clock, Region, rounded_up, Fits, Attains, has_rank, top_rank, Lawful, raise, wholes, Corner, base, raised, Face, Shares, fits, attains, lawful, corners, has_corner, face, shares}
use Rattle.theory.specs.RegionGraph.{Allowed, allowed, guard_holds}
use Rattle.theory.proofs.Below.{false_unless_true, test↔, leb↔, not↔, and↔}
use Rattle.theory.proofs.Lists.{every_law, some_law, not_every, same_law, down_law, map_law}

-- ---- limits, for any relation of a clock and its limit

each_first : {P : Clock → ℕ → Type 0} {x : Clock} {xs : Region} {c : ℕ} {cs : List ℕ} → Each P (x ∷ xs) (c ∷ cs) → P x c × Each P xs cs
each_first (Each.more h hs) = (h, hs)

no_short : {P : Clock → ℕ → Type 0} {c : ℕ} {cs : List ℕ} → Each P [] (c ∷ cs) → ⊥
no_short h = elim h [ ]

no_long : {P : Clock → ℕ → Type 0} {x : Clock} {xs : Region} → Each P (x ∷ xs) [] → ⊥
no_long h = elim h [ ]

pub fits_law : (xs : Region) (cs : List ℕ) → (fits xs cs ≡ true) ↔ Fits xs cs
unfolding fits
fits_law [] [] = (λ e. Each.none, λ h. refl)
fits_law [] (c ∷ cs) = (λ e. absurd (false≢true e), λ h. absurd (no_short h))
fits_law (x ∷ xs) [] = (λ e. absurd (false≢true e), λ h. absurd (no_long h))
fits_law (x ∷ xs) (c ∷ cs) =
    let t = and↔ (leb↔ (rounded_up x.whole x.rank) c) (fits_law xs cs) in
    (λ e. let (h, hs) = t.0 e in Each.more h hs, λ h. t.1 (each_first h))

pub attains_law : (xs : Region) (cs : List ℕ) → (attains xs cs ≡ true) ↔ Attains xs cs
unfolding attains
attains_law [] [] = (λ e. Each.none, λ h. refl)
attains_law [] (c ∷ cs) = (λ e. absurd (false≢true e), λ h. absurd (no_short h))
attains_law (x ∷ xs) [] = (λ e. absurd (false≢true e), λ h. absurd (no_long h))
attains_law (x ∷ xs) (c ∷ cs) =
    let t = and↔ (leb↔ c x.whole) (attains_law xs cs) in
    (λ e. let (h, hs) = t.0 e in Each.more h hs, λ h. t.1 (each_first h))

-- ---- lawful regions

pub lawful_law : (n M : ℕ) (xs : Region) → (lawful n M xs ≡ true) ↔ Lawful n M xs
unfolding lawful
lawful_law n M xs =
    let ranks = every_law (λ r. test↔ (has_rank xs r)) (down (top_rank xs)) in
    let t = and↔ (fits_law xs (replicate n M)) ranks in (
      λ e. let (f, r) = t.0 e in record { capped = f; ranked = λ k a b. r k ((down_law (top_rank xs) k).1 (a, b)) },
      λ L. t.1 (L.capped, λ k m. let (a, b) = (down_law (top_rank xs) k).0 m in L.ranked k a b),
    )

-- ---- corners

-- above the top rank no clock is raised
pub raise_none : (t : ℕ) (xs : Region) → top_rank xs < t → raise t xs ≡ wholes xs
raise_none t [] h = refl
raise_none t (x ∷ xs) h = rw (lt-leb t x.rank (omega arith)) (ap (λ (l : List ℕ). x.whole ∷ l) (raise_none t xs (omega arith)))

-- a corner is what some threshold from 1 on raises
pub corner_raise : (xs : Region) (p : List ℕ) → Corner xs p ↔ ((t : ℕ) × (1 ≤ t) × (raise t xs ≡ p))
corner_raise xs p = (out, λ (t, h, e). subst (λ q. Corner xs q) e (back t h (dec_le t (top_rank xs))))
  where
    out : {q : List ℕ} → Corner xs q → (t : ℕ) × (1 ≤ t) × (raise t xs ≡ q)
    out base = (suc (top_rank xs), omega arith, raise_none (suc (top_rank xs)) xs (omega arith))
    out (raised t h k) = (t, h, refl)

    back : (t : ℕ) → 1 ≤ t → Dec (t ≤ top_rank xs) → Corner xs (raise t xs)
    back t h (yes k) = raised t h k
    back t h (no k) = subst (λ q. Corner xs q) (sym (raise_none t xs (omega arith))) base

pub corners_law : (xs : Region) (p : List ℕ) → Memᴰ p (corners xs) ↔ Corner xs p
unfolding corners
corners_law xs p =
    let t = map_law (λ t. raise t xs) (down (suc (top_rank xs))) p in (
      λ m. let (k, n, e) = t.0 m in (corner_raise xs p).1 (k, ((down_law (suc (top_rank xs)) k).0 n).0, sym e),
      λ c. t.1 (threshold c),
    )
  where
    threshold : {q : List ℕ} → Corner xs q → (k : ℕ) × Memᴰ k (down (suc (top_rank xs))) × (q ≡ raise k xs)
    threshold base =
        let g = suc (top_rank xs) in (g, (down_law g g).1 (omega arith, omega arith), sym (raise_none g xs (omega arith)))
    threshold (raised k h l) = (k, (down_law (suc (top_rank xs)) k).1 (h, omega arith), refl)

pub has_corner_law : (xs : Region) (p : List ℕ) → (has_corner xs p ≡ true) ↔ Corner xs p
unfolding has_corner
has_corner_law xs p =
    let t = some_law (same_law p) (corners xs) in (
      λ e. let (q, m, h) = t.0 e in subst (λ r. Corner xs r) (sym h) ((corners_law xs q).0 m),
      λ c. t.1 (p, (corners_law xs p).1 c, refl),
    )

-- ---- faces and shared corners

pub face_law : (xs ys : Region) → (face xs ys ≡ true) ↔ Face xs ys
unfolding face
face_law xs ys =
    let inside = every_law (has_corner_law xs) (corners ys) in
    let t = and↔ inside (not↔ (every (has_corner ys) (corners xs))) in (
      λ e. let (a, b) = t.0 e in
          let (p, m, h) = not_every (has_corner ys) (corners xs) b in
          record {
            some_of = λ q c. a q ((corners_law ys q).1 c);
            not_all = (p, (corners_law xs p).0 m, λ c. true≢false (sym ((has_corner_law ys p).1 c) ∙ h));
          },
      λ F. let (p, c, n) = F.not_all in
          t.1 (
            λ q m. F.some_of q ((corners_law ys q).0 m),
            false_unless_true (every (has_corner ys) (corners xs)) (λ e. n ((every_law (has_corner_law ys) (corners xs)).0 e p ((corners_law xs p).1 c))),
          ),
    )

pub shares_law : (xs ys : Region) → (shares xs ys ≡ true) ↔ Shares xs ys
unfolding shares
shares_law xs ys =
    let t = some_law (has_corner_law ys) (corners xs) in (
      λ e. let (p, m, c) = t.0 e in (p, (corners_law xs p).0 m, c),
      λ (p, b, c). t.1 (p, (corners_law xs p).1 b, c),
    )

-- ---- states

pub allowed_law : (m : Automaton) (l : ℕ) (xs : Region) → (allowed m l xs ≡ true) ↔ Allowed m l xs
unfolding allowed
allowed_law m l xs =
    let t = and↔ (lawful_law m.clocks m.ceiling xs) (fits_law xs (m.invariant l)) in
    (λ e. let (a, b) = t.0 e in record { region = a; stays = b }, λ a. t.1 (a.region, a.stays))

pub guard_law : (g : Edge) (xs : Region) → (guard_holds g xs ≡ true) ↔ (Attains xs g.lower × Fits xs g.upper)
unfolding guard_holds
guard_law g xs = and↔ (attains_law xs g.lower) (fits_law xs g.upper)
