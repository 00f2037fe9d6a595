-- Steps keep regions lawful; faces and shared corners: over any number of clocks and any ceiling.
use Prim.Native.Nat.{ℕ, zero, suc, ◌+◌, ◌-◌, ◌≤◌, zero-le, max}
use native.Mathlib.Omega.{arith}
use native.Mathlib.Numerals.{add-one}
use native.Mathlib.Nat.{le_trans}
use mathlib.Core.Path.{◌≡◌, refl, sym, ap, ap₂, ◌∙◌, subst}
use mathlib.Core.Bool.{Bool, true, false, cond, ◌||◌}
use mathlib.Core.List.{List, [], ◌∷◌}
use lib.Dec.{eqb, leb, eqb-suc-suc, eqb-zero-suc, leb-suc-suc, leb-zero}
use lib.ListN.{replicate}
use borrow.Author.Tests.{ne_eqb, eqb-true, eqb-false, le-leb, leb-true}
use Rattle.theory.specs.Pointwise.{Each, none, more}
use Rattle.theory.specs.Region.{Clock, Region, rounded_up, Fits, has_rank, top_rank, raise, wholes, Corner, base, rise_ranks, carry, successor, reset_clocks, renumber, ranks_upto, close_up, fits, lawful, face, shares}
use Rattle.theory.proofs.Below.{bool_ext}
use Rattle.theory.proofs.Region.{fits_law, lawful_law, face_law, shares_law, corner_raise}
use Rattle.theory.proofs.Ranks.{close_up_ranked}

-- ---- time

rise_rank : (xs : Region) (r : ℕ) → has_rank (rise_ranks xs) (suc r) ≡ has_rank xs r
rise_rank [] r = refl
rise_rank (x ∷ xs) r = rw (add-one x.rank, eqb-suc-suc x.rank r) (ap (λ (b : Bool). eqb x.rank r || b) (rise_rank xs r))

rise_top : (xs : Region) → top_rank (rise_ranks xs) ≤ top_rank xs + 1
rise_top [] = omega arith
rise_top (x ∷ xs) = omega (arith, rise_top xs)

-- ranks other than 0 and t stay
carry_rank : (t : ℕ) (xs : Region) (r : ℕ) → (suc r ≡ t → ⊥) → has_rank (carry t xs) (suc r) ≡ has_rank xs (suc r)
carry_rank t [] r n = refl
carry_rank t (x ∷ xs) r n = ap₂ ◌||◌ (by (eqb x.rank t) refl _ refl) (carry_rank t xs r n)
  where
    by : (b : Bool) → eqb x.rank t ≡ b → (y : Clock) → y.rank ≡ 0 → eqb (cond b y x).rank (suc r) ≡ eqb x.rank (suc r)
    by true e y z = rw z (eqb-zero-suc r) ∙ sym (ne_eqb x.rank (suc r) (λ q. n (sym q ∙ eqb-true x.rank t e)))
    by false e y z = refl

carry_top : (t : ℕ) (xs : Region) → top_rank xs ≤ t → top_rank (carry t xs) ≤ t - 1
carry_top t [] h = omega arith
carry_top t (x ∷ xs) h = max-le (by (eqb x.rank t) refl _ refl) (carry_top t xs (omega arith))
  where
    max-le : {a b c : ℕ} → a ≤ c → b ≤ c → max a b ≤ c
    max-le p q = omega arith

    by : (b : Bool) → eqb x.rank t ≡ b → (y : Clock) → y.rank ≡ 0 → (cond b y x).rank ≤ t - 1
    by true e y z = omega arith
    by false e y z = omega (arith, eqb-false x.rank t e)

successor_ranked : (xs : Region) → ((r : ℕ) → 1 ≤ r → r ≤ top_rank xs → has_rank xs r ≡ true)
    → (r : ℕ) → 1 ≤ r → r ≤ top_rank (successor xs) → has_rank (successor xs) r ≡ true
successor_ranked xs h = by (has_rank xs 0) refl
  where
    rising : has_rank xs 0 ≡ true → (r : ℕ) → 1 ≤ r → r ≤ top_rank (rise_ranks xs) → has_rank (rise_ranks xs) r ≡ true
    rising e zero a b = absurd (omega arith)
    rising e (suc zero) a b = rise_rank xs 0 ∙ e
    rising e (suc (suc r)) a b = rise_rank xs (suc r) ∙ h (suc r) (omega arith) (omega (arith, rise_top xs))

    carrying : (r : ℕ) → 1 ≤ r → r ≤ top_rank (carry (top_rank xs) xs) → has_rank (carry (top_rank xs) xs) r ≡ true
    carrying zero a b = absurd (omega arith)
    carrying (suc r) a b =
        let l = carry_top (top_rank xs) xs (omega arith) in
        carry_rank (top_rank xs) xs r (λ e. omega arith) ∙ h (suc r) a (omega arith)

    by : (c : Bool) → has_rank xs 0 ≡ c → (r : ℕ) → 1 ≤ r → r ≤ top_rank (cond c (rise_ranks xs) (carry (top_rank xs) xs))
        → has_rank (cond c (rise_ranks xs) (carry (top_rank xs) xs)) r ≡ true
    by true e = rising e
    by false e = carrying

-- the time successor that keeps the ceiling is a region
pub successor-lawful : (n M : ℕ) (xs : Region) → lawful n M xs ≡ true → fits (successor xs) (replicate n M) ≡ true → lawful n M (successor xs) ≡ true
successor-lawful n M xs t f =
    let L = (lawful_law n M xs).0 t in
    (lawful_law n M (successor xs)).1
    (record { capped = (fits_law (successor xs) (replicate n M)).0 f; ranked = successor_ranked xs L.ranked })

-- ---- jumps

reset_fits : (bs : List Bool) {xs : Region} {cs : List ℕ} → Fits xs cs → Fits (reset_clocks bs xs) cs
reset_fits bs none = none
reset_fits [] (more h hs) = more h hs
reset_fits (true ∷ bs) (more {c = c} h hs) = more {c = c} zero-le (reset_fits bs hs)
reset_fits (false ∷ bs) (more h hs) = more h (reset_fits bs hs)

-- a fraction may go and does not come
lower : (w r s : ℕ) → (r ≡ 0 → s ≡ 0) → rounded_up w s ≤ rounded_up w r
lower w zero s h = rw (h refl) (omega arith)
lower w (suc r) zero h = omega arith
lower w (suc r) (suc s) h = omega arith

renumber_fits : (f : ℕ → ℕ) → f 0 ≡ 0 → {xs : Region} {cs : List ℕ} → Fits xs cs → Fits (renumber f xs) cs
renumber_fits f z none = none
renumber_fits f z (more {x = x} h hs) = more (le_trans (lower x.whole x.rank (f x.rank) (λ e. ap f e ∙ z)) h) (renumber_fits f z hs)

-- a region after a reset, with its ranks closed up, is a region
pub reset_lawful : (n M : ℕ) (bs : List Bool) (xs : Region) → lawful n M xs ≡ true → lawful n M (close_up (reset_clocks bs xs)) ≡ true
reset_lawful n M bs xs t =
    let L = (lawful_law n M xs).0 t in
    let ys = reset_clocks bs xs in
    (lawful_law n M (close_up ys)).1
    (record { capped = renumber_fits (ranks_upto ys) refl (reset_fits bs L.capped); ranked = close_up_ranked ys })

-- ---- faces and shared corners

-- within limits is the same as the highest corner within limits
highest : {xs : Region} {cs : List ℕ} → Fits xs cs → Each (λ x c. x ≤ c) (raise 1 xs) cs
highest none = none
highest (more {x = x} h hs) = more (le_trans (by x.whole x.rank) h) (highest hs)
  where
    by : (w r : ℕ) → cond (leb 1 r) (w + 1) w ≤ rounded_up w r
    by w zero = omega arith
    by w (suc r) = rw (leb-suc-suc 0 r, leb-zero r) (omega arith)

from_highest : (xs : Region) {cs : List ℕ} → Each (λ x c. x ≤ c) (raise 1 xs) cs → Fits xs cs
from_highest [] none = none
from_highest (x ∷ xs) (more h hs) = more (le_trans (by x.whole x.rank) h) (from_highest xs hs)
  where
    by : (w r : ℕ) → rounded_up w r ≤ cond (leb 1 r) (w + 1) w
    by w zero = omega arith
    by w (suc r) = rw (leb-suc-suc 0 r, leb-zero r) (omega arith)

-- and then every corner is
below_highest : (t : ℕ) → 1 ≤ t → (xs : Region) {cs : List ℕ} → Each (λ x c. x ≤ c) (raise 1 xs) cs → Each (λ x c. x ≤ c) (raise t xs) cs
below_highest t h [] none = none
below_highest t h (x ∷ xs) (more l ls) = more (le_trans (by (leb t x.rank) refl) l) (below_highest t h xs ls)
  where
    by : (b : Bool) → leb t x.rank ≡ b → cond b (x.whole + 1) x.whole ≤ cond (leb 1 x.rank) (x.whole + 1) x.whole
    by true e = rw (le-leb 1 x.rank (omega (arith, leb-true t x.rank e))) (omega arith)
    by false e = at_least (leb 1 x.rank) x.whole
      where
        at_least : (b : Bool) (w : ℕ) → w ≤ cond b (w + 1) w
        at_least true w = omega arith
        at_least false w = omega arith

corner_below : (xs : Region) (cs p : List ℕ) → Fits xs cs → Corner xs p → Each (λ x c. x ≤ c) p cs
corner_below xs cs p f c =
    let (t, h, e) = (corner_raise xs p).0 c in
    subst (λ q. Each (λ x c. x ≤ c) q cs) e (below_highest t h xs (highest f))

-- a face of a region within limits is within them
pub face-fits : (xs ys : Region) (cs : List ℕ) → fits xs cs ≡ true → face xs ys ≡ true → fits ys cs ≡ true
face-fits xs ys cs t e =
    let F = (face_law xs ys).0 e in
    let top = (corner_raise ys (raise 1 ys)).1 (1, omega arith, refl) in
    (fits_law ys cs).1 (from_highest ys (corner_below xs cs (raise 1 ys) ((fits_law xs cs).0 t) (F.some_of (raise 1 ys) top)))

pub shares_refl : (xs : Region) → shares xs xs ≡ true
shares_refl xs = (shares_law xs xs).1 (wholes xs, base, base)

pub shares_sym : (xs ys : Region) → shares xs ys ≡ shares ys xs
shares_sym xs ys = bool_ext (shares xs ys) (shares ys xs) (turn xs ys) (turn ys xs)
  where
    turn : (xs ys : Region) → shares xs ys ≡ true → shares ys xs ≡ true
    turn xs ys e = let (p, a, b) = (shares_law xs ys).0 e in (shares_law ys xs).1 (p, b, a)

-- a face shares a corner
pub face-shares : (xs ys : Region) → face xs ys ≡ true → shares xs ys ≡ true
face-shares xs ys e = let F = (face_law xs ys).0 e in (shares_law xs ys).1 (wholes ys, F.some_of (wholes ys) base, base)
