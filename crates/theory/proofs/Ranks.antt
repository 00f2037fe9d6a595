-- Laws of ranks: which are present, the largest, and how many there can be.
use Prim.Native.Nat.{ℕ, zero, suc, ◌+◌, ◌≤◌}
use native.Mathlib.Omega.{arith}
use native.Mathlib.Decide.{dec_le}
use native.Mathlib.Nat.{le_trans, le_refl, le_antisymm}
use mathlib.Core.Path.{◌≡◌, refl, ap, subst}
use mathlib.Core.Bool.{Bool, true, false, cond, ◌||◌, false≢true}
use mathlib.Core.Logic.{◌⊎◌, inl, inr}
use mathlib.Core.List.{[], ◌∷◌, Memᴰ}
use lib.Dec.{eqb, leb}
use lib.ListN.{length}
use borrow.Author.Tests.{eq-eqb, eqb-true, le-leb, lt-leb, leb-true}
use Rattle.theory.specs.Region.{Clock, Region, has_rank, top_rank, ranks_upto, renumber, close_up}
use Rattle.theory.proofs.Below.{or_cases, or_left, or_right}

pub top_in : {x : Clock} {xs : Region} → Memᴰ x xs → x.rank ≤ top_rank xs
top_in {x} (Memᴰ.head {x = y} {xs = ys} e) = let h : x.rank ≡ y.rank = ap (λ (z : Clock). z.rank) e in omega arith
top_in {x} (Memᴰ.tail {x = y} {xs = ys} m) = omega (arith, top_in m)

-- ---- the ranks of n clocks are at most n

one_more : (c : Bool) (u v : ℕ) → u ≤ v → u + 1 ≤ cond c (v + 1) v + 1
one_more true u v h = omega arith
one_more false u v h = omega arith

as_many : (c : Bool) (u v k : ℕ) → u ≤ v + k → cond c (u + 1) u ≤ cond c (v + 1) v + k
as_many true u v k h = omega arith
as_many false u v k h = omega arith

leb-suc : (a r : ℕ) → cond (leb a r) 1 0 ≤ cond (leb a (suc r)) 1 0
leb-suc a r = by (leb a r) refl
  where
    by : (b : Bool) → leb a r ≡ b → cond b 1 0 ≤ cond (leb a (suc r)) 1 0
    by true e = let h : leb a (suc r) ≡ true = le-leb a (suc r) (omega (arith, leb-true a r e)) in rw h (omega arith)
    by false e = omega arith

-- one clock more has at most one rank more, and none more below its own
upto_cons : (x : Clock) (xs : Region) (r : ℕ) → ranks_upto (x ∷ xs) r ≤ ranks_upto xs r + cond (leb x.rank r) 1 0
upto_cons x xs zero = omega arith
upto_cons x xs (suc r) = by (eqb x.rank (suc r)) refl (has_rank xs (suc r)) (upto_cons x xs r)
  where
    by : (b : Bool) → eqb x.rank (suc r) ≡ b → (c : Bool) → ranks_upto (x ∷ xs) r ≤ ranks_upto xs r + cond (leb x.rank r) 1 0
        → cond (b || c) (ranks_upto (x ∷ xs) r + 1) (ranks_upto (x ∷ xs) r)
        ≤ cond c (ranks_upto xs r + 1) (ranks_upto xs r) + cond (leb x.rank (suc r)) 1 0
    by true e c ih =
        let q = eqb-true x.rank (suc r) e in
        let u : ranks_upto (x ∷ xs) r ≤ ranks_upto xs r = omega (arith, rw (lt-leb x.rank r (omega arith)) at ih) in
        rw (le-leb x.rank (suc r) (omega arith)) (one_more c (ranks_upto (x ∷ xs) r) (ranks_upto xs r) u)
    by false e c ih = as_many c (ranks_upto (x ∷ xs) r) (ranks_upto xs r) _ (omega (arith, leb-suc x.rank r))

upto_length : (xs : Region) (r : ℕ) → ranks_upto xs r ≤ length xs
upto_length [] r = by r
  where
    by : (r : ℕ) → ranks_upto [] r ≤ 0
    by zero = omega arith
    by (suc r) = by r
upto_length (x ∷ xs) r = omega (arith, upto_cons x xs r, bit (leb x.rank r), upto_length xs r)
  where
    bit : (b : Bool) → cond b 1 0 ≤ 1
    bit true = omega arith
    bit false = omega arith

upto_all : (xs : Region) (g : ℕ) → ((r : ℕ) → 1 ≤ r → r ≤ g → has_rank xs r ≡ true) → ranks_upto xs g ≡ g
upto_all xs zero h = refl
upto_all xs (suc g) h = rw (h (suc g) (omega arith) (omega arith)) (omega (arith, upto_all xs g (λ r a b. h r a (omega arith))))

-- where the ranks 1..g are present there are at least g clocks
pub ranks_few : (xs : Region) (g : ℕ) → ((r : ℕ) → 1 ≤ r → r ≤ g → has_rank xs r ≡ true) → g ≤ length xs
ranks_few xs g h = omega (arith, upto_all xs g h, upto_length xs g)

-- ---- ranks that are renumbered

pub renumber_rank : (f : ℕ → ℕ) (xs : Region) (r : ℕ) → has_rank xs r ≡ true → has_rank (renumber f xs) (f r) ≡ true
renumber_rank f [] r e = absurd (false≢true e)
renumber_rank f (x ∷ xs) r e = by (renumber_rank f xs r) (or_cases (eqb x.rank r) (has_rank xs r) e)
  where
    by : (has_rank xs r ≡ true → has_rank (renumber f xs) (f r) ≡ true) → (eqb x.rank r ≡ true) ⊎ (has_rank xs r ≡ true)
        → (eqb (f x.rank) (f r) || has_rank (renumber f xs) (f r)) ≡ true
    by ih (inl t) =
        or_left (eqb (f x.rank) (f r)) (has_rank (renumber f xs) (f r)) (eq-eqb (f x.rank) (f r) (ap f (eqb-true x.rank r t)))
    by ih (inr t) = or_right (eqb (f x.rank) (f r)) (has_rank (renumber f xs) (f r)) (ih t)

pub renumber_top : (f : ℕ → ℕ) (xs : Region) (k : ℕ) → ((r : ℕ) → r ≤ top_rank xs → f r ≤ k) → top_rank (renumber f xs) ≤ k
renumber_top f [] k h = omega arith
renumber_top f (x ∷ xs) k h = omega (arith, h x.rank (omega arith), renumber_top f xs k (λ r l. h r (omega arith)))

upto_suc : (xs : Region) (r : ℕ) → ranks_upto xs r ≤ ranks_upto xs (suc r)
upto_suc xs r = by (has_rank xs (suc r))
  where
    by : (b : Bool) → ranks_upto xs r ≤ cond b (ranks_upto xs r + 1) (ranks_upto xs r)
    by true = omega arith
    by false = omega arith

pub upto_mono : (xs : Region) (r s : ℕ) → r ≤ s → ranks_upto xs r ≤ ranks_upto xs s
upto_mono xs r zero h = let e : r ≡ 0 = omega arith in rw e (omega arith)
upto_mono xs r (suc s) h = by (dec_le r s) (upto_mono xs r s)
  where
    by : Dec (r ≤ s) → (r ≤ s → ranks_upto xs r ≤ ranks_upto xs s) → ranks_upto xs r ≤ ranks_upto xs (suc s)
    by (yes q) ih = le_trans (ih q) (upto_suc xs s)
    by (no q) ih = let e : r ≡ suc s = omega (arith, q) in rw e (le_refl _)

-- each number up to the count of ranks is the new number of one of them
upto_attained : (xs : Region) (g t : ℕ) → 1 ≤ t → t ≤ ranks_upto xs g → has_rank (close_up xs) t ≡ true
upto_attained xs zero t a b = absurd (omega arith)
upto_attained xs (suc g) t a b = by (has_rank xs (suc g)) refl (dec_le t (ranks_upto xs g)) (upto_attained xs g t a)
  where
    by : (c : Bool) → has_rank xs (suc g) ≡ c → Dec (t ≤ ranks_upto xs g) → (t ≤ ranks_upto xs g → has_rank (close_up xs) t ≡ true)
        → has_rank (close_up xs) t ≡ true
    by c e (yes q) ih = ih q
    by true e (no q) ih =
        let s : ranks_upto xs (suc g) ≡ t = le_antisymm (rw e (omega (arith, q))) b in
        subst (λ (t : ℕ). has_rank (close_up xs) t ≡ true) s (renumber_rank (ranks_upto xs) xs (suc g) e)
    by false e (no q) ih = ih (rw e at b)

-- ranks that are closed up are just 1..g
pub close_up_ranked : (xs : Region) (r : ℕ) → 1 ≤ r → r ≤ top_rank (close_up xs) → has_rank (close_up xs) r ≡ true
close_up_ranked xs r a b =
    upto_attained xs (top_rank xs) r a
    (le_trans b (renumber_top (ranks_upto xs) xs (ranks_upto xs (top_rank xs)) (λ r l. upto_mono xs r (top_rank xs) l)))
