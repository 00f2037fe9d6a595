-- A shift for which a list of times rounds well.
-- Rounding is ρ t = (t + s) / N. A time T is good for the shift s when T and T + b round alike. By Hermite's identity, that
-- (x + 0) / N + .. + (x + (N - 1)) / N is x, the roundings of T + b and of T, summed over all shifts, differ by just b. So if
-- as many times as the list has, times b, are below N, some shift is good for all of them. No remainder is ever named.
use mathlib.Core.Path.{◌≡◌, refl, ◌∙◌}
use mathlib.Core.List.{List, [], ◌∷◌}
use mathlib.Core.Logic.{◌⊎◌, inl, inr}
use Prim.Native.Nat.{ℕ, zero, suc, ◌+◌, ◌*◌, ◌/◌, ◌≤◌, ◌<◌}
use native.Mathlib.Nat.{le-div_iff_mul-le, div-mul-le_self, add-div_right, div-eq_of_lt, zero-add, add-zero, suc-add, add-suc, le_trans, le_of_eq}
use native.Mathlib.Decide.{dec_le}
use native.Mathlib.Omega.{arith}
use lib.ListN.{length}

-- division is monotone
pub div_mono : (N : ℕ) {a b : ℕ} → 0 < N → a ≤ b → a / N ≤ b / N
div_mono N {a} {b} pos h = (le-div_iff_mul-le pos).1 (le_trans (div-mul-le_self a N) h)

-- f 0 + .. + f (n - 1)
abbrev pub sum : (ℕ → ℕ) → ℕ → ℕ
sum f zero = 0
sum f (suc n) = sum f n + f n

sum_front : (f : ℕ → ℕ) (n : ℕ) → sum f (suc n) ≡ f 0 + sum (λ s. f (suc s)) n
sum_front f zero = omega arith
sum_front f (suc n) = omega (arith, sum_front f n)

pub sum-add : (f g : ℕ → ℕ) (n : ℕ) → sum (λ s. f s + g s) n ≡ sum f n + sum g n
sum-add f g zero = refl
sum-add f g (suc n) = omega (arith, sum-add f g n)

pub sum_zero : (f : ℕ → ℕ) (n : ℕ) → ((s : ℕ) → s < n → f s ≡ 0) → sum f n ≡ 0
sum_zero f zero h = refl
sum_zero f (suc n) h = omega (arith, sum_zero f n (λ s l. h s (omega arith)), h n (omega arith))

-- Hermite's identity
hermite : (N : ℕ) → 0 < N → (x : ℕ) → sum (λ s. (x + s) / N) N ≡ x
hermite N pos zero = sum_zero (λ s. (0 + s) / N) N (λ s l. rw zero-add (div-eq_of_lt l))
hermite N pos (suc x) =
    let front : sum (λ s. (x + s) / N) (suc N) ≡ (x + 0) / N + sum (λ s. (x + suc s) / N) N = sum_front (λ s. (x + s) / N) N in
    let first : (x + 0) / N ≡ x / N = rw add-zero in
    let same : sum (λ s. (x + suc s) / N) N ≡ sum (λ s. (suc x + s) / N) N = simp (add-suc, suc-add) in
    omega (arith, hermite N pos x, add-div_right x pos)

-- Some s below n has f s ≤ g s, or f is larger everywhere and its sum by n.
pub find : (f g : ℕ → ℕ) (n : ℕ) → ((s : ℕ) × (s < n) × (f s ≤ g s)) ⊎ (sum g n + n ≤ sum f n)
find f g zero = inr (omega arith)
find f g (suc n) = pick (find f g n) (dec_le (f n) (g n))
  where
    pick : ((s : ℕ) × (s < n) × (f s ≤ g s)) ⊎ (sum g n + n ≤ sum f n) → Dec (f n ≤ g n)
        → ((s : ℕ) × (s < suc n) × (f s ≤ g s)) ⊎ (sum g (suc n) + suc n ≤ sum f (suc n))
    pick (inl p) d = inl (p.0, omega arith, p.2)
    pick (inr l) (yes h) = inl (n, omega arith, h)
    pick (inr l) (no h) = inr (omega arith)

-- The sum of the roundings of all times, each raised by c, at the shift s.
abbrev pub rounds : ℕ → ℕ → List ℕ → ℕ → ℕ
rounds N c [] s = 0
rounds N c (t ∷ ts) s = (t + c + s) / N + rounds N c ts s

abbrev pub total : List ℕ → ℕ
total [] = 0
total (t ∷ ts) = t + total ts

-- Summed over all shifts it is the sum of the times, each raised by c.
sum-rounds : (N c : ℕ) → 0 < N → (ts : List ℕ) → sum (rounds N c ts) N ≡ total ts + length ts * c
sum-rounds N c pos [] = sum_zero (rounds N c []) N (λ s l. refl) ∙ omega arith
sum-rounds N c pos (t ∷ ts) =
    omega (arith, sum-add (λ s. (t + c + s) / N) (rounds N c ts) N, hermite N pos (t + c), sum-rounds N c pos ts)

-- The time t rounds alike when it is raised by b.
abbrev pub Good : ℕ → ℕ → ℕ → ℕ → Type 0
Good N b s t = (t + b + s) / N ≤ (t + s) / N

abbrev pub AllGood : ℕ → ℕ → ℕ → List ℕ → Type 0
AllGood N b s [] = Unit {0}
AllGood N b s (t ∷ ts) = Good N b s t × AllGood N b s ts

rounds_mono : (N b s : ℕ) → 0 < N → (ts : List ℕ) → rounds N 0 ts s ≤ rounds N b ts s
rounds_mono N b s pos [] = omega arith
rounds_mono N b s pos (t ∷ ts) =
    let one : (t + 0 + s) / N ≤ (t + b + s) / N = div_mono N pos (omega arith) in
    omega (arith, rounds_mono N b s pos ts)

all_good : (N b s : ℕ) → 0 < N → (ts : List ℕ) → rounds N b ts s ≤ rounds N 0 ts s → AllGood N b s ts
all_good N b s pos [] h = tt
all_good N b s pos (t ∷ ts) h =
    let one : (t + 0 + s) / N ≤ (t + b + s) / N = div_mono N pos (omega arith) in
    let plain : (t + 0 + s) / N ≡ (t + s) / N = rw add-zero in
    let rest = rounds_mono N b s pos ts in
    (omega arith, all_good N b s pos ts (omega arith))

-- Where the number of times, times b, is below N, some shift is good for all the times.
pub good_shift : (N b : ℕ) → 0 < N → (ts : List ℕ) → length ts * b < N → (s : ℕ) × (s < N) × AllGood N b s ts
good_shift N b pos ts few = go (find (rounds N b ts) (rounds N 0 ts) N)
  where
    go : ((s : ℕ) × (s < N) × (rounds N b ts s ≤ rounds N 0 ts s)) ⊎ (sum (rounds N 0 ts) N + N ≤ sum (rounds N b ts) N)
        → (s : ℕ) × (s < N) × AllGood N b s ts
    go (inl p) = (p.0, p.1, all_good N b p.0 pos ts p.2)
    go (inr l) = absurd (omega (arith, sum-rounds N b pos ts, sum-rounds N 0 pos ts))

-- Without raising every time is good.
pub all_plain : (N s : ℕ) (ts : List ℕ) → AllGood N 0 s ts
all_plain N s [] = tt
all_plain N s (t ∷ ts) = (le_of_eq (rw add-zero), all_plain N s ts)
