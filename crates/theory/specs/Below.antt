-- Tests, counts and choices over the numbers below a bound. Each counts up from 0 by shifting its function.
use Rattle.std.specs.Prelude.{Bool, true, false, not, cond, ◌&&◌, ◌||◌, List, [], ◌∷◌, ℕ, zero, suc, ◌+◌, max}

-- where the first is true, so is the second
abbrev pub imp : Bool → Bool → Bool
imp a b = not a || b

-- true as 1, false as 0
abbrev pub bit : Bool → ℕ
bit true = 1
bit false = 0

-- some i below n passes f
unfoldable pub any : ℕ → (ℕ → Bool) → Bool
any zero f = false
any (suc n) f = f zero || any n (λ i. f (suc i))

-- each i below n passes f
unfoldable pub all : ℕ → (ℕ → Bool) → Bool
all zero f = true
all (suc n) f = f zero && all n (λ i. f (suc i))

-- how many i below n pass f
unfoldable pub count : ℕ → (ℕ → Bool) → ℕ
count zero f = zero
count (suc n) f = bit (f zero) + count n (λ i. f (suc i))

-- so many of the numbers below n have a property
pub data Counted (P : ℕ → Type 0) : ℕ → ℕ → Type 0 where
  none : Counted P 0 0
  one : {n k : ℕ} → Counted P n k → P n → Counted P (suc n) (suc k)
  skip : {n k : ℕ} → Counted P n k → (P n → ⊥) → Counted P (suc n) k

-- the least i below n that passes f, or n if none does
unfoldable pub least : ℕ → (ℕ → Bool) → ℕ
least zero f = zero
least (suc n) f = let r = suc (least n (λ i. f (suc i))) in cond (f zero) zero r

-- the largest f i with i below n, or 0
unfoldable pub top : ℕ → (ℕ → ℕ) → ℕ
top zero f = zero
top (suc n) f = max (f zero) (top n (λ i. f (suc i)))

-- the list of f 0 up to f (n - 1)
unfoldable pub tab : ℕ → (ℕ → ℕ) → List ℕ
tab zero f = []
tab (suc n) f = let h = f zero in h ∷ tab n (λ i. f (suc i))
