-- The least distance of a goal, place after place.
use mathlib.Core.Path.{◌≡◌, refl, sym, ◌∙◌}
use mathlib.Core.Bool.{Bool, true, false, true≢false}
use Prim.Native.Nat.{ℕ, zero, suc, ◌+◌, ◌≤◌, ◌<◌}
use native.Mathlib.Omega.{arith}
use native.Mathlib.Decide.{ℕ_discrete, dec_lt}
use native.Mathlib.Nat.{min-eq_left, min-eq_right}
use Rattle.std.specs.Prelude.{Option, None, Some, min}
use Rattle.search.specs.Lowest.{lower_distance, LeastDistance, none_reached, reached_at}

module _ (goal : ℕ → Bool) (f : ℕ → ℕ) where
  -- no goal before place i
  pub least_none : (i : ℕ) → ((p : ℕ) → p < i → goal p ≡ true → ⊥) → LeastDistance goal f i None
  least_none i h = none_reached (λ p l g. absurd (h p l g))

  -- a place that is no goal
  pub least_skip : (i : ℕ) {best : Option ℕ} → goal i ≡ false → LeastDistance goal f i best → LeastDistance goal f (i + 1) best
  least_skip i n (none_reached h) = none_reached (λ p l g. by p l g (ℕ_discrete p i))
    where
      by : (p : ℕ) → p < i + 1 → goal p ≡ true → Dec (p ≡ i) → f p ≡ 0
      by p l g (yes e) = absurd (true≢false (sym g ∙ rw e n))
      by p l g (no e) = h p (omega arith) g
  least_skip i n (reached_at {d} q b t u h) = reached_at q (omega arith) t u (λ p l g z. by p l g z (ℕ_discrete p i))
    where
      by : (p : ℕ) → p < i + 1 → goal p ≡ true → 0 < f p → Dec (p ≡ i) → d + 1 ≤ f p
      by p l g z (yes e) = absurd (true≢false (sym g ∙ rw e n))
      by p l g z (no e) = h p (omega arith) g z

  -- a goal
  pub least_more : (i : ℕ) {best : Option ℕ} → goal i ≡ true → LeastDistance goal f i best → LeastDistance goal f (i + 1) (lower_distance best (f i))
  least_more i here L = at (f i) refl L
    where
      at : (y : ℕ) {best : Option ℕ} → f i ≡ y → LeastDistance goal f i best → LeastDistance goal f (i + 1) (lower_distance best y)
      at zero e (none_reached h) = none_reached (λ p l g. by p l g (ℕ_discrete p i))
        where
          by : (p : ℕ) → p < i + 1 → goal p ≡ true → Dec (p ≡ i) → f p ≡ 0
          by p l g (yes k) = rw k e
          by p l g (no k) = h p (omega arith) g
      at zero e (reached_at {d} q b t u h) = reached_at q (omega arith) t u (λ p l g z. by p l g z (ℕ_discrete p i))
        where
          by : (p : ℕ) → p < i + 1 → goal p ≡ true → 0 < f p → Dec (p ≡ i) → d + 1 ≤ f p
          by p l g z (yes k) = let y : f p ≡ 0 = rw k e in absurd (omega arith)
          by p l g z (no k) = h p (omega arith) g z
      at (suc y) e (none_reached h) = reached_at {d = y} i (omega arith) here (omega arith) (λ p l g z. by p l g z (ℕ_discrete p i))
        where
          by : (p : ℕ) → p < i + 1 → goal p ≡ true → 0 < f p → Dec (p ≡ i) → y + 1 ≤ f p
          by p l g z (yes k) = let w : f p ≡ suc y = rw k e in omega arith
          by p l g z (no k) = absurd (omega (arith, h p (omega arith) g))
      at (suc y) e (reached_at {d} q b t u h) = by (dec_lt d y)
        where
          lowest : (m : ℕ) → m ≤ d → m ≤ y → (p : ℕ) → p < i + 1 → goal p ≡ true → 0 < f p → Dec (p ≡ i) → m + 1 ≤ f p
          lowest m a c p l g z (yes k) = let w : f p ≡ suc y = rw k e in omega arith
          lowest m a c p l g z (no k) = omega (arith, h p (omega arith) g z)

          by : Dec (d < y) → LeastDistance goal f (i + 1) (Some (min d y))
          by (yes k) =
              rw (min-eq_left {n = d} {m = y} (omega arith)) (reached_at q (omega arith) t u (λ p l g z. lowest d (omega arith) (omega arith) p l g z (ℕ_discrete p i)))
          by (no k) =
              rw (min-eq_right {n = y} {m = d} (omega arith)) (reached_at {d = y} i (omega arith) here (omega arith) (λ p l g z. lowest y (omega arith) (omega arith) p l g z (ℕ_discrete p i)))

  -- no goal from place i on
  pub least_rest : (i n : ℕ) {best : Option ℕ} → i ≤ n → ((p : ℕ) → i ≤ p → p < n → goal p ≡ true → ⊥) → LeastDistance goal f i best
      → LeastDistance goal f n best
  least_rest i n a o (none_reached h) = none_reached (λ p l g. by p l g (dec_lt p i))
    where
      by : (p : ℕ) → p < n → goal p ≡ true → Dec (p < i) → f p ≡ 0
      by p l g (yes k) = h p k g
      by p l g (no k) = absurd (o p (omega arith) l g)
  least_rest i n a o (reached_at {d} q b t u h) = reached_at q (omega arith) t u (λ p l g z. by p l g z (dec_lt p i))
    where
      by : (p : ℕ) → p < n → goal p ≡ true → 0 < f p → Dec (p < i) → d + 1 ≤ f p
      by p l g z (yes k) = h p k g z
      by p l g z (no k) = absurd (o p (omega arith) l g)
