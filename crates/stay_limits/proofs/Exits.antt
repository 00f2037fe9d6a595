-- The greatest high end among the edges that leave a location: how large it is, what it depends on, and that it is the paper's.
use Prim.Native.Nat.{ℕ, zero, suc, ◌+◌, ◌≤◌, ◌<◌, max}
use native.Mathlib.Decide.{dec_lt}
use native.Mathlib.Omega.{arith}
use mathlib.Core.Path.{◌≡◌, refl}
use mathlib.Core.Bool.{Bool, true, false, cond}
use lib.Dec.{eqb}
use borrow.Author.Tests.{eqb-true, eqb-false}
use Rattle.stay_limits.specs.Stay.{last_exit}

-- ---- the greater of two

pub later : (g h : ℕ) → g ≤ h → max g (h + 1) ≡ h + 1
later g h p = omega arith

pub sooner : (g h : ℕ) → h < g → max g (h + 1) ≡ g
sooner g h p = omega arith

module _ (source high : ℕ → ℕ) (l : ℕ) where
  -- ---- at most one more than the greatest

  pub exit_most : (c k : ℕ) → ((e : ℕ) → e < k → high e ≤ c) → last_exit source high l k ≤ c + 1
  unfolding last_exit
  exit_most c zero h = omega arith
  exit_most c (suc k) h = by (eqb (source k) l) (exit_most c k (λ e p. h e (omega arith)))
    where
      by : (t : Bool) → last_exit source high l k ≤ c + 1 → cond t (max (last_exit source high l k) (high k + 1)) (last_exit source high l k) ≤ c + 1
      by true ih = omega (arith, h k (omega arith))
      by false ih = ih

-- ---- the edges alone decide

pub exit_same : (source high source' high' : ℕ → ℕ) (l k : ℕ) → ((e : ℕ) → e < k → source e ≡ source' e) → ((e : ℕ) → e < k → high e ≡ high' e)
    → last_exit source high l k ≡ last_exit source' high' l k
unfolding last_exit
exit_same source high source' high' l zero f g = refl
exit_same source high source' high' l (suc k) f g =
    simp (f k (omega arith), g k (omega arith), exit_same source high source' high' l k (λ e p. f e (omega arith)) (λ e p. g e (omega arith)))

-- ---- it is the greatest

module _ (source high : ℕ → ℕ) (l : ℕ) where
  -- no edge leaves, or one that leaves has the greatest high end
  pub data LastExit (k : ℕ) : ℕ → Type 0 where
    none : ((e : ℕ) → e < k → source e ≡ l → ⊥) → LastExit k 0
    greatest : (e : ℕ) → e < k → source e ≡ l → ((d : ℕ) → d < k → source d ≡ l → high d ≤ high e) → LastExit k (high e + 1)

  -- what holds of the first k edges and of the next
  further : (P : ℕ → Type 0) (k : ℕ) → ((d : ℕ) → d < k → P d) → P k → (d : ℕ) → d < suc k → P d
  further P k f p d h = by (eqb d k) refl
    where
      by : (t : Bool) → eqb d k ≡ t → P d
      by true q = rw (eqb-true d k q) p
      by false q = f d (omega (arith, eqb-false d k q))

  pub exit_last : (k : ℕ) → LastExit k (last_exit source high l k)
  unfolding last_exit
  exit_last zero = none (λ e p. absurd (omega arith))
  exit_last (suc k) = by (eqb (source k) l) refl (exit_last k)
    where
      stays : (g : ℕ) → (source k ≡ l → ⊥) → LastExit k g → LastExit (suc k) g
      stays _ ne (none f) = none (further (λ d. source d ≡ l → ⊥) k f ne)
      stays _ ne (greatest e p s f) = greatest e (omega arith) s (further (λ d. source d ≡ l → high d ≤ high e) k f (λ q. absurd (ne q)))

      more : (g : ℕ) → source k ≡ l → LastExit k g → LastExit (suc k) (max g (high k + 1))
      more _ s (none f) =
          rw (later 0 (high k) (omega arith))
          (greatest k (omega arith) s (further (λ d. source d ≡ l → high d ≤ high k) k (λ d p q. absurd (f d p q)) (λ q. omega arith)))
      more _ s (greatest e p t f) = pick (dec_lt (high e) (high k))
        where
          pick : Dec (high e < high k) → LastExit (suc k) (max (high e + 1) (high k + 1))
          pick (yes h) =
              rw (later (high e + 1) (high k) (omega arith))
              (greatest k (omega arith) s (further (λ d. source d ≡ l → high d ≤ high k) k (λ d p q. omega (arith, f d p q)) (λ q. omega arith)))
          pick (no h) =
              rw (sooner (high e + 1) (high k) (omega arith))
              (greatest e (omega arith) t (further (λ d. source d ≡ l → high d ≤ high e) k f (λ q. omega arith)))

      by : (t : Bool) → eqb (source k) l ≡ t → LastExit k (last_exit source high l k)
          → LastExit (suc k) (cond t (max (last_exit source high l k) (high k + 1)) (last_exit source high l k))
      by true q ih = more _ (eqb-true _ _ q) ih
      by false q ih = stays _ (eqb-false _ _ q) ih
