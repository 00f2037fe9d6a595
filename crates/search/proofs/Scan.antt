-- Laws of the least state of a set: one state; part after part; a loop over places.
use mathlib.Core.Path.{◌≡◌, refl, sym, subst, ◌∙◌}
use mathlib.Core.Logic.{◌⊎◌, inl, inr, ⊎_elim}
use mathlib.Core.List.{List}
use Prim.Native.Nat.{ℕ, ◌+◌, ◌≤◌, ◌<◌}
use native.Mathlib.Omega.{arith}
use native.Mathlib.Decide.{ℕ_discrete}
use Rattle.search.specs.Queue.{Between}
use Rattle.search.specs.Least.{LeastOf, At}

-- nothing is lower
pub least_kept : {T : ℕ → Type 0} {best : ℕ} → ((q : ℕ) → T q → best ≤ q) → LeastOf T best best
least_kept h = record { less = omega arith; least = h; some = inl refl }

-- the same set in another form
pub least_same : {T U : ℕ → Type 0} {a b : ℕ} → LeastOf T a b → ((q : ℕ) → T q → U q) → ((q : ℕ) → U q → T q) → LeastOf U a b
least_same L g h = record { less = L.less; least = λ q u. L.least q (h q u); some = ⊎_elim inl (λ t. inr (g _ t)) L.some }

-- in a loop: what is lower stands in `Rest`
pub record Partly (T Rest : ℕ → Type 0) (best r : ℕ) : Type 0 where
  pub less : r ≤ best
  pub some : (r ≡ best) ⊎ T r
  pub left : (q : ℕ) → T q → (r ≤ q) ⊎ Rest q

pub partly_first : {T : ℕ → Type 0} {best : ℕ} → Partly T T best best
partly_first = record { less = omega arith; some = inl refl; left = λ q t. inr t }

module _ {T Rest : ℕ → Type 0} {a b : ℕ} (A : Partly T Rest a b) where
  -- a turn: the least of a part U, and `Rest'` is left
  pub partly_turn : {U Rest' : ℕ → Type 0} {c : ℕ} → LeastOf U b c → ((q : ℕ) → U q → T q) → ((q : ℕ) → Rest q → U q ⊎ Rest' q)
      → Partly T Rest' a c
  partly_turn {c = c} L part next = record {
    less = omega (arith, A.less, L.less);
    some = ⊎_elim (λ e. ⊎_elim (λ d. inl (e ∙ d)) (λ t. inr (subst T (sym e) t)) A.some) (λ u. inr (part c u)) L.some;
    left = λ q t. ⊎_elim (λ h. inl (omega (arith, L.less))) (λ r. ⊎_elim (λ u. inl (L.least q u)) inr (next q r)) (A.left q t);
  }

  -- nothing is left
  pub partly_end : ((q : ℕ) → Rest q → ⊥) → LeastOf T a b
  partly_end none = record {
    less = A.less;
    least = λ q t. ⊎_elim (λ h. h) (λ r. absurd (none q r)) (A.left q t);
    some = A.some;
  }

-- a loop over places
module _ {level : List ℕ} {y lo i hi : ℕ} {P : ℕ → ℕ → Type 0} {a b : ℕ} (A : Partly (At level y (Between lo hi P)) (At level y (Between i hi P)) a b) where
  pub between_turn : lo ≤ i → i < hi → {c : ℕ} → LeastOf (At level y (P i)) b c
      → Partly (At level y (Between lo hi P)) (At level y (Between (i + 1) hi P)) a c
  between_turn l h L =
      partly_turn A L (λ q u. record { has = u.has; is = record { place = i; after = l; before = h; is = u.is } }) (λ q r. next q r (ℕ_discrete r.is.place i))
    where
      next : (q : ℕ) (r : At level y (Between i hi P) q) → Dec (r.is.place ≡ i) → At level y (P i) q ⊎ At level y (Between (i + 1) hi P) q
      next q r (yes e) = inl (record { has = r.has; is = subst (λ (j : ℕ). P j q) e r.is.is })
      next q r (no e) =
          inr (record { has = r.has; is = record { place = r.is.place; after = omega (arith, r.is.after, e); before = r.is.before; is = r.is.is } })

  pub between_end : hi ≤ i → LeastOf (At level y (Between lo hi P)) a b
  between_end l = partly_end A (λ q r. omega (arith, r.is.after, r.is.before))

-- the same places
pub between_same : {level : List ℕ} {y lo hi lo' hi' : ℕ} {P : ℕ → ℕ → Type 0} {a b : ℕ} → LeastOf (At level y (Between lo hi P)) a b
    → lo ≡ lo' → hi ≡ hi' → LeastOf (At level y (Between lo' hi' P)) a b
between_same A d e = rw (d, e) at A
