-- Laws of rounds, and of a test that holds somewhere or everywhere below a bound.
use Prim.Native.Nat.{ℕ, suc, zero, ◌+◌, ◌≤◌, ◌<◌}
use native.Mathlib.Omega.{arith}
use native.Mathlib.Numerals.{add-one}
use mathlib.Core.Path.{◌≡◌, refl, sym, ap, ◌∙◌}
use mathlib.Core.Logic.{◌↔◌}
use mathlib.Core.Bool.{Bool, true, false, ◌&&◌, ◌||◌, cond}
use lib.Dec.{eqb}
use borrow.Author.Tests.{eqb-true, eqb-false}
use Rattle.model.specs.Each.{each, some_below, all_below}

-- no round yet
pub each_none : {A : Type 0} (f : ℕ → A → A) (s : A) → s ≡ each 0 f s
unfolding each
each_none f s = refl

-- one round more
pub each_more : {A : Type 0} (f : ℕ → A → A) (n : ℕ) (s t : A) → t ≡ each n f s → f n t ≡ each (n + 1) f s
unfolding each
each_more f n s t e = rw add-one (ap (f n) e)

-- the rounds are done
pub each_done : {A : Type 0} (f : ℕ → A → A) (n k : ℕ) (s t : A) → t ≡ each k f s → k ≤ n → n ≤ k → t ≡ each n f s
each_done f n k s t e p q = let h : k ≡ n = omega arith in rw (← h) e

-- what each round keeps holds at the end
pub each_ind : {A : Type 0} (P : A → Type 0) (n : ℕ) (f : ℕ → A → A) → ((i : ℕ) (s : A) → P s → P (f i s))
    → (s : A) → P s → P (each n f s)
unfolding each
each_ind P zero f h s p = p
each_ind P (suc n) f h s p = h n (each n f s) (each_ind P n f h s p)

pub false≢true : ◌≡◌ {A = Bool} false true → ⊥
false≢true z = let q : ◌≡◌ {A = ℕ} 0 1 = ap (λ (b : Bool). cond b 1 0) z in omega arith

some_sound : (t : ℕ → Bool) (n : ℕ) → some_below n t ≡ true → (i : ℕ) × (i < n) × (t i ≡ true)
unfolding each
some_sound t zero e = absurd (false≢true e)
some_sound t (suc n) e = go (t n) refl e (some_sound t n)
  where
    go : (b : Bool) → t n ≡ b → (b || some_below n t) ≡ true
        → (some_below n t ≡ true → (i : ℕ) × (i < n) × (t i ≡ true)) → (i : ℕ) × (i < suc n) × (t i ≡ true)
    go true q e ih = (n, omega arith, q)
    go false q e ih = let r = ih e in (r.0, omega (arith, r.1), r.2)

some_complete : (t : ℕ → Bool) (n i : ℕ) → i < n → t i ≡ true → some_below n t ≡ true
unfolding each
some_complete t zero i h e = absurd (omega arith)
some_complete t (suc n) i h e = go (t n) refl (some_complete t n i)
  where
    go : (b : Bool) → t n ≡ b → (i < n → t i ≡ true → some_below n t ≡ true) → (b || some_below n t) ≡ true
    go true q ih = refl
    go false q ih = ih (lower (eqb i n) refl) e
      where
        lower : (s : Bool) → eqb i n ≡ s → i < n
        lower true r = absurd (false≢true (sym q ∙ ap t (sym (eqb-true i n r)) ∙ e))
        lower false r = let d = eqb-false i n r in omega arith

pub some_law : (n : ℕ) (t : ℕ → Bool) → (some_below n t ≡ true) ↔ ((i : ℕ) × (i < n) × (t i ≡ true))
some_law n t = (some_sound t n, λ (i, h, e). some_complete t n i h e)

-- the same, as a loop goes

pub some_none : (t : ℕ → Bool) → false ≡ some_below 0 t
some_none t = each_none _ _

pub some_more : (t : ℕ → Bool) (n : ℕ) (r : Bool) → r ≡ some_below n t → (t n || r) ≡ some_below (n + 1) t
some_more t n r e = each_more (λ i s. t i || s) n false r e

-- a test that holds everywhere

all_sound : (t : ℕ → Bool) (n : ℕ) → all_below n t ≡ true → (i : ℕ) → i < n → t i ≡ true
unfolding each
all_sound t zero e i h = absurd (omega arith)
all_sound t (suc n) e i h = go (t n) refl e (eqb i n) refl (λ d. all_sound t n d i)
  where
    go : (b : Bool) → t n ≡ b → (b && all_below n t) ≡ true → (s : Bool) → eqb i n ≡ s → (all_below n t ≡ true → i < n → t i ≡ true) → t i ≡ true
    go true q e true r ih = ap t (eqb-true i n r) ∙ q
    go true q e false r ih = ih e (let d = eqb-false i n r in omega arith)
    go false q e s r ih = absurd (false≢true e)

all_complete : (t : ℕ → Bool) (n : ℕ) → ((i : ℕ) → i < n → t i ≡ true) → all_below n t ≡ true
unfolding each
all_complete t zero h = refl
all_complete t (suc n) h = rw (h n (omega arith)) (all_complete t n (λ i l. h i (omega arith)))

pub all_law : (n : ℕ) (t : ℕ → Bool) → (all_below n t ≡ true) ↔ ((i : ℕ) → i < n → t i ≡ true)
all_law n t = (all_sound t n, all_complete t n)
