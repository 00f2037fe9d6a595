-- Laws of the tests on lists: what holds of each element, of some element, and of equal lists; the members of a range and of a mapped list.
use Prim.Native.Nat.{ℕ, zero, suc, ◌≤◌, ◌<◌}
use native.Mathlib.Nat.{eq-or-lt_of_le}
use native.Mathlib.Omega.{arith}
use mathlib.Core.Path.{◌≡◌, refl, sym, ap, ap₂, subst}
use mathlib.Core.Bool.{Bool, true, false, ◌&&◌, true≢false, false≢true}
use mathlib.Core.Logic.{◌↔◌, ◌⊎◌, inl, inr}
use mathlib.Core.List.Memᴰ
use mathlib.Core.List.{List, [], ◌∷◌, map, Memᴰ, nil≢cons, cons≢nil}
use lib.ListN.{length}
use Rattle.theory.specs.Lists.{every, some, same, down, from}
use Rattle.theory.proofs.Below.{or_cases, or_left, or_right, and_intro, and_left, and_right, and↔, eqb↔}

pub from-length : (k c : ℕ) → length (from k c) ≡ c
from-length k zero = refl
from-length k (suc c) = ap suc (from-length (suc k) c)

module _ {A : Type 0} {p : A → Bool} {P : A → Type 0} (law : (x : A) → (p x ≡ true) ↔ P x) where
  every_each : (l : List A) → every p l ≡ true → (x : A) → Memᴰ x l → P x
  every_each [] e x m = absurd (Memᴰ.not-nil m)
  every_each (y ∷ l) e x m = by (every_each l (and_right (p y) (every p l) e) x) (Memᴰ.cases_cons m)
    where
      by : (Memᴰ x l → P x) → (x ≡ y) ⊎ Memᴰ x l → P x
      by ih (inl q) = subst (λ z. P z) (sym q) ((law y).0 (and_left (p y) (every p l) e))
      by ih (inr n) = ih n

  each_every : (l : List A) → ((x : A) → Memᴰ x l → P x) → every p l ≡ true
  each_every [] h = refl
  each_every (y ∷ l) h =
      and_intro (p y) (every p l) ((law y).1 (h y (Memᴰ.head refl))) (each_every l (λ x m. h x (Memᴰ.tail m)))

  pub every_law : (l : List A) → (every p l ≡ true) ↔ ((x : A) → Memᴰ x l → P x)
  every_law l = (every_each l, each_every l)

  some_one : (l : List A) → some p l ≡ true → (x : A) × Memᴰ x l × P x
  some_one [] e = absurd (false≢true e)
  some_one (y ∷ l) e = by (some_one l) (or_cases (p y) (some p l) e)
    where
      by : (some p l ≡ true → (x : A) × Memᴰ x l × P x) → (p y ≡ true) ⊎ (some p l ≡ true) → (x : A) × Memᴰ x (y ∷ l) × P x
      by ih (inl t) = (y, Memᴰ.head refl, (law y).0 t)
      by ih (inr t) = let (x, m, h) = ih t in (x, Memᴰ.tail m, h)

  one_some : (l : List A) (x : A) → Memᴰ x l → P x → some p l ≡ true
  one_some [] x m h = absurd (Memᴰ.not-nil m)
  one_some (y ∷ l) x m h = by (λ n. one_some l x n h) (Memᴰ.cases_cons m)
    where
      by : (Memᴰ x l → some p l ≡ true) → (x ≡ y) ⊎ Memᴰ x l → some p (y ∷ l) ≡ true
      by ih (inl q) = or_left (p y) (some p l) ((law y).1 (subst (λ z. P z) q h))
      by ih (inr n) = or_right (p y) (some p l) (ih n)

  pub some_law : (l : List A) → (some p l ≡ true) ↔ ((x : A) × Memᴰ x l × P x)
  some_law l = (some_one l, λ (x, m, h). one_some l x m h)

-- where not every element passes, some element fails
pub not_every : {A : Type 0} (p : A → Bool) (l : List A) → every p l ≡ false → (x : A) × Memᴰ x l × (p x ≡ false)
not_every p [] e = absurd (true≢false e)
not_every p (y ∷ l) e = by (not_every p l) (p y) refl e
  where
    by : (every p l ≡ false → (x : _) × Memᴰ x l × (p x ≡ false)) → (b : Bool) → p y ≡ b → (b && every p l) ≡ false
        → (x : _) × Memᴰ x (y ∷ l) × (p x ≡ false)
    by ih true q t = let (x, m, h) = ih t in (x, Memᴰ.tail m, h)
    by ih false q t = (y, Memᴰ.head refl, q)

pub same_law : (a b : List ℕ) → (same a b ≡ true) ↔ (a ≡ b)
unfolding same
same_law [] [] = (λ e. refl, λ e. refl)
same_law [] (y ∷ b) = (λ e. absurd (false≢true e), λ e. absurd (nil≢cons e))
same_law (x ∷ a) [] = (λ e. absurd (false≢true e), λ e. absurd (cons≢nil e))
same_law (x ∷ a) (y ∷ b) =
    let t = and↔ (eqb↔ x y) (same_law a b) in
    (λ e. let (h, k) = t.0 e in ap₂ ◌∷◌ h k, λ e. t.1 (cc, cc))

-- the numbers of a descending range
down_in : (c t : ℕ) → Memᴰ t (down c) → (1 ≤ t) × (t ≤ c)
down_in zero t m = absurd (Memᴰ.not-nil m)
down_in (suc c) t m = by (down_in c t) (Memᴰ.cases_cons m)
  where
    by : (Memᴰ t (down c) → (1 ≤ t) × (t ≤ c)) → (t ≡ suc c) ⊎ Memᴰ t (down c) → (1 ≤ t) × (t ≤ suc c)
    by ih (inl e) = (omega arith, omega arith)
    by ih (inr n) = let (h, k) = ih n in (h, omega arith)

in_down : (c t : ℕ) → 1 ≤ t → t ≤ c → Memᴰ t (down c)
in_down zero t h k = absurd (omega arith)
in_down (suc c) t h k = by (in_down c t h) (eq-or-lt_of_le k)
  where
    by : (t ≤ c → Memᴰ t (down c)) → (t ≡ suc c) ⊎ (t < suc c) → Memᴰ t (suc c ∷ down c)
    by ih (inl e) = Memᴰ.head e
    by ih (inr l) = Memᴰ.tail (ih (omega arith))

pub down_law : (c t : ℕ) → Memᴰ t (down c) ↔ ((1 ≤ t) × (t ≤ c))
down_law c t = (down_in c t, λ (h, k). in_down c t h k)

-- the members of a mapped list
map_in : {A B : Type 0} (f : A → B) (l : List A) (y : B) → Memᴰ y (map f l) → (x : A) × Memᴰ x l × (y ≡ f x)
map_in f [] y m = absurd (Memᴰ.not-nil m)
map_in f (x ∷ l) y m = by (map_in f l y) (Memᴰ.cases_cons m)
  where
    by : (Memᴰ y (map f l) → (x : _) × Memᴰ x l × (y ≡ f x)) → (y ≡ f x) ⊎ Memᴰ y (map f l)
        → (z : _) × Memᴰ z (x ∷ l) × (y ≡ f z)
    by ih (inl e) = (x, Memᴰ.head refl, e)
    by ih (inr n) = let (z, k, e) = ih n in (z, Memᴰ.tail k, e)

in_map : {A B : Type 0} (f : A → B) {x : A} {l : List A} → Memᴰ x l → Memᴰ (f x) (map f l)
in_map f (Memᴰ.head e) = Memᴰ.head (ap f e)
in_map f (Memᴰ.tail m) = Memᴰ.tail (in_map f m)

pub map_law : {A B : Type 0} (f : A → B) (l : List A) (y : B) → Memᴰ y (map f l) ↔ ((x : A) × Memᴰ x l × (y ≡ f x))
map_law f l y = (map_in f l y, λ (x, m, e). Memᴰ.cast e (in_map f m))
