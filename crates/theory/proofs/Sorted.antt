-- Laws of sorted lists, and the members of selected, joined and counted lists.
use Prim.Native.Nat.{ℕ, zero, suc, ◌+◌, ◌≤◌, ◌<◌}
use native.Mathlib.Omega.{arith}
use native.Mathlib.Decide.{dec_le}
use native.Mathlib.Nat.{le_of_suc-le-suc}
use mathlib.Core.Path.{◌≡◌, refl, sym, ap, ◌∙◌, subst}
use mathlib.Core.Bool.{Bool, true, false, cond}
use mathlib.Core.Logic.{◌↔◌, ◌⊎◌, inl, inr, ⊎_elim}
use mathlib.Core.List.Memᴰ
use mathlib.Core.List.{List, [], ◌∷◌, ◌++◌, map, Memᴰ}
use lib.ListN.{length, get_or}
use Rattle.theory.specs.Lists.{keep, flat, from, lists}
use Rattle.theory.specs.Enumeration.{Sorted, none, more}
use Rattle.theory.proofs.Lists.{map_law}

-- ---- members

module _ {A : Type 0} (p : A → Bool) where
  keep_in : {x : A} (l : List A) → Memᴰ x (keep p l) → Memᴰ x l × (p x ≡ true)
  keep_in [] m = absurd (Memᴰ.not-nil m)
  keep_in {x} (y ∷ l) m = by (p y) refl m (keep_in l)
    where
      first : (x ≡ y) ⊎ Memᴰ x (keep p l) → p y ≡ true → (Memᴰ x (keep p l) → Memᴰ x l × (p x ≡ true))
          → Memᴰ x (y ∷ l) × (p x ≡ true)
      first (inl e) q ih = (Memᴰ.head e, ap p e ∙ q)
      first (inr n) q ih = let (k, t) = ih n in (Memᴰ.tail k, t)

      by : (b : Bool) → p y ≡ b → Memᴰ x (cond b (y ∷ keep p l) (keep p l)) → (Memᴰ x (keep p l) → Memᴰ x l × (p x ≡ true))
          → Memᴰ x (y ∷ l) × (p x ≡ true)
      by true e m ih = first (Memᴰ.cases_cons m) e ih
      by false e m ih = let (k, t) = ih m in (Memᴰ.tail k, t)

  in_keep : {x : A} {l : List A} → Memᴰ x l → p x ≡ true → Memᴰ x (keep p l)
  in_keep {x} (Memᴰ.head {x = y} {xs = l} e) t = rw (sym (ap p e) ∙ t) (Memᴰ.head e)
  in_keep {x} (Memᴰ.tail {x = y} {xs = l} m) t = by (p y) (in_keep m t)
    where
      by : (b : Bool) → Memᴰ x (keep p l) → Memᴰ x (cond b (y ∷ keep p l) (keep p l))
      by true n = Memᴰ.tail n
      by false n = n

  pub keep_law : (x : A) (l : List A) → Memᴰ x (keep p l) ↔ (Memᴰ x l × (p x ≡ true))
  keep_law x l = (keep_in l, λ (m, t). in_keep m t)

  pub keep-append : (a b : List A) → keep p (a ++ b) ≡ keep p a ++ keep p b
  keep-append [] b = refl
  keep-append (x ∷ a) b = ap (λ (l : List A). cond (p x) (x ∷ l) l) (keep-append a b) ∙ cond-append (p x) (keep p a)
    where
      cond-append : (t : Bool) (l : List A) → cond t (x ∷ (l ++ keep p b)) (l ++ keep p b) ≡ cond t (x ∷ l) l ++ keep p b
      cond-append true l = refl
      cond-append false l = refl

module _ {A : Type 0} where
  flat_in : {x : A} (ls : List (List A)) → Memᴰ x (flat ls) → (l : List A) × Memᴰ l ls × Memᴰ x l
  flat_in [] m = absurd (Memᴰ.not-nil m)
  flat_in {x} (l ∷ ls) m =
      ⊎_elim (λ n. (l, Memᴰ.head refl, n)) (λ n. let (k, a, b) = flat_in ls n in (k, Memᴰ.tail a, b)) (Memᴰ.append_cases l m)

  in_flat : {x : A} {l : List A} {ls : List (List A)} → Memᴰ l ls → Memᴰ x l → Memᴰ x (flat ls)
  in_flat {x} (Memᴰ.head {xs = ls} e) m = Memᴰ.append_left (flat ls) (subst (λ l. Memᴰ x l) e m)
  in_flat (Memᴰ.tail {x = k} n) m = Memᴰ.append_right k (in_flat n m)

  pub flat_law : (x : A) (ls : List (List A)) → Memᴰ x (flat ls) ↔ ((l : List A) × Memᴰ l ls × Memᴰ x l)
  flat_law x ls = (flat_in ls, λ (l, n, m). in_flat n m)

  -- members and indices
  pub at_in : (d : A) (l : List A) (i : ℕ) → i < length l → Memᴰ (get_or l i d) l
  at_in d [] i h = absurd (omega arith)
  at_in d (x ∷ l) zero h = Memᴰ.head refl
  at_in d (x ∷ l) (suc i) h = Memᴰ.tail (at_in d l i (le_of_suc-le-suc h))

  pub in_at : (d : A) {x : A} {l : List A} → Memᴰ x l → (i : ℕ) × (i < length l) × (get_or l i d ≡ x)
  in_at d (Memᴰ.head e) = (0, omega arith, sym e)
  in_at d (Memᴰ.tail m) = let (i, h, e) = in_at d m in (suc i, omega arith, e)

pub from_law : (k c x : ℕ) → Memᴰ x (from k c) ↔ ((k ≤ x) × (x < k + c))
from_law k c x = (out k c, λ (h, l). back k c h l)
  where
    out : (k c : ℕ) → Memᴰ x (from k c) → (k ≤ x) × (x < k + c)
    out k zero m = absurd (Memᴰ.not-nil m)
    out k (suc c) m =
        ⊎_elim (λ e. (omega arith, omega arith)) (λ n. let (h, l) = out (suc k) c n in (omega arith, omega arith)) (Memᴰ.cases_cons m)

    back : (k c : ℕ) → k ≤ x → x < k + c → Memᴰ x (from k c)
    back k zero h l = absurd (omega arith)
    back k (suc c) h l = by (dec_le (suc k) x) (back (suc k) c)
      where
        by : Dec (suc k ≤ x) → (suc k ≤ x → x < suc k + c → Memᴰ x (from (suc k) c)) → Memᴰ x (k ∷ from (suc k) c)
        by (yes q) ih = Memᴰ.tail (ih q (omega arith))
        by (no q) ih = let e : x ≡ k = omega (arith, q) in Memᴰ.head e

-- the lists of n elements of xs
pub lists-length : (n : ℕ) (xs l : List ℕ) → Memᴰ l (lists n xs) → length l ≡ n
lists-length zero xs l m = ⊎_elim (λ (e : l ≡ []). ap length e) (λ n. absurd (Memᴰ.not-nil n)) (Memᴰ.cases_cons m)
lists-length (suc n) xs l m =
    let (k, a, b) = (flat_law l (map (λ x. map (λ r. x ∷ r) (lists n xs)) xs)).0 m in
    let (x, c, d) = (map_law (λ x. map (λ r. x ∷ r) (lists n xs)) xs k).0 a in
    let (r, u, v) = (map_law (λ r. x ∷ r) (lists n xs) l).0 (subst (λ k. Memᴰ l k) d b) in
    ap length v ∙ ap suc (lists-length n xs r u)

pub in_lists : (xs l : List ℕ) → ((x : ℕ) → Memᴰ x l → Memᴰ x xs) → Memᴰ l (lists (length l) xs)
in_lists xs [] h = Memᴰ.head refl
in_lists xs (a ∷ l) h =
    let rest = lists (length l) xs in
    (flat_law (a ∷ l) (map (λ x. map (λ r. x ∷ r) rest) xs)).1 (
      map (λ r. a ∷ r) rest,
      (map_law (λ x. map (λ r. x ∷ r) rest) xs (map (λ r. a ∷ r) rest)).1 (a, h a (Memᴰ.head refl), refl),
      (map_law (λ r. a ∷ r) rest (a ∷ l)).1 (l, in_lists xs l (λ x m. h x (Memᴰ.tail m)), refl),
    )

-- ---- sorted lists

module _ {A : Type 0} {R : A → A → Type 0} where
  sorted_append : {a b : List A} → Sorted R a → Sorted R b → ((x y : A) → Memᴰ x a → Memᴰ y b → R x y) → Sorted R (a ++ b)
  sorted_append none t h = t
  sorted_append {b = b} (more {x = x} {l = l} f s) t h =
      more (λ y m. ⊎_elim (f y) (h x y (Memᴰ.head refl)) (Memᴰ.append_cases l m))
      (sorted_append s t (λ y z m n. h y z (Memᴰ.tail m) n))

  pub sorted_keep : (p : A → Bool) {l : List A} → Sorted R l → Sorted R (keep p l)
  sorted_keep p none = none
  sorted_keep p (more {x = x} {l = l} f s) = by (p x) (sorted_keep p s)
    where
      by : (b : Bool) → Sorted R (keep p l) → Sorted R (cond b (x ∷ keep p l) (keep p l))
      by true t = more (λ y m. f y ((keep_law p y l).0 m).0) t
      by false t = t

  -- of two places, the earlier has the lesser element
  pub sorted_at : (d : A) {l : List A} → Sorted R l → (i j : ℕ) → i < j → j < length l → R (get_or l i d) (get_or l j d)
  sorted_at d none i j h k = absurd (omega arith)
  sorted_at d (more f s) i zero h k = absurd (omega arith)
  sorted_at d (more {l = l} f s) zero (suc j) h k = f (get_or l j d) (at_in d l j (le_of_suc-le-suc k))
  sorted_at d (more f s) (suc i) (suc j) h k = sorted_at d s i j (le_of_suc-le-suc h) (le_of_suc-le-suc k)

module _ {A B : Type 0} {R : A → A → Type 0} {S : B → B → Type 0} where
  pub sorted_map : (f : A → B) {l : List A} → Sorted R l → ((x y : A) → Memᴰ x l → Memᴰ y l → R x y → S (f x) (f y)) → Sorted S (map f l)
  sorted_map f none h = none
  sorted_map f (more {x = x} {l = l} g s) h =
      more
      (λ z m. let (y, n, e) = (map_law f l z).0 m in subst (λ z. S (f x) z) (sym e) (h x y (Memᴰ.head refl) (Memᴰ.tail n) (g y n)))
      (sorted_map f s (λ y z m n. h y z (Memᴰ.tail m) (Memᴰ.tail n)))

  pub sorted_flat : (f : A → List B) {l : List A} → Sorted R l → ((x : A) → Memᴰ x l → Sorted S (f x))
      → ((x y : A) → Memᴰ x l → Memᴰ y l → R x y → (a b : B) → Memᴰ a (f x) → Memᴰ b (f y) → S a b)
      → Sorted S (flat (map f l))
  sorted_flat f none p h = none
  sorted_flat f (more {x = x} {l = l} g s) p h =
      sorted_append (p x (Memᴰ.head refl))
      (sorted_flat f s (λ y m. p y (Memᴰ.tail m)) (λ y z m n. h y z (Memᴰ.tail m) (Memᴰ.tail n)))
      (λ a b m n.
      let (k, u, v) = (flat_law b (map f l)).0 n in
      let (y, c, e) = (map_law f l k).0 u in
      h x y (Memᴰ.head refl) (Memᴰ.tail c) (g y c) a b m (subst (λ k. Memᴰ b k) e v))
