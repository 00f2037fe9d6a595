-- Laws of tests below a bound. The last part reads a test made of tests: for a nest of `&&`, `||`, `imp`, `any` and `all`, one term.
use mathlib.Core.Path.{◌≡◌, refl, sym, ap, ap₂, subst, ◌∙◌}
use mathlib.Core.Bool.{Bool, true, false, not, cond, ◌&&◌, ◌||◌, true≢false, false≢true, or-false, or_assoc, and-true, and_assoc}
use mathlib.Core.Logic.{◌↔◌, ◌⊎◌, inl, inr, ⊎_elim}
use mathlib.Core.List.{List, ◌∷◌}
use Prim.Native.Nat.{ℕ, zero, suc, ◌+◌, ◌≤◌, ◌<◌, max, zero-le, suc-le-suc}
use native.Mathlib.Omega.{arith}
use native.Mathlib.Nat.{le_antisymm}
use native.Mathlib.Decide.{ℕ_discrete, dec_le, dec_lt}
use lib.ListN.{length, get_or, set}
use lib.Seq.{ext_get_or, get_or-set_same, get_or-set_other}
use lib.Dec.{leb, ltb, eqb}
use borrow.Author.Tests.{not-true, leb-true, le-leb, ltb-true, lt-ltb, eqb-true, eq-eqb}
use Rattle.theory.specs.Below.{imp, bit, any, all, count, Counted, least, top, tab}

-- ---- Booleans

pub or_cases : (a b : Bool) → (a || b) ≡ true → (a ≡ true) ⊎ (b ≡ true)
or_cases true b e = inl refl
or_cases false b e = inr e

pub or_left : (a b : Bool) → a ≡ true → (a || b) ≡ true
or_left true b e = refl
or_left false b e = absurd (false≢true e)

pub or_right : (a b : Bool) → b ≡ true → (a || b) ≡ true
or_right true b e = refl
or_right false b e = e

pub and_intro : (a b : Bool) → a ≡ true → b ≡ true → (a && b) ≡ true
and_intro true b e f = f
and_intro false b e f = e

pub and_left : (a b : Bool) → (a && b) ≡ true → a ≡ true
and_left true b e = refl
and_left false b e = e

pub and_right : (a b : Bool) → (a && b) ≡ true → b ≡ true
and_right true b e = e
and_right false b e = absurd (false≢true e)

pub either : (b : Bool) → (b ≡ true) ⊎ (b ≡ false)
either true = inl refl
either false = inr refl

pub true_unless_false : (b : Bool) → (b ≡ false → ⊥) → b ≡ true
true_unless_false true h = refl
true_unless_false false h = absurd (h refl)

pub false_unless_true : (b : Bool) → (b ≡ true → ⊥) → b ≡ false
false_unless_true true h = absurd (h refl)
false_unless_true false h = refl

-- tests that pass at the same places are the same
pub bool_ext : (a b : Bool) → (a ≡ true → b ≡ true) → (b ≡ true → a ≡ true) → a ≡ b
bool_ext true b f g = sym (f refl)
bool_ext false true f g = g refl
bool_ext false false f g = refl

-- what holds of both branches holds of the choice
pub cond_ind : {A : Type 0} (R : A → Type 0) (b : Bool) {x y : A} → (b ≡ true → R x) → (b ≡ false → R y) → R (cond b x y)
cond_ind R true f g = f refl
cond_ind R false f g = g refl

imp_intro : (a b : Bool) → (a ≡ true → b ≡ true) → imp a b ≡ true
imp_intro true b h = h refl
imp_intro false b h = refl

imp_elim : (a b : Bool) → imp a b ≡ true → a ≡ true → b ≡ true
imp_elim true b h e = h
imp_elim false b h e = absurd (false≢true e)

-- ---- `any`

pub any_intro : (n : ℕ) (f : ℕ → Bool) (i : ℕ) → i < n → f i ≡ true → any n f ≡ true
unfolding any
any_intro zero f i h e = absurd (omega arith)
any_intro (suc n) f zero h e = or_left (f zero) (any n (λ i. f (suc i))) e
any_intro (suc n) f (suc i) h e = or_right (f zero) (any n (λ i. f (suc i))) (any_intro n (λ i. f (suc i)) i (omega arith) e)

pub any_elim : (n : ℕ) (f : ℕ → Bool) → any n f ≡ true → (i : ℕ) × (i < n) × (f i ≡ true)
unfolding any
any_elim zero f e = absurd (false≢true e)
any_elim (suc n) f e = go (any_elim n (λ i. f (suc i))) (or_cases (f zero) (any n (λ i. f (suc i))) e)
  where
    go : (any n (λ i. f (suc i)) ≡ true → (i : ℕ) × (i < n) × (f (suc i) ≡ true))
        → (f zero ≡ true) ⊎ (any n (λ i. f (suc i)) ≡ true) → (i : ℕ) × (i < suc n) × (f i ≡ true)
    go ih (inl e) = (zero, omega arith, e)
    go ih (inr e) = let t = ih e in (suc t.0, omega arith, t.2)

-- the form that most tests have: some place where two tests pass
pub any-and_intro : (n : ℕ) (f g : ℕ → Bool) (i : ℕ) → i < n → f i ≡ true → g i ≡ true → any n (λ i. f i && g i) ≡ true
any-and_intro n f g i h a b = any_intro n (λ i. f i && g i) i h (and_intro (f i) (g i) a b)

pub any-and_elim : (n : ℕ) (f g : ℕ → Bool) → any n (λ i. f i && g i) ≡ true → (i : ℕ) × (i < n) × (f i ≡ true) × (g i ≡ true)
any-and_elim n f g e = let (i, h, t) = any_elim n (λ i. f i && g i) e in (i, h, and_left (f i) (g i) t, and_right (f i) (g i) t)

-- ---- `all`

pub all_intro : (n : ℕ) (f : ℕ → Bool) → ((i : ℕ) → i < n → f i ≡ true) → all n f ≡ true
unfolding all
all_intro zero f h = refl
all_intro (suc n) f h =
    and_intro (f zero) (all n (λ i. f (suc i))) (h zero (omega arith))
    (all_intro n (λ i. f (suc i)) (λ i l. h (suc i) (omega arith)))

pub all_elim : (n : ℕ) (f : ℕ → Bool) → all n f ≡ true → (i : ℕ) → i < n → f i ≡ true
unfolding all
all_elim zero f e i h = absurd (omega arith)
all_elim (suc n) f e zero h = and_left (f zero) (all n (λ i. f (suc i))) e
all_elim (suc n) f e (suc i) h = all_elim n (λ i. f (suc i)) (and_right (f zero) (all n (λ i. f (suc i))) e) i (omega arith)

-- ---- `count`

pub bit-le : (b : Bool) → bit b ≤ 1
bit-le true = omega arith
bit-le false = omega arith

-- a smaller set has a smaller bit
bit_mono : (a b : Bool) → (a ≡ true → b ≡ true) → bit a ≤ bit b
bit_mono true true h = omega arith
bit_mono true false h = absurd (false≢true (h refl))
bit_mono false b h = zero-le

pub count-le : (n : ℕ) (f : ℕ → Bool) → count n f ≤ n
unfolding count
count-le zero f = zero-le
count-le (suc n) f = omega (arith, bit-le (f zero), count-le n (λ i. f (suc i)))

pub count_mono : (n : ℕ) (f g : ℕ → Bool) → ((i : ℕ) → i < n → f i ≡ true → g i ≡ true) → count n f ≤ count n g
unfolding count
count_mono zero f g h = zero-le
count_mono (suc n) f g h =
    omega (arith, bit_mono (f zero) (g zero) (h zero (omega arith)), count_mono n (λ i. f (suc i)) (λ i. g (suc i)) (λ i l. h (suc i) (omega arith)))

-- one place more: a larger count
pub count_strict : (n : ℕ) (f g : ℕ → Bool) → ((i : ℕ) → i < n → f i ≡ true → g i ≡ true)
    → (j : ℕ) → j < n → f j ≡ false → g j ≡ true → count n f < count n g
unfolding count
count_strict zero f g h j l a b = absurd (omega arith)
count_strict (suc n) f g h zero l a b =
    rw (a, b) (omega (arith, count_mono n (λ i. f (suc i)) (λ i. g (suc i)) (λ i l. h (suc i) (omega arith))))
count_strict (suc n) f g h (suc j) l a b =
    omega (
      arith,
      bit_mono (f zero) (g zero) (h zero (omega arith)),
      count_strict n (λ i. f (suc i)) (λ i. g (suc i)) (λ i l. h (suc i) (omega arith)) j (omega arith) a b,
    )

-- a full count: every place
pub count_full : (n : ℕ) (f : ℕ → Bool) → n ≤ count n f → (i : ℕ) → i < n → f i ≡ true
count_full n f h i l = true_unless_false (f i) λ e.
    let m = count_strict n f (λ _. true) (λ _ _ _. refl) i l e refl in
    omega (arith, count-le n (λ _. true))

-- A growing set either stays as it is or has a larger count: the pigeonhole, without a list.
pub count_grow : (n : ℕ) (f g : ℕ → Bool) → ((i : ℕ) → i < n → f i ≡ true → g i ≡ true)
    → ((i : ℕ) → i < n → g i ≡ true → f i ≡ true) ⊎ (count n f < count n g)
count_grow n f g h = go (either (any n (λ i. g i && not (f i))))
  where
    go : (any n (λ i. g i && not (f i)) ≡ true) ⊎ (any n (λ i. g i && not (f i)) ≡ false)
        → ((i : ℕ) → i < n → g i ≡ true → f i ≡ true) ⊎ (count n f < count n g)
    go (inl e) = let (i, l, a, b) = any-and_elim n g (λ i. not (f i)) e in inr (count_strict n f g h i l (not-true (f i) b) a)
    go (inr e) = inl λ i l a. true_unless_false (f i) λ b. true≢false (sym (any-and_intro n g (λ i. not (f i)) i l a (ap not b)) ∙ e)

-- ---- `top`

pub top_ge : (n : ℕ) (f : ℕ → ℕ) (i : ℕ) → i < n → f i ≤ top n f
unfolding top
top_ge zero f i h = absurd (omega arith)
top_ge (suc n) f zero h = omega arith
top_ge (suc n) f (suc i) h = omega (arith, top_ge n (λ i. f (suc i)) i (omega arith))

pub top_ext : (n : ℕ) (f g : ℕ → ℕ) → ((i : ℕ) → i < n → f i ≡ g i) → top n f ≡ top n g
unfolding top
top_ext zero f g h = refl
top_ext (suc n) f g h = ap₂ max (h 0 (omega arith)) (top_ext n (λ i. f (suc i)) (λ i. g (suc i)) (λ i l. h (suc i) (omega arith)))

-- the largest value is that of some place, or 0
pub top_at : (n : ℕ) (f : ℕ → ℕ) → (top n f ≡ zero) ⊎ ((i : ℕ) × (i < n) × (top n f ≡ f i))
unfolding top
top_at zero f = inl refl
top_at (suc n) f = go (dec_le (top n (λ i. f (suc i))) (f zero)) (top_at n (λ i. f (suc i)))
  where
    go : Dec (top n (λ i. f (suc i)) ≤ f zero) → (top n (λ i. f (suc i)) ≡ zero) ⊎ ((i : ℕ) × (i < n) × (top n (λ i. f (suc i)) ≡ f (suc i)))
        → (top (suc n) f ≡ zero) ⊎ ((i : ℕ) × (i < suc n) × (top (suc n) f ≡ f i))
    go (yes l) t = inr (zero, omega arith, omega arith)
    go (no l) (inl e) = absurd (l (omega arith))
    go (no l) (inr t) = inr (suc t.0, omega arith, omega arith)

-- ---- `least`

pub least-le : (n : ℕ) (f : ℕ → Bool) → least n f ≤ n
unfolding least
least-le zero f = zero-le
least-le (suc n) f = cond_ind (λ r. r ≤ suc n) (f zero) (λ _. zero-le) (λ _. suc-le-suc (least-le n (λ i. f (suc i))))

-- it is at most any place
pub least_min : (n : ℕ) (f : ℕ → Bool) (i : ℕ) → i < n → f i ≡ true → least n f ≤ i
unfolding least
least_min zero f i h e = absurd (omega arith)
least_min (suc n) f zero h e = rw e zero-le
least_min (suc n) f (suc i) h e =
    cond_ind (λ r. r ≤ suc i) (f zero) (λ _. zero-le) (λ _. suc-le-suc (least_min n (λ i. f (suc i)) i (omega arith) e))

-- below the bound it is a place
pub least_at : (n : ℕ) (f : ℕ → Bool) → least n f < n → f (least n f) ≡ true
unfolding least
least_at zero f h = absurd (omega arith)
least_at (suc n) f h = go (least_at n (λ i. f (suc i))) (either (f zero))
  where
    go : (least n (λ i. f (suc i)) < n → f (suc (least n (λ i. f (suc i)))) ≡ true)
        → (f zero ≡ true) ⊎ (f zero ≡ false) → f (least (suc n) f) ≡ true
    go ih (inl e) = rw (e, e)
    go ih (inr e) = rw e (ih (omega (arith, rw e at h)))

-- where there is a place, the least is one
pub least_found : (n : ℕ) (f : ℕ → Bool) (i : ℕ) → i < n → f i ≡ true → (least n f < n) × (f (least n f) ≡ true)
least_found n f i l e = let b : least n f < n = omega (arith, least_min n f i l e) in (b, least_at n f b)

-- the same where a place passes two tests
pub least-and : (n : ℕ) (f g : ℕ → Bool) → any n (λ i. f i && g i) ≡ true
    → (least n (λ i. f i && g i) < n) × (f (least n (λ i. f i && g i)) ≡ true) × (g (least n (λ i. f i && g i)) ≡ true)
least-and n f g e =
    let t = any_elim n (λ i. f i && g i) e in
    let i = least n (λ i. f i && g i) in
    let (l, b) = least_found n (λ i. f i && g i) t.0 t.1 t.2 in
    (l, and_left (f i) (g i) b, and_right (f i) (g i) b)

-- ---- `tab`

pub tab-length : (n : ℕ) (f : ℕ → ℕ) → length (tab n f) ≡ n
unfolding tab
tab-length zero f = refl
tab-length (suc n) f = ap suc (tab-length n (λ i. f (suc i)))

pub tab_at : (n : ℕ) (f : ℕ → ℕ) (i : ℕ) → i < n → get_or (tab n f) i 0 ≡ f i
unfolding tab
tab_at zero f i h = absurd (omega arith)
tab_at (suc n) f zero h = refl
tab_at (suc n) f (suc i) h = tab_at n (λ k. f (suc k)) i (omega arith)

-- functions that agree below n have the same table
pub tab_same : (n : ℕ) (f g : ℕ → ℕ) → ((i : ℕ) → i < n → f i ≡ g i) → tab n f ≡ tab n g
unfolding tab
tab_same zero f g h = refl
tab_same (suc n) f g h = ap₂ ◌∷◌ (h zero (omega arith)) (tab_same n (λ i. f (suc i)) (λ i. g (suc i)) (λ i b. h (suc i) (omega arith)))

pub is_table : (l : List ℕ) (n : ℕ) (f : ℕ → ℕ) → length l ≡ n → ((k : ℕ) → k < n → get_or l k 0 ≡ f k) → l ≡ tab n f
is_table l n f e h =
    ext_get_or 0 l (tab n f) (e ∙ sym (tab-length n f))
    (λ i b. let c = rw e at b in h i c ∙ sym (tab_at n f i c))

-- one number more of a table that is stored place by place
pub stored_next : (f : ℕ → ℕ) (l : List ℕ) (p x : ℕ) → p < length l → x ≡ f p → ((k : ℕ) → k < p → get_or l k 0 ≡ f k)
    → (k : ℕ) → k < p + 1 → get_or (set l p x) k 0 ≡ f k
stored_next f l p x b e h k c = by (ℕ_discrete k p)
  where
    by : Dec (k ≡ p) → get_or (set l p x) k 0 ≡ f k
    by (yes z) = rw z (get_or-set_same l p x 0 b ∙ e)
    by (no z) = get_or-set_other l p k x 0 z ∙ h k (omega arith)

-- a function that is 0 from n on is its table
pub tab_all : (n : ℕ) (f : ℕ → ℕ) → ((i : ℕ) → n ≤ i → f i ≡ 0) → (i : ℕ) → get_or (tab n f) i 0 ≡ f i
unfolding tab
tab_all zero f h i = sym (h i zero-le)
tab_all (suc n) f h zero = refl
tab_all (suc n) f h (suc i) = tab_all n (λ i. f (suc i)) (λ j l. h (suc j) (suc-le-suc l)) i

-- ---- what a loop that counts up has to show: one place more at the end; the first place found

pub any-suc : (n : ℕ) (f : ℕ → Bool) → any (suc n) f ≡ (any n f || f n)
unfolding any
any-suc zero f = or-false (f zero)
any-suc (suc n) f = ap (λ (b : Bool). f zero || b) (any-suc n (λ i. f (suc i))) ∙ sym (or_assoc (f zero) (any n (λ i. f (suc i))) (f (suc n)))

pub all-suc : (n : ℕ) (f : ℕ → Bool) → all (suc n) f ≡ (all n f && f n)
unfolding all
all-suc zero f = and-true (f zero)
all-suc (suc n) f = ap (λ (b : Bool). f zero && b) (all-suc n (λ i. f (suc i))) ∙ sym (and_assoc (f zero) (all n (λ i. f (suc i))) (f (suc n)))

pub count-suc : (n : ℕ) (f : ℕ → Bool) → count (suc n) f ≡ count n f + bit (f n)
unfolding count
count-suc zero f = omega arith
count-suc (suc n) f = omega (arith, count-suc n (λ i. f (suc i)))

pub top-suc : (n : ℕ) (f : ℕ → ℕ) → top (suc n) f ≡ max (top n f) (f n)
unfolding top
top-suc zero f = omega arith
top-suc (suc n) f = omega (arith, top-suc n (λ i. f (suc i)))

-- a test of a property counts those that have it, and there is one such count
pub counted : (P : ℕ → Type 0) (f : ℕ → Bool) (n : ℕ) → ((i : ℕ) → i < n → (f i ≡ true) ↔ P i) → Counted P n (count n f)
unfolding count
counted P f zero h = Counted.none
counted P f (suc n) h = by (f n) refl (counted P f n (λ i b. h i (omega arith)))
  where
    by : (b : Bool) → f n ≡ b → Counted P n (count n f) → Counted P (suc n) (count (suc n) f)
    by true e c =
        let k : count (suc n) f ≡ suc (count n f) = omega (arith, count-suc n f, ap bit e) in
        subst (Counted P (suc n)) (sym k) (Counted.one c ((h n (omega arith)).0 e))
    by false e c =
        let k : count (suc n) f ≡ count n f = omega (arith, count-suc n f, ap bit e) in
        subst (Counted P (suc n)) (sym k) (Counted.skip c (λ p. false≢true (sym e ∙ (h n (omega arith)).1 p)))

pub counted_once : {P : ℕ → Type 0} {n k j : ℕ} → Counted P n k → Counted P n j → k ≡ j
counted_once Counted.none Counted.none = refl
counted_once (Counted.one c p) (Counted.one d q) = ap suc (counted_once c d)
counted_once (Counted.one c p) (Counted.skip d q) = absurd (q p)
counted_once (Counted.skip c p) (Counted.one d q) = absurd (p q)
counted_once (Counted.skip c p) (Counted.skip d q) = counted_once c d

pub least_is : (n : ℕ) (f : ℕ → Bool) (i : ℕ) → i < n → f i ≡ true → ((j : ℕ) → j < i → f j ≡ false) → least n f ≡ i
least_is n f i l e h = le_antisymm (least_min n f i l e) (not_before (dec_lt (least n f) i))
  where
    not_before : Dec (least n f < i) → i ≤ least n f
    not_before (yes m) = absurd (true≢false (sym (least_at n f (omega arith)) ∙ h (least n f) m))
    not_before (no m) = omega arith

pub least_none : (n : ℕ) (f : ℕ → Bool) → ((j : ℕ) → j < n → f j ≡ false) → least n f ≡ n
least_none n f h = by (dec_lt (least n f) n)
  where
    by : Dec (least n f < n) → least n f ≡ n
    by (yes l) = absurd (true≢false (sym (least_at n f l) ∙ h (least n f) l))
    by (no l) = omega (arith, least-le n f)

-- ---- a test made of tests says what is made of what they say

pub test↔ : (b : Bool) → (b ≡ true) ↔ (b ≡ true)
test↔ b = (λ e. e, λ e. e)

pub leb↔ : (m n : ℕ) → (leb m n ≡ true) ↔ (m ≤ n)
leb↔ m n = (leb-true m n, le-leb m n)

pub ltb↔ : (m n : ℕ) → (ltb m n ≡ true) ↔ (m < n)
ltb↔ m n = (ltb-true m n, lt-ltb m n)

pub eqb↔ : (m n : ℕ) → (eqb m n ≡ true) ↔ (m ≡ n)
eqb↔ m n = (eqb-true m n, eq-eqb m n)

pub not↔ : (b : Bool) → (not b ≡ true) ↔ (b ≡ false)
not↔ b = (not-true b, ap not)

pub and↔ : {a b : Bool} {A B : Type 0} → (a ≡ true) ↔ A → (b ≡ true) ↔ B → ((a && b) ≡ true) ↔ (A × B)
and↔ {a} {b} f g = (λ e. (f.0 (and_left a b e), g.0 (and_right a b e)), λ t. and_intro a b (f.1 t.0) (g.1 t.1))

pub or↔ : {a b : Bool} {A B : Type 0} → (a ≡ true) ↔ A → (b ≡ true) ↔ B → ((a || b) ≡ true) ↔ (A ⊎ B)
or↔ {a} {b} f g =
    (λ e. ⊎_elim (λ x. inl (f.0 x)) (λ x. inr (g.0 x)) (or_cases a b e), ⊎_elim (λ x. or_left a b (f.1 x)) (λ x. or_right a b (g.1 x)))

pub imp↔ : {a b : Bool} {A B : Type 0} → (a ≡ true) ↔ A → (b ≡ true) ↔ B → (imp a b ≡ true) ↔ (A → B)
imp↔ {a} {b} f g = (λ e x. g.0 (imp_elim a b e (f.1 x)), λ k. imp_intro a b (λ x. g.1 (k (f.0 x))))

pub any↔ : (n : ℕ) {f : ℕ → Bool} {A : ℕ → Type 0} → ((i : ℕ) → (f i ≡ true) ↔ A i) → (any n f ≡ true) ↔ ((i : ℕ) × (i < n) × A i)
any↔ n {f} g = (λ e. let (i, l, t) = any_elim n f e in (i, l, (g i).0 t), λ (i, l, t). any_intro n f i l ((g i).1 t))

pub all↔ : (n : ℕ) {f : ℕ → Bool} {A : ℕ → Type 0} → ((i : ℕ) → (f i ≡ true) ↔ A i) → (all n f ≡ true) ↔ ((i : ℕ) → i < n → A i)
all↔ n {f} g = (λ e i l. (g i).0 (all_elim n f e i l), λ k. all_intro n f (λ i l. (g i).1 (k i l)))
