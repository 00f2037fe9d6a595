-- 01's counts of regions, over any ceiling M. Which ranks a clock may have depends only on whether its whole part is below M, at M or above.
-- So the ranks are counted at ceiling 1, where the M whole parts below M stand as 0, and M as 1.
use Prim.Native.Nat.{ℕ, zero, suc, ◌+◌, ◌*◌, ◌-◌, ◌≤◌}
use native.Mathlib.Omega.{arith}
use native.Mathlib.Nat.{mul-suc, mul-add, add-mul, mul_assoc, mul-one, one-mul}
use mathlib.Core.Path.{◌≡◌, refl, sym, ap, ap₂, ◌∙◌}
use mathlib.Core.Bool.{Bool, true, false, cond, ◌&&◌, ◌||◌}
use mathlib.Core.List.{List, [], ◌∷◌, ◌++◌, map}
use lib.Dec.{leb, eqb}
use lib.ListN.{length, replicate, length-append}
use Rattle.theory.specs.Lists.{every, keep, down, from, flat, lists}
use Rattle.theory.specs.Region.{rounded_up, has_rank, top_rank, fits, lawful, clocks, regions}
use Rattle.theory.specs.Enumeration.{count_of}
use Rattle.theory.proofs.Below.{bool_ext, leb↔}
use Rattle.theory.proofs.Sorted.{keep-append}

-- ---- laws of lists and tests

abbrev sum : {A : Type 0} → (A → ℕ) → List A → ℕ
sum f [] = 0
sum f (x ∷ l) = f x + sum f l

module _ {A : Type 0} where
  sum_same : {f g : A → ℕ} → ((x : A) → f x ≡ g x) → (l : List A) → sum f l ≡ sum g l
  sum_same h [] = refl
  sum_same h (x ∷ l) = ap₂ ◌+◌ (h x) (sum_same h l)

  sum-append : (f : A → ℕ) (a b : List A) → sum f (a ++ b) ≡ sum f a + sum f b
  sum-append f [] b = omega arith
  sum-append f (x ∷ a) b = omega (arith, sum-append f a b)

  every_same : {p q : A → Bool} → ((x : A) → p x ≡ q x) → (l : List A) → every p l ≡ every q l
  every_same h [] = refl
  every_same h (x ∷ l) = ap₂ ◌&&◌ (h x) (every_same h l)

module _ {A B : Type 0} where
  sum-map : (f : B → ℕ) (g : A → B) (l : List A) → sum f (map g l) ≡ sum (λ x. f (g x)) l
  sum-map f g [] = refl
  sum-map f g (x ∷ l) = ap (λ (s : ℕ). f (g x) + s) (sum-map f g l)

  sum-flat : (f : B → ℕ) (g : A → List B) (l : List A) → sum f (flat (map g l)) ≡ sum (λ x. sum f (g x)) l
  sum-flat f g [] = refl
  sum-flat f g (x ∷ l) = sum-append f (g x) (flat (map g l)) ∙ ap (λ (s : ℕ). sum f (g x) + s) (sum-flat f g l)

  keep-flat : (p : B → Bool) (g : A → List B) (l : List A) → length (keep p (flat (map g l))) ≡ sum (λ x. length (keep p (g x))) l
  keep-flat p g [] = refl
  keep-flat p g (x ∷ l) =
      let rest = flat (map g l) in
      rw (keep-append p (g x) rest, length-append (keep p (g x)) (keep p rest), keep-flat p g l)

  -- tests that pass at the same places keep equally many
  keep_same : (p q : B → Bool) (f g : A → B) → ((x : A) → p (f x) ≡ q (g x)) → (l : List A)
      → length (keep p (map f l)) ≡ length (keep q (map g l))
  keep_same p q f g h [] = refl
  keep_same p q f g h (x ∷ l) = rw (h x) (by (q (g x)) (keep_same p q f g h l))
    where
      by : (t : Bool) → length (keep p (map f l)) ≡ length (keep q (map g l))
          → length (cond t (f x ∷ keep p (map f l)) (keep p (map f l))) ≡ length (cond t (g x ∷ keep q (map g l)) (keep q (map g l)))
      by true e = ap suc e
      by false e = e

leb_same : (a b c d : ℕ) → (a ≤ b → c ≤ d) → (c ≤ d → a ≤ b) → leb a b ≡ leb c d
leb_same a b c d f g =
    bool_ext (leb a b) (leb c d) (λ e. (leb↔ c d).1 (f ((leb↔ a b).0 e))) (λ e. (leb↔ a b).1 (g ((leb↔ c d).0 e)))

-- ---- whole parts by how they lie to the ceiling

-- 0 below M, 1 at M, more above M
abbrev level : ℕ → ℕ → ℕ
level M w = suc w - M

level_fits : (M w r : ℕ) → leb (rounded_up w r) M ≡ leb (rounded_up (level M w) r) 1
level_fits M w zero = leb_same w M (level M w) 1 (omega arith) (omega arith)
level_fits M w (suc r) = leb_same (w + 1) M (level M w + 1) 1 (omega arith) (omega arith)

module _ (M : ℕ) where
  fits-level : (n : ℕ) (ws rs : List ℕ) → fits (clocks ws rs) (replicate n M) ≡ fits (clocks (map (level M) ws) rs) (replicate n 1)
  unfolding fits
  fits-level zero [] rs = refl
  fits-level (suc n) [] rs = refl
  fits-level zero (w ∷ ws) [] = refl
  fits-level (suc n) (w ∷ ws) [] = refl
  fits-level zero (w ∷ ws) (r ∷ rs) = refl
  fits-level (suc n) (w ∷ ws) (r ∷ rs) = ap₂ ◌&&◌ (level_fits M w r) (fits-level n ws rs)

  top_level : (ws rs : List ℕ) → top_rank (clocks ws rs) ≡ top_rank (clocks (map (level M) ws) rs)
  top_level [] rs = refl
  top_level (w ∷ ws) [] = refl
  top_level (w ∷ ws) (r ∷ rs) = rw (top_level ws rs)

  has_level : (ws rs : List ℕ) (t : ℕ) → has_rank (clocks ws rs) t ≡ has_rank (clocks (map (level M) ws) rs) t
  has_level [] rs t = refl
  has_level (w ∷ ws) [] t = refl
  has_level (w ∷ ws) (r ∷ rs) t = ap (λ (b : Bool). eqb r t || b) (has_level ws rs t)

  lawful-level : (n : ℕ) (ws rs : List ℕ) → lawful n M (clocks ws rs) ≡ lawful n 1 (clocks (map (level M) ws) rs)
  unfolding lawful
  lawful-level n ws rs =
      ap₂ ◌&&◌ (fits-level n ws rs)
      (every_same (has_level ws rs) (down (top_rank (clocks ws rs)))
      ∙ ap (λ (t : ℕ). every (has_rank (clocks (map (level M) ws) rs)) (down t)) (top_level ws rs))

-- ---- sums over all choices of whole parts

-- the sum of f over the lists of n levels: 0 is taken M times, 1 once
abbrev choices : ℕ → ℕ → (List ℕ → ℕ) → ℕ
choices M zero f = f []
choices M (suc n) f = choices M n (λ l. f (0 ∷ l)) * M + choices M n (λ l. f (1 ∷ l))

-- k, k + 1, .., M
sum_range : (M : ℕ) (h : ℕ → ℕ) (k c : ℕ) → k + c ≡ M → sum (λ w. h (level M w)) (from k (suc c)) ≡ h 0 * c + h 1
sum_range M h k zero e = let q : suc k - M ≡ 1 = omega arith in rw q (omega arith)
sum_range M h k (suc c) e =
    let q : suc k - M ≡ 0 = omega arith in
    rw (q, sum_range M h (suc k) c (omega arith), mul-suc) (omega arith)

sum-lists : (M n : ℕ) (f : List ℕ → ℕ) → sum (λ ws. f (map (level M) ws)) (lists n (from 0 (suc M))) ≡ choices M n f
sum-lists M zero f = omega arith
sum-lists M (suc n) f =
    sum-flat (λ ws. f (map (level M) ws)) (λ x. map (λ l. x ∷ l) rest) all
    ∙ sum_same (λ x. sum-map (λ ws. f (map (level M) ws)) (λ l. x ∷ l) rest ∙ sum-lists M n (λ l. f (level M x ∷ l))) all
    ∙ sum_range M (λ v. choices M n (λ l. f (v ∷ l))) 0 M (omega arith)
  where
    all : List ℕ
    all = from 0 (suc M)

    rest : List (List ℕ)
    rest = lists n all

-- ---- the counts

-- how many lists of ranks make a region of whole parts at these levels
abbrev rankings : ℕ → List ℕ → ℕ
rankings n ls = length (keep (lawful n 1) (map (clocks ls) (lists n (from 0 (suc n)))))

regions-choices : (n M : ℕ) → length (regions n M) ≡ choices M n (rankings n)
unfolding regions
regions-choices n M =
    keep-flat (lawful n M) (λ ws. map (clocks ws) rs) wss
    ∙ sum_same (λ ws. keep_same (lawful n M) (lawful n 1) (clocks ws) (clocks (map (level M) ws)) (lawful-level M n ws) rs) wss
    ∙ sum-lists M n (rankings n)
  where
    rs : List (List ℕ)
    rs = lists n (from 0 (suc n))

    wss : List (List ℕ)
    wss = lists n (from 0 (suc M))

count_one : (M : ℕ) → choices M 1 (rankings 1) ≡ 2 * M + 1
unfolding lawful fits
count_one M = refl

count_two : (M : ℕ) → choices M 2 (rankings 2) ≡ (6 * M + 2) * M + (2 * M + 1)
unfolding lawful fits
count_two M = refl

count_three : (M : ℕ) → choices M 3 (rankings 3) ≡ ((26 * M + 6) * M + (6 * M + 2)) * M + ((6 * M + 2) * M + (2 * M + 1))
unfolding lawful fits
count_three M = refl

pub count_law : (n M : ℕ) → 1 ≤ n → n ≤ 3 → count_of n M ≡ length (regions n M)
count_law zero M a b = absurd (omega arith)
count_law (suc zero) M a b = sym (regions-choices 1 M ∙ count_one M)
count_law (suc (suc zero)) M a b = sym (regions-choices 2 M ∙ count_two M ∙ simp (add-mul, mul_assoc) (omega arith))
count_law (suc (suc (suc zero))) M a b =
    sym (regions-choices 3 M ∙ count_three M ∙ simp (add-mul, mul-add, mul_assoc, mul-one, one-mul) (omega arith))
count_law (suc (suc (suc (suc n)))) M a b = absurd (omega arith)
