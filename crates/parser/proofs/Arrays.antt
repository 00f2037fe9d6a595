-- Arrays that are set place by place, with 0 at the places that are not used.
use Prim.Native.Nat.{ℕ, suc, zero, ◌*◌, ◌/◌, ◌%◌, ◌≤◌, ◌<◌}
use native.Mathlib.Omega.{arith}
use mathlib.Core.Path.{◌≡◌, refl, sym, subst, ◌∙◌}
use mathlib.Core.Logic.{◌⊎◌, inl, inr}
use mathlib.Core.List.{List, [], ◌∷◌}
use mathlib.Core.Bool.{Bool, true, false}
use lib.ListN.{length, get_or, set, length-set}
use lib.Seq.{get_or-set_same, get_or-set_other, ext_get_or}
use lib.Dec.{eqb, ltb}
use borrow.Author.Tests.{eqb-true, eqb-false, ltb-true, ltb-false}
use Rattle.limits.specs.Limits.{max_clocks}
use Rattle.model.specs.Each.{each}
use Rattle.model.specs.Model.{slot, ZeroFrom, ZeroOutside}
use Rattle.model.proofs.Each.{each_ind}

-- what is set is at most c, as the rest is
pub set_most : (c : ℕ) (xs : List ℕ) (i v : ℕ) → v ≤ c → ((j : ℕ) → get_or xs j 0 ≤ c) → (j : ℕ) → get_or (set xs i v) j 0 ≤ c
set_most c [] i v p h j = h j
set_most c (x ∷ xs) zero v p h zero = p
set_most c (x ∷ xs) zero v p h (suc j) = h (suc j)
set_most c (x ∷ xs) (suc i) v p h zero = h zero
set_most c (x ∷ xs) (suc i) v p h (suc j) = set_most c xs i v p (λ k. h (suc k)) j

-- ---- the first k places

abbrev pub row : ℕ → (ℕ → ℕ) → List ℕ → List ℕ
row k f a = each k (λ i b. set b i (f i)) a

module _ (f : ℕ → ℕ) (a : List ℕ) where
  pub row_length : (k : ℕ) → length (row k f a) ≡ length a
  row_length k = each_ind (λ (b : List ℕ). length b ≡ length a) k _ (λ i b p. length-set b i (f i) ∙ p) a refl

  pub row_out : (k j : ℕ) → k ≤ j → get_or (row k f a) j 0 ≡ get_or a j 0
  unfolding each
  row_out zero j h = refl
  row_out (suc k) j h = get_or-set_other (row k f a) k j (f k) 0 (λ e. omega arith) ∙ row_out k j (omega arith)

  pub row_in : (k j : ℕ) → j < k → k ≤ length a → get_or (row k f a) j 0 ≡ f j
  unfolding each
  row_in zero j h l = absurd (omega arith)
  row_in (suc k) j h l = go (eqb j k) refl (λ p. row_in k j p (omega arith))
    where
      go : (t : Bool) → eqb j k ≡ t → (j < k → get_or (row k f a) j 0 ≡ f j) → get_or (set (row k f a) k (f k)) j 0 ≡ f j
      go true q ih =
          subst (λ (i : ℕ). get_or (set (row k f a) i (f i)) j 0 ≡ f j) (eqb-true j k q)
          (get_or-set_same (row k f a) j (f j) 0 (omega (arith, row_length k)))
      go false q ih = let d = eqb-false j k q in get_or-set_other (row k f a) k j (f k) 0 d ∙ ih (omega arith)

-- ---- the first n places of the first k groups

abbrev pub line : ℕ → ℕ → (ℕ → ℕ) → List ℕ → List ℕ
line n i f a = each n (λ x b. set b (slot i x) (f x)) a

abbrev pub grid : ℕ → ℕ → (ℕ → ℕ → ℕ) → List ℕ → List ℕ
grid k n f a = each k (λ i b. line n i (f i) b) a

module _ (i : ℕ) (f : ℕ → ℕ) (a : List ℕ) where
  line-length : (n : ℕ) → length (line n i f a) ≡ length a
  line-length n = each_ind (λ (b : List ℕ). length b ≡ length a) n _ (λ x b p. length-set b (slot i x) (f x) ∙ p) a refl

  line_out : (n j : ℕ) → ((x : ℕ) → x < n → j ≡ slot i x → ⊥) → get_or (line n i f a) j 0 ≡ get_or a j 0
  unfolding each
  line_out zero j h = refl
  line_out (suc n) j h =
      get_or-set_other (line n i f a) (slot i n) j (f n) 0 (h n (omega arith)) ∙ line_out n j (λ x p. h x (omega arith))

  line_in : (n x : ℕ) → x < n → slot i n ≤ length a → get_or (line n i f a) (slot i x) 0 ≡ f x
  unfolding each
  line_in zero x h l = absurd (omega arith)
  line_in (suc n) x h l = go (eqb x n) refl (λ p. line_in n x p (omega arith))
    where
      go : (t : Bool) → eqb x n ≡ t → (x < n → get_or (line n i f a) (slot i x) 0 ≡ f x)
          → get_or (set (line n i f a) (slot i n) (f n)) (slot i x) 0 ≡ f x
      go true q ih =
          subst (λ (y : ℕ). get_or (set (line n i f a) (slot i y) (f y)) (slot i x) 0 ≡ f x) (eqb-true x n q)
          (get_or-set_same (line n i f a) (slot i x) (f x) 0 (omega (arith, line-length n)))
      go false q ih =
          let d = eqb-false x n q in
          get_or-set_other (line n i f a) (slot i n) (slot i x) (f n) 0 (λ e. omega arith) ∙ ih (omega arith)

module _ (n : ℕ) (few : n ≤ max_clocks) (f : ℕ → ℕ → ℕ) (a : List ℕ) where
  pub grid-length : (k : ℕ) → length (grid k n f a) ≡ length a
  grid-length k = each_ind (λ (b : List ℕ). length b ≡ length a) k _ (λ i b p. line-length i (f i) b n ∙ p) a refl

  pub grid_out : (k i x : ℕ) → x < max_clocks → (k ≤ i) ⊎ (n ≤ x) → get_or (grid k n f a) (slot i x) 0 ≡ get_or a (slot i x) 0
  unfolding each
  grid_out zero i x h o = refl
  grid_out (suc k) i x h o = line_out k (f k) (grid k n f a) n (slot i x) (apart o) ∙ grid_out k i x h (less o)
    where
      apart : (suc k ≤ i) ⊎ (n ≤ x) → (y : ℕ) → y < n → slot i x ≡ slot k y → ⊥
      apart (inl p) y q e = omega arith
      apart (inr p) y q e = omega arith

      less : (suc k ≤ i) ⊎ (n ≤ x) → (k ≤ i) ⊎ (n ≤ x)
      less (inl p) = inl (omega arith)
      less (inr p) = inr p

  pub grid_in : (k i x : ℕ) → i < k → x < n → max_clocks * k ≤ length a → get_or (grid k n f a) (slot i x) 0 ≡ f i x
  unfolding each
  grid_in zero i x h g l = absurd (omega arith)
  grid_in (suc k) i x h g l = go (eqb i k) refl (λ p. grid_in k i x p g (omega arith))
    where
      go : (t : Bool) → eqb i k ≡ t → (i < k → get_or (grid k n f a) (slot i x) 0 ≡ f i x)
          → get_or (line n k (f k) (grid k n f a)) (slot i x) 0 ≡ f i x
      go true q ih =
          subst (λ (j : ℕ). get_or (line n j (f j) (grid k n f a)) (slot i x) 0 ≡ f i x) (eqb-true i k q)
          (line_in i (f i) (grid k n f a) n x g (omega (arith, grid-length k, eqb-true i k q)))
      go false q ih =
          let d = eqb-false i k q in
          line_out k (f k) (grid k n f a) n (slot i x) (λ y p e. omega arith) ∙ ih (omega arith)

-- ---- at every place

pub row_at : (P : ℕ → Type 0) (k : ℕ) → ((i : ℕ) → i < k → P i) → ((i : ℕ) → k ≤ i → P i) → (i : ℕ) → P i
row_at P k used rest i = go (ltb i k) refl
  where
    go : (t : Bool) → ltb i k ≡ t → P i
    go true q = used i (ltb-true _ _ q)
    go false q = rest i (ltb-false _ _ q)

pub grid_at : (P : ℕ → Type 0) (k n : ℕ) → ((i x : ℕ) → i < k → x < n → P (slot i x))
    → ((i x : ℕ) → x < max_clocks → (k ≤ i) ⊎ (n ≤ x) → P (slot i x)) → (j : ℕ) → P j
grid_at P k n used rest j =
    let e : slot (j / max_clocks) (j % max_clocks) ≡ j = omega arith in
    subst P e (go (ltb (j / max_clocks) k) refl (ltb (j % max_clocks) n) refl)
  where
    go : (s : Bool) → ltb (j / max_clocks) k ≡ s → (t : Bool) → ltb (j % max_clocks) n ≡ t → P (slot (j / max_clocks) (j % max_clocks))
    go true p true q = used (j / max_clocks) (j % max_clocks) (ltb-true _ _ p) (ltb-true _ _ q)
    go true p false q = rest (j / max_clocks) (j % max_clocks) (omega arith) (inr (ltb-false _ _ q))
    go false p t q = rest (j / max_clocks) (j % max_clocks) (omega arith) (inl (ltb-false _ _ p))

-- two arrays that are alike where they are used are one
module _ (k : ℕ) (xs ys : List ℕ) (len : length xs ≡ length ys) where
  pub row_ext : ZeroFrom k xs → ZeroFrom k ys → ((i : ℕ) → i < k → get_or xs i 0 ≡ get_or ys i 0) → xs ≡ ys
  row_ext a b h = ext_get_or 0 xs ys len (λ i _. row_at (λ (j : ℕ). get_or xs j 0 ≡ get_or ys j 0) k h (λ j p. a j p ∙ sym (b j p)) i)

  pub grid_ext : (n : ℕ) → ZeroOutside k n xs → ZeroOutside k n ys
      → ((i x : ℕ) → i < k → x < n → get_or xs (slot i x) 0 ≡ get_or ys (slot i x) 0) → xs ≡ ys
  grid_ext n a b h =
      ext_get_or 0 xs ys len (λ i _. grid_at (λ (j : ℕ). get_or xs j 0 ≡ get_or ys j 0) k n h (λ j x p o. a j x p o ∙ sym (b j x p o)) i)
