-- The struct's views: of one, two and three clocks; what each function of the struct computes, as a definition on a view.
use Prim.Native.Nat.{ℕ, zero, suc, ◌+◌, ◌-◌, ◌≤◌, ◌/◌, ◌%◌}
use native.Mathlib.Omega.{arith}
use mathlib.Core.Path.{◌≡◌, refl, sym, ap, ap₂, ◌∙◌, subst}
use mathlib.Core.Bool.{Bool, true, false, cond, ◌&&◌, and-false, and-true}
use mathlib.Core.List.{List, [], ◌∷◌, ◌++◌, map}
use lib.Dec.{leb, eqb}
use lib.ListN.{length, take, drop, replicate, take-append-drop}
use Rattle.theory.specs.Region.{Clock, clock, fits, attains, has_rank, top_rank, raise, corners, rise_ranks, carry, successor, reset_clocks, ranks_upto, close_up, face, shares, lawful}
use Rattle.limits.specs.Limits.{max_clocks, max_ceiling}
use Rattle.region.specs.Limits.{Clocks}
use Rattle.region.specs.View.{view, nth, struct_of, Padded, Small, time_of, later_of, mask_bits}
use Rattle.region.specs.declared.Region.{Region}
use Rattle.std.proofs.Common.{Some, None}
use Rattle.region.proofs.Padding.{pad, zeros, pad-fits, pad-attains, pad_top, pad-lawful, pad-close_up, pad_reset, pad-raise, pad-corners, pad-shares, pad-face}

-- what holds of 1, 2 and 3 holds of each number of clocks
pub three : (P : ℕ → Type 0) → P 1 → P 2 → P 3 → (n : ℕ) → Clocks n → P n
three P a b c zero h = absurd (omega (arith, h.low))
three P a b c (suc zero) h = a
three P a b c (suc (suc zero)) h = b
three P a b c (suc (suc (suc zero))) h = c
three P a b c (suc (suc (suc (suc n)))) h = absurd (omega (arith, h.high))

-- ---- struct and view

pub view_struct : (n : ℕ) → Clocks n → (xs : List Clock) → length xs ≡ n → view n (struct_of xs) ≡ xs
view_struct n h xs e = subst (λ (n : ℕ). view n (struct_of xs) ≡ xs) e (by xs (omega (arith, h.high)))
  where
    by : (xs : List Clock) → length xs ≤ max_clocks → view (length xs) (struct_of xs) ≡ xs
    by [] h = refl
    by (x ∷ []) h = refl
    by (x ∷ y ∷ []) h = refl
    by (x ∷ y ∷ z ∷ []) h = refl
    by (x ∷ y ∷ z ∷ u ∷ xs) h = absurd (omega arith)

pub padded_struct : (n : ℕ) → Clocks n → (xs : List Clock) → length xs ≡ n → Padded n (struct_of xs)
padded_struct n h xs e = record { same = ap struct_of (view_struct n h xs e) }

pub length-view : (n : ℕ) → Clocks n → (g : Region) → length (view n g) ≡ n
length-view n h g = three (λ n. length (view n g) ≡ n) refl refl refl n h

-- the struct of n clocks, read as three
pub view_first : (n : ℕ) → Clocks n → (g : Region) → view max_clocks (struct_of (view n g)) ≡ pad (max_clocks - n) (view n g)
view_first n h g = three (λ n. view max_clocks (struct_of (view n g)) ≡ pad (max_clocks - n) (view n g)) refl refl refl n h

pub padded_view : (n : ℕ) → Clocks n → (g : Region) → Padded n g → view max_clocks g ≡ pad (max_clocks - n) (view n g)
padded_view n h g p = ap (view max_clocks) (sym p.same) ∙ view_first n h g

nth_rest : (k i : ℕ) → nth (replicate k (clock 0 0)) i ≡ clock 0 0
nth_rest zero i = refl
nth_rest (suc k) zero = refl
nth_rest (suc k) (suc i) = nth_rest k i

nth-pad : (k : ℕ) (xs : List Clock) (i : ℕ) → nth (pad k xs) i ≡ nth xs i
nth-pad k [] i = nth_rest k i
nth-pad k (x ∷ xs) zero = refl
nth-pad k (x ∷ xs) (suc i) = nth-pad k xs i

-- the struct does not see clocks that are 0
pub struct_pad : (k : ℕ) (xs : List Clock) → struct_of (pad k xs) ≡ struct_of xs
struct_pad k xs = cc (nth-pad k xs 0, nth-pad k xs 1, nth-pad k xs 2)

-- ---- what the struct's functions compute

top_first : (n : ℕ) → Clocks n → (g : Region) → top_rank (view max_clocks (struct_of (view n g))) ≡ top_rank (view n g)
top_first n h g = ap top_rank (view_first n h g) ∙ pad_top (max_clocks - n) (view n g)

pub rises : (n : ℕ) → Clocks n → (g : Region) → has_rank (view n g) 0 ≡ true
    → struct_of (view n (struct_of (rise_ranks (view max_clocks g)))) ≡ struct_of (successor (view n g))
rises n h g e =
    three (λ n. struct_of (view n (struct_of (rise_ranks (view max_clocks g)))) ≡ struct_of (rise_ranks (view n g))) refl refl refl n h
    ∙ sym (ap (λ (b : Bool). struct_of (cond b (rise_ranks (view n g)) (carry (top_rank (view n g)) (view n g)))) e)

pub carries : (n : ℕ) → Clocks n → (g : Region) (t : ℕ) → t ≡ top_rank (view max_clocks (struct_of (view n g))) → has_rank (view n g) 0 ≡ false
    → struct_of (view n (struct_of (carry t (view max_clocks g)))) ≡ struct_of (successor (view n g))
carries n h g t q e =
    three (λ n. struct_of (view n (struct_of (carry t (view max_clocks g)))) ≡ struct_of (carry t (view n g))) refl refl refl n h
    ∙ ap (λ (t : ℕ). struct_of (carry t (view n g))) (q ∙ top_first n h g)
    ∙ sym (ap (λ (b : Bool). struct_of (cond b (rise_ranks (view n g)) (carry (top_rank (view n g)) (view n g)))) e)

-- ---- the ceiling

length_rise : (xs : List Clock) → length (rise_ranks xs) ≡ length xs
length_rise [] = refl
length_rise (x ∷ xs) = ap suc (length_rise xs)

length-carry : (t : ℕ) (xs : List Clock) → length (carry t xs) ≡ length xs
length-carry t [] = refl
length-carry t (x ∷ xs) = ap suc (length-carry t xs)

pub length-successor : (xs : List Clock) → length (successor xs) ≡ length xs
length-successor xs = by (has_rank xs 0)
  where
    by : (b : Bool) → length (cond b (rise_ranks xs) (carry (top_rank xs) xs)) ≡ length xs
    by true = length_rise xs
    by false = length-carry (top_rank xs) xs

-- for the struct of n clocks, three limits are as good as n
pub fits_struct : (n : ℕ) → Clocks n → (xs : List Clock) (a b c : ℕ) → length xs ≡ n
    → fits (view max_clocks (struct_of xs)) (a ∷ b ∷ c ∷ []) ≡ fits xs (take n (a ∷ b ∷ c ∷ []))
fits_struct n h xs a b c e =
    subst (λ (ys : List Clock). fits (view max_clocks (struct_of ys)) (a ∷ b ∷ c ∷ []) ≡ fits ys (take n (a ∷ b ∷ c ∷ []))) (view_struct n h xs e)
    (ap (λ (ys : List Clock). fits ys (a ∷ b ∷ c ∷ [])) (view_first n h g)
    ∙ three (λ n. fits (pad (max_clocks - n) (view n g)) (a ∷ b ∷ c ∷ []) ≡ fits (view n g) (take n (a ∷ b ∷ c ∷ [])))
    (pad-fits (view 1 g) (a ∷ []) (b ∷ c ∷ []) refl) (pad-fits (view 2 g) (a ∷ b ∷ []) (c ∷ []) refl)
    (pad-fits (view max_clocks g) (a ∷ b ∷ c ∷ []) [] refl) n h)
  where
    g : Region
    g = struct_of xs

ceiling : (n : ℕ) → Clocks n → (M : ℕ) (g : Region)
    → fits (view max_clocks (struct_of (successor (view n g)))) (M ∷ M ∷ M ∷ []) ≡ fits (successor (view n g)) (replicate n M)
ceiling n h M g =
    let xs = successor (view n g) in
    fits_struct n h xs M M M (length-successor (view n g) ∙ length-view n h g)
    ∙ three (λ n. fits xs (take n (M ∷ M ∷ M ∷ [])) ≡ fits xs (replicate n M)) refl refl refl n h

pub time_next : (n : ℕ) → Clocks n → (M : ℕ) (g x : Region) → x ≡ struct_of (successor (view n g))
    → fits (view max_clocks x) (M ∷ M ∷ M ∷ []) ≡ true → Some x ≡ later_of (time_of n M (view n g))
unfolding time_of
time_next n h M g x q e =
    rw (sym (ceiling n h M g) ∙ ap (λ (x : Region). fits (view max_clocks x) (M ∷ M ∷ M ∷ [])) (sym q) ∙ e) (ap Some q)

pub time_past : (n : ℕ) → Clocks n → (M : ℕ) (g x : Region) → x ≡ struct_of (successor (view n g))
    → fits (view max_clocks x) (M ∷ M ∷ M ∷ []) ≡ false → None ≡ later_of (time_of n M (view n g))
unfolding time_of
time_past n h M g x q e = rw (sym (ceiling n h M g) ∙ ap (λ (x : Region). fits (view max_clocks x) (M ∷ M ∷ M ∷ [])) (sym q) ∙ e)

-- ---- resets

length_reset : (bs : List Bool) (xs : List Clock) → length (reset_clocks bs xs) ≡ length xs
length_reset bs [] = refl
length_reset [] (x ∷ xs) = refl
length_reset (true ∷ bs) (x ∷ xs) = ap suc (length_reset bs xs)
length_reset (false ∷ bs) (x ∷ xs) = ap suc (length_reset bs xs)

pub closes : (bs : List Bool) (g : Region)
    → struct_of (close_up (view max_clocks (struct_of (reset_clocks bs (view max_clocks g))))) ≡ struct_of (close_up (reset_clocks bs (view max_clocks g)))
closes bs g =
    ap (λ (xs : List Clock). struct_of (close_up xs))
    (view_struct max_clocks (record { low = omega arith; high = omega arith }) (reset_clocks bs (view max_clocks g)) (length_reset bs (view max_clocks g)))

one_more : (b : Bool) (k : ℕ) → cond b (k + 1) k ≡ k + cond b 1 0
one_more true k = refl
one_more false k = omega arith

-- the ranks up to x present, counted by three tests
pub upto_law : (xs : List Clock) (x : ℕ) → x ≤ max_clocks
    → cond (has_rank xs 1 && leb 1 x) 1 0 + cond (has_rank xs 2 && leb 2 x) 1 0 + cond (has_rank xs 3 && leb 3 x) 1 0 ≡ ranks_upto xs x
upto_law xs zero h = simp and-false
upto_law xs (suc zero) h = simp (and-true, and-false) (omega arith)
upto_law xs (suc (suc zero)) h = simp (and-true, and-false, one_more) (omega arith)
upto_law xs (suc (suc (suc zero))) h = simp (and-true, one_more) (omega arith)
upto_law xs (suc (suc (suc (suc x)))) h = absurd (omega arith)

-- ---- for a region of n clocks: each contract on three clocks, as a statement on n

module _ (n : ℕ) (h : Clocks n) where
  pub fits-view : (g : Region) → Padded n g → (a b c : ℕ) → fits (view max_clocks g) (a ∷ b ∷ c ∷ []) ≡ fits (view n g) (take n (a ∷ b ∷ c ∷ []))
  fits-view g p a b c =
      ap (λ (g : Region). fits (view max_clocks g) (a ∷ b ∷ c ∷ [])) (sym p.same) ∙ fits_struct n h (view n g) a b c (length-view n h g)

  -- lower limits past n are 0
  pub attains-view : (g : Region) → Padded n g → (a b c : ℕ) → drop n (a ∷ b ∷ c ∷ []) ≡ replicate (max_clocks - n) 0
      → attains (view max_clocks g) (a ∷ b ∷ c ∷ []) ≡ attains (view n g) (take n (a ∷ b ∷ c ∷ []))
  attains-view g p a b c e =
      let l = a ∷ b ∷ c ∷ [] in
      ap (λ (xs : List Clock). attains xs l) (padded_view n h g p)
      ∙ ap (λ (m : List ℕ). attains (pad (max_clocks - n) (view n g)) m) (sym (take-append-drop n l) ∙ ap (λ (m : List ℕ). take n l ++ m) e)
      ∙ pad-attains (max_clocks - n) (view n g) (take n l) (length-view n h g ∙ sym (three (λ n. length (take n l) ≡ n) refl refl refl n h))

  pub raise-view : (g : Region) → Padded n g → (t : ℕ) → raise (suc t) (view max_clocks g) ≡ zeros (max_clocks - n) (raise (suc t) (view n g))
  raise-view g p t = ap (raise (suc t)) (padded_view n h g p) ∙ pad-raise (max_clocks - n) t (view n g)

  pub corners-view : (g : Region) → Padded n g → corners (view max_clocks g) ≡ map (zeros (max_clocks - n)) (corners (view n g))
  corners-view g p = ap corners (padded_view n h g p) ∙ pad-corners (max_clocks - n) (view n g)

  pub top_view : (g : Region) → Padded n g → top_rank (view max_clocks g) ≡ top_rank (view n g)
  top_view g p = ap top_rank (padded_view n h g p) ∙ pad_top (max_clocks - n) (view n g)

  pub shares-view : (a b : Region) → Padded n a → Padded n b → shares (view max_clocks a) (view max_clocks b) ≡ shares (view n a) (view n b)
  shares-view a b p q = ap₂ shares (padded_view n h a p) (padded_view n h b q) ∙ pad-shares (max_clocks - n) (view n a) (view n b)

  pub face-view : (a b : Region) → Padded n a → Padded n b → face (view max_clocks a) (view max_clocks b) ≡ face (view n a) (view n b)
  face-view a b p q = ap₂ face (padded_view n h a p) (padded_view n h b q) ∙ pad-face (max_clocks - n) (view n a) (view n b)

  pub lawful-view : (M : ℕ) (g : Region) → Padded n g → lawful max_clocks M (view max_clocks g) ≡ lawful n M (view n g)
  lawful-view M g p =
      ap (lawful max_clocks M) (padded_view n h g p)
      ∙ ap (λ (k : ℕ). lawful k M (pad (max_clocks - n) (view n g))) (omega (arith, h.high))
      ∙ pad-lawful (max_clocks - n) n M (view n g) (length-view n h g)

  pub close_up-view : (g : Region) → Padded n g → struct_of (close_up (view max_clocks g)) ≡ struct_of (close_up (view n g))
  close_up-view g p =
      ap (λ (xs : List Clock). struct_of (close_up xs)) (padded_view n h g p)
      ∙ ap struct_of (pad-close_up (max_clocks - n) (view n g))
      ∙ struct_pad (max_clocks - n) (close_up (view n g))

  pub reset_view : (mask : ℕ) (g : Region) → Padded n g
      → struct_of (close_up (reset_clocks (mask_bits max_clocks mask) (view max_clocks g))) ≡ struct_of (close_up (reset_clocks (mask_bits n mask) (view n g)))
  reset_view mask g p =
      ap (λ (xs : List Clock). struct_of (close_up (reset_clocks (mask_bits max_clocks mask) xs))) (padded_view n h g p)
      ∙ ap (λ (xs : List Clock). struct_of (close_up xs)) (cut n h)
      ∙ ap struct_of (pad-close_up (max_clocks - n) (reset_clocks (mask_bits n mask) (view n g)))
      ∙ struct_pad (max_clocks - n) (close_up (reset_clocks (mask_bits n mask) (view n g)))
    where
      cut : (n : ℕ) → Clocks n
          → reset_clocks (mask_bits max_clocks mask) (pad (max_clocks - n) (view n g)) ≡ pad (max_clocks - n) (reset_clocks (mask_bits n mask) (view n g))
      cut =
          three (λ n. reset_clocks (mask_bits max_clocks mask) (pad (max_clocks - n) (view n g)) ≡ pad (max_clocks - n) (reset_clocks (mask_bits n mask) (view n g)))
          (pad_reset (mask_bits 1 mask) (mask_bits 2 (mask / 2)) (view 1 g) refl)
          (pad_reset (mask_bits 2 mask) (mask_bits 1 (mask / 2 / 2)) (view 2 g) refl)
          (pad_reset (mask_bits max_clocks mask) [] (view max_clocks g) refl)
