-- Packed numbers: a small region is what its number says, and the order of numbers is the order of regions.
use Prim.Native.Nat.{ℕ, zero, suc, ◌-◌, ◌≤◌, ◌<◌}
use native.Mathlib.Omega.{arith}
use mathlib.Core.Path.{◌≡◌, refl, sym, ap, ◌∙◌, subst}
use mathlib.Core.Bool.{true}
use mathlib.Core.Logic.{◌⊎◌, inl, inr, ⊎_elim}
use mathlib.Core.List.{List, [], ◌∷◌, ◌++◌, Memᴰ}
use lib.ListN.{length, replicate}
use Rattle.theory.specs.Pointwise.{Each, none, more}
use Rattle.theory.specs.Region.{Clock, wholes, lawful}
use Rattle.theory.specs.Enumeration.{ranks, key, Before, here, later}
use Rattle.theory.proofs.Enumeration.{lawful-length, lawful_whole, lawful_rank, before_front, before_back}
use Rattle.limits.specs.Limits.{max_clocks, max_ceiling}
use Rattle.region.specs.Limits.{Clocks, Ceiling}
use Rattle.region.specs.View.{view, nth, struct_of, Small}
use Rattle.region.specs.Packed.{packed_bound, decimal, pack, pack_clocks, unpack}
use Rattle.region.specs.declared.Region.{Region}
use Rattle.region.proofs.Padding.{pad, zeros}
use Rattle.region.proofs.Views.{view_struct, padded_struct, padded_view}

module _ (g : Region) (s : Small g) where
  pub pack_small : pack g < packed_bound
  pack_small = omega (arith, s.w1, s.w2, s.w3, s.r1, s.r2, s.r3)

  -- a region is what its number says
  pub unpack-pack : unpack (pack g) ≡ g
  unpack-pack = λ i. record { w1 = w1 i; w2 = w2 i; w3 = w3 i; r1 = r1 i; r2 = r2 i; r3 = r3 i }
    where
      w1 : (unpack (pack g)).w1 ≡ g.w1
      w1 = omega (arith, s.w1, s.w2, s.w3, s.r1, s.r2, s.r3)

      w2 : (unpack (pack g)).w2 ≡ g.w2
      w2 = omega (arith, s.w1, s.w2, s.w3, s.r1, s.r2, s.r3)

      w3 : (unpack (pack g)).w3 ≡ g.w3
      w3 = omega (arith, s.w1, s.w2, s.w3, s.r1, s.r2, s.r3)

      r1 : (unpack (pack g)).r1 ≡ g.r1
      r1 = omega (arith, s.w1, s.w2, s.w3, s.r1, s.r2, s.r3)

      r2 : (unpack (pack g)).r2 ≡ g.r2
      r2 = omega (arith, s.w1, s.w2, s.w3, s.r1, s.r2, s.r3)

      r3 : (unpack (pack g)).r3 ≡ g.r3
      r3 = omega (arith, s.w1, s.w2, s.w3, s.r1, s.r2, s.r3)

-- ---- a lawful region is small

nth-le : (n m : ℕ) (xs : List Clock) → ((w : ℕ) → Memᴰ w (wholes xs) → w ≤ m) → ((r : ℕ) → Memᴰ r (ranks xs) → r ≤ n) → (i : ℕ)
    → ((nth xs i).whole ≤ m) × ((nth xs i).rank ≤ n)
nth-le n m [] f h i = (omega arith, omega arith)
nth-le n m (x ∷ xs) f h zero = (f x.whole (Memᴰ.head refl), h x.rank (Memᴰ.head refl))
nth-le n m (x ∷ xs) f h (suc i) = nth-le n m xs (λ w k. f w (Memᴰ.tail k)) (λ r k. h r (Memᴰ.tail k)) i

pub lawful_small : (n M : ℕ) → Clocks n → Ceiling M → (xs : List Clock) → lawful n M xs ≡ true → Small (struct_of xs)
lawful_small n M k h xs t =
    let b : (i : ℕ) → ((nth xs i).whole ≤ max_ceiling) × ((nth xs i).rank ≤ max_clocks)
    = nth-le max_clocks max_ceiling xs (λ w m. omega (arith, lawful_whole n M xs t w m, h.high)) (λ r m. omega (arith, lawful_rank n M xs t r m, k.high)) in
    record { w1 = (b 0).0; w2 = (b 1).0; w3 = (b 2).0; r1 = (b 0).1; r2 = (b 1).1; r3 = (b 2).1 }

-- ---- the order of numbers

-- one step of the decimal number keeps the order, where the digits are at most 9
decimal_less : {a b : List ℕ} → Each (λ x y. (x ≤ 9) × (y ≤ 9)) a b → (j k : ℕ) → j < k → decimal j a < decimal k b
decimal_less none j k h = h
decimal_less (more d ds) j k h = decimal_less ds _ _ (omega (arith, d.0, d.1))

decimal_before : {a b : List ℕ} → Before a b → Each (λ x y. (x ≤ 9) × (y ≤ 9)) a b → (k : ℕ) → decimal k a < decimal k b
decimal_before (here h) (more d ds) k = decimal_less ds _ _ (omega arith)
decimal_before (later h) (more d ds) k = decimal_before h ds _

digits : (g h : Region) → Small g → Small h → Each (λ x y. (x ≤ 9) × (y ≤ 9)) (key (view max_clocks g)) (key (view max_clocks h))
digits g h s t =
    more (nine s.w1, nine t.w1) (more (nine s.w2, nine t.w2) (more (nine s.w3, nine t.w3)
    (more (few s.r1, few t.r1) (more (few s.r2, few t.r2) (more (few s.r3, few t.r3) none)))))
  where
    nine : {x : ℕ} → x ≤ max_ceiling → x ≤ 9
    nine l = omega arith

    few : {x : ℕ} → x ≤ max_clocks → x ≤ 9
    few l = omega arith

-- the order of keys is decided in the whole parts, or these are equal and it is decided in the ranks
before_split : (a b : List ℕ) {c d : List ℕ} → length a ≡ length b → Before (a ++ c) (b ++ d) → Before a b ⊎ ((a ≡ b) × Before c d)
before_split [] [] e h = inr (refl, h)
before_split [] (y ∷ b) e h = absurd (omega arith)
before_split (x ∷ a) [] e h = absurd (omega arith)
before_split (x ∷ a) (y ∷ b) e (here h) = inl (here h)
before_split (x ∷ a) (_ ∷ b) e (later h) =
    ⊎_elim (λ p. inl (later p)) (λ (q, r). inr (ap (λ (l : List ℕ). x ∷ l) q, r)) (before_split a b (omega arith) h)

wholes-pad : (k : ℕ) (xs : List Clock) → wholes (pad k xs) ≡ zeros k (wholes xs)
wholes-pad zero [] = refl
wholes-pad (suc k) [] = ap (λ (l : List ℕ). 0 ∷ l) (wholes-pad k [])
wholes-pad k (x ∷ xs) = ap (λ (l : List ℕ). x.whole ∷ l) (wholes-pad k xs)

ranks-pad : (k : ℕ) (xs : List Clock) → ranks (pad k xs) ≡ zeros k (ranks xs)
ranks-pad zero [] = refl
ranks-pad (suc k) [] = ap (λ (l : List ℕ). 0 ∷ l) (ranks-pad k [])
ranks-pad k (x ∷ xs) = ap (λ (l : List ℕ). x.rank ∷ l) (ranks-pad k xs)

-- clocks that are 0 keep the order
pad_before : (k : ℕ) (xs ys : List Clock) → length (wholes xs) ≡ length (wholes ys) → Before (key xs) (key ys)
    → Before (key (pad k xs)) (key (pad k ys))
pad_before k xs ys e h =
    let z : List ℕ = replicate k 0 in
    rw (wholes-pad k xs, wholes-pad k ys, ranks-pad k xs, ranks-pad k ys)
    (⊎_elim
    (λ p. before_front (before_front p z z) (zeros k (ranks xs)) (zeros k (ranks ys)))
    (λ (q, r). rw q (before_back (zeros k (wholes ys)) (before_front r z z)))
    (before_split (wholes xs) (wholes ys) e h))

struct_view : (n : ℕ) → Clocks n → (xs : List Clock) → length xs ≡ n → view max_clocks (struct_of xs) ≡ pad (max_clocks - n) xs
struct_view n h xs e = padded_view n h (struct_of xs) (padded_struct n h xs e) ∙ ap (pad (max_clocks - n)) (view_struct n h xs e)

length-wholes : (xs : List Clock) → length (wholes xs) ≡ length xs
length-wholes [] = refl
length-wholes (x ∷ xs) = ap suc (length-wholes xs)

module _ (n M : ℕ) (k : Clocks n) (h : Ceiling M) where
  pub pack_before : (xs ys : List Clock) → lawful n M xs ≡ true → lawful n M ys ≡ true → Before (key xs) (key ys) → pack_clocks xs < pack_clocks ys
  pack_before xs ys t u b =
      let e = lawful-length n M xs t in
      let f = lawful-length n M ys u in
      let p = pad_before (max_clocks - n) xs ys (length-wholes xs ∙ e ∙ sym f ∙ sym (length-wholes ys)) b in
      decimal_before
      (subst (λ a. Before (key a) (key (view max_clocks (struct_of ys)))) (sym (struct_view n k xs e))
      (subst (λ b. Before (key (pad (max_clocks - n) xs)) (key b)) (sym (struct_view n k ys f)) p))
      (digits (struct_of xs) (struct_of ys) (lawful_small n M k h xs t) (lawful_small n M k h ys u)) 0
