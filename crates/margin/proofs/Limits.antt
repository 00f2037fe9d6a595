-- The limits of a location and of an entry, as three numbers, and how many half values are within them.
use Prim.Native.Nat.{ℕ, zero, suc, ◌+◌, ◌*◌, ◌/◌, ◌%◌, ◌^◌, ◌≤◌, min}
use native.Mathlib.Nat.{mul-one, mul-le-mul}
use mathlib.Core.Path.{◌≡◌, refl, sym, ap, ap₂, ◌∙◌}
use mathlib.Core.Bool.{cond}
use mathlib.Core.List.{List, [], ◌∷◌}
use lib.Dec.{eqb, ltb}
use lib.ListN.{take, get_or}
use borrow.Author.Tests.{eq-eqb, ne_eqb}
use Rattle.theory.specs.Below.{tab}
use Rattle.theory.specs.Automaton.{reset_values}
use Rattle.robust.specs.Margin.{half_values, lowest, entry_limits, max_factor, max_values}
use Rattle.region.specs.Limits.{Clocks}
use Rattle.region.specs.View.{mask_bits}
use Rattle.region.proofs.Views.{three}
use Rattle.model.specs.declared.Model.{Model}
use Rattle.model.specs.Model.{slot, source_of, target_of, Lawful}
use Rattle.graph.specs.Plan.{automaton_of, edge_of}
use Rattle.graph.proofs.Masks.{reset_mask}
use Rattle.graph.proofs.States.{clocks_of}
use Rattle.margin.specs.Limits.{stay_limit, entry_limit}

-- ---- tables

-- n of three
tab_three : (f : ℕ → ℕ) (n : ℕ) → Clocks n → take n (f 0 ∷ f 1 ∷ f 2 ∷ []) ≡ tab n f
unfolding tab
tab_three f = three (λ n. take n (f 0 ∷ f 1 ∷ f 2 ∷ []) ≡ tab n f) refl refl refl

lowest-tab : (n : ℕ) (f g : ℕ → ℕ) → lowest (tab n f) (tab n g) ≡ tab n (λ x. min (f x) (g x))
unfolding tab
lowest-tab zero f g = refl
lowest-tab (suc n) f g = ap (λ (l : List ℕ). min (f 0) (g 0) ∷ l) (lowest-tab n (λ x. f (suc x)) (λ x. g (suc x)))

-- the lowest of three limits, 0 where the mask has a bit: clock by clock
reset_lowest : (n r : ℕ) (f g h : ℕ → ℕ)
    → reset_values (mask_bits n r) (lowest (tab n f) (lowest (tab n g) (tab n h)))
    ≡ tab n (λ x. cond (eqb (r / 2 ^ x % 2) 1) 0 (min (f x) (min (g x) (h x))))
reset_lowest n r f g h =
    ap (λ (l : List ℕ). reset_values (mask_bits n r) l) (ap (lowest (tab n f)) (lowest-tab n g h) ∙ lowest-tab n f (λ x. min (g x) (h x)))
    ∙ reset_mask n r (λ x. min (f x) (min (g x) (h x)))

-- ---- the limit of an entry

module _ (m : Model) (e x : ℕ) where
  pub limit_reset : get_or m.reset e 0 / 2 ^ x % 2 ≡ 1 → 0 ≡ entry_limit m e x
  unfolding entry_limit
  limit_reset h = rw (eq-eqb (get_or m.reset e 0 / 2 ^ x % 2) 1 h)

  pub limit_kept : (get_or m.reset e 0 / 2 ^ x % 2 ≡ 1 → ⊥) → (here there low r : ℕ)
      → here ≡ stay_limit m (source_of m e) x → there ≡ stay_limit m (target_of m e) x
      → low ≡ min here there → r ≡ min (get_or m.upper (slot e x) 0) low → r ≡ entry_limit m e x
  unfolding entry_limit
  limit_kept h here there low r p q s t =
      rw (ne_eqb (get_or m.reset e 0 / 2 ^ x % 2) 1 h) (t ∙ ap (min (get_or m.upper (slot e x) 0)) (s ∙ ap₂ min p q))

-- ---- half values

-- the product of three factors, those of clocks that are not counted being 1
pub three_factors : (n a b c x y z : ℕ) → Clocks n
    → x ≡ cond (ltb 0 n) (2 * a + 1) 1 → y ≡ cond (ltb 1 n) (2 * b + 1) 1 → z ≡ cond (ltb 2 n) (2 * c + 1) 1
    → x * (y * z) ≡ half_values (take n (a ∷ b ∷ c ∷ []))
unfolding half_values
three_factors n a b c x y z h p q s = rw (p, q, s) (by n h)
  where
    factors : ℕ → ℕ
    factors n = cond (ltb 0 n) (2 * a + 1) 1 * (cond (ltb 1 n) (2 * b + 1) 1 * cond (ltb 2 n) (2 * c + 1) 1)

    by : (n : ℕ) → Clocks n → factors n ≡ half_values (take n (a ∷ b ∷ c ∷ []))
    by = three (λ n. factors n ≡ half_values (take n (a ∷ b ∷ c ∷ []))) refl refl (rw (mul-one (2 * c + 1)))

pub product_most : {x y z : ℕ} → x ≤ max_factor → y ≤ max_factor → z ≤ max_factor → (y * z ≤ max_factor * max_factor) × (x * (y * z) ≤ max_values)
product_most h i j = let p = mul-le-mul i j in (p, mul-le-mul h p)

module _ (m : Model) (ok : Lawful m) where
  -- the limits f of all clocks, counted as three numbers
  counted : (f : ℕ → ℕ) (a b c r : ℕ) → a ≡ f 0 → b ≡ f 1 → c ≡ f 2 → r ≡ half_values (take m.clocks (a ∷ b ∷ c ∷ []))
      → r ≡ half_values (tab m.clocks f)
  counted f a b c r p q s e = e ∙ rw (p, q, s) (ap half_values (tab_three f m.clocks (clocks_of m ok)))

  pub stay_values_are : (l a b c r : ℕ) → a ≡ stay_limit m l 0 → b ≡ stay_limit m l 1 → c ≡ stay_limit m l 2
      → r ≡ half_values (take m.clocks (a ∷ b ∷ c ∷ [])) → r ≡ half_values ((automaton_of m).invariant l)
  unfolding automaton_of
  stay_values_are l = counted (stay_limit m l)

  pub entry_values_are : (e a b c r : ℕ) → a ≡ entry_limit m e 0 → b ≡ entry_limit m e 1 → c ≡ entry_limit m e 2
      → r ≡ half_values (take m.clocks (a ∷ b ∷ c ∷ [])) → r ≡ half_values (entry_limits (automaton_of m) (edge_of m e))
  unfolding automaton_of entry_limit
  entry_values_are e a b c r p q s t =
      counted (entry_limit m e) a b c r p q s t ∙ ap half_values (sym (reset_lowest m.clocks (get_or m.reset e 0) _ _ _))
