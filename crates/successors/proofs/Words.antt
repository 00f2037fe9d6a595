-- An edge in one number: its parts are the edge's limits, mask and target, and its guard is the edge's.
use Prim.Native.Nat.{ℕ, ◌+◌, ◌*◌, ◌/◌, ◌%◌, ◌≤◌, ◌<◌, ◌^◌}
use native.Mathlib.Nat.{lt_of_lt_of_le}
use native.Mathlib.Omega.{arith}
use mathlib.Core.Path.{◌≡◌, refl, ap, ap₂, ◌∙◌}
use mathlib.Core.Bool.{Bool, true, false, cond, ◌&&◌}
use mathlib.Core.List.{[], ◌∷◌}
use lib.ListN.{get_or}
use lib.Dec.{ltb}
use Rattle.theory.specs.Region.{fits, attains}
use Rattle.theory.specs.RegionGraph.{guard_holds}
use Rattle.limits.specs.Limits.{max_clocks, digit_base, two_digits, three_digits}
use Rattle.region.specs.View.{view, Known}
use Rattle.region.specs.declared.Region.{Region}
use Rattle.region.proofs.Views.{three}
use Rattle.model.specs.declared.Model.{Model}
use Rattle.model.specs.Model.{Lawful, target_of}
use Rattle.graph.specs.Plan.{edge_of}
use Rattle.graph.proofs.States.{clocks_of, guard_opens, guard_shuts}
use Rattle.successors.specs.Words.{digits, digit_list, word_bound, low_part, high_part, mask_part, target_part, low_at, edge_word}

digits_below : {a b c : ℕ} → a < digit_base → b < digit_base → c < digit_base → digits a b c < three_digits
digits_below i j k = omega arith

digits_back : {a b c : ℕ} → a < digit_base → b < digit_base → c < digit_base → digit_list (digits a b c) ≡ a ∷ b ∷ c ∷ []
digits_back {a} {b} {c} i j k =
    let x : digits a b c / two_digits ≡ a = omega arith in
    let y : digits a b c / digit_base % digit_base ≡ b = omega arith in
    let z : digits a b c % digit_base ≡ c = omega arith in
    rw (x, y, z)

low_back : (a b c : ℕ) → b < three_digits → c < two_digits → low_part ((a * three_digits + b) * two_digits + c) ≡ a
low_back a b c j k = omega arith

high_back : (a b c : ℕ) → b < three_digits → c < two_digits → high_part ((a * three_digits + b) * two_digits + c) ≡ b
high_back a b c j k = omega arith

mask_back : (a b c : ℕ) → b < digit_base → c < digit_base → mask_part (a * two_digits + digits 0 b c) ≡ b
mask_back a b c j k = omega arith

target_back : (a b c : ℕ) → b < digit_base → c < digit_base → target_part (a * two_digits + digits 0 b c) ≡ c
target_back a b c j k = omega arith

module _ (m : Model) (ok : Lawful m) where
  pub high_below : (i : ℕ) → get_or m.upper i 0 < digit_base
  high_below i = omega (arith, ok.ranges.upper i, ok.ceiling.1)

  pub low_below : (i : ℕ) → get_or m.lower i 0 < digit_base
  low_below i = omega (arith, ok.ranges.lower i, high_below i)

  pub counted_below : (n i : ℕ) → low_at m n i < digit_base
  counted_below n i = by (ltb m.clocks n)
    where
      by : (b : Bool) → cond b 0 (get_or m.lower i 0) < digit_base
      by true = omega arith
      by false = low_below i

  pub mask_below : (e : ℕ) → get_or m.reset e 0 < digit_base
  mask_below e =
      lt_of_lt_of_le (ok.ranges.reset e)
      (three (λ n. 2 ^ n ≤ digit_base) (omega arith) (omega arith) (omega arith) m.clocks (clocks_of m ok))

  pub target_below : (e : ℕ) → target_of m e < digit_base
  target_below e = omega (arith, ok.ranges.target e, ok.locations.1)

  low : ℕ → ℕ
  low e = digits (get_or m.lower (max_clocks * e) 0) (low_at m 2 (max_clocks * e + 1)) (low_at m 3 (max_clocks * e + 2))

  high : ℕ → ℕ
  high e = digits (get_or m.upper (max_clocks * e) 0) (get_or m.upper (max_clocks * e + 1) 0) (get_or m.upper (max_clocks * e + 2) 0)

  ends : ℕ → ℕ
  ends e = digits 0 (get_or m.reset e 0) (target_of m e)

  module _ (e : ℕ) {w : ℕ} (r : w ≡ edge_word m e) where
    word_is : w ≡ (low e * three_digits + high e) * two_digits + ends e
    unfolding edge_word low high ends
    word_is = r

    low_is : low e < three_digits
    unfolding low
    low_is = digits_below (low_below _) (counted_below 2 _) (counted_below 3 _)

    high_is : high e < three_digits
    unfolding high
    high_is = digits_below (high_below _) (high_below _) (high_below _)

    ends_is : ends e < two_digits
    unfolding ends
    ends_is = omega (arith, mask_below e, target_below e)

    pub word_below : w < word_bound
    word_below = omega (arith, word_is, low_is, high_is, ends_is)

    pub mask_is : mask_part w ≡ get_or m.reset e 0
    unfolding ends
    mask_is = ap mask_part word_is ∙ mask_back (low e * three_digits + high e) (get_or m.reset e 0) (target_of m e) (mask_below e) (target_below e)

    pub target_is : target_part w ≡ target_of m e
    unfolding ends
    target_is = ap target_part word_is ∙ target_back (low e * three_digits + high e) (get_or m.reset e 0) (target_of m e) (mask_below e) (target_below e)

    low_list : digit_list (low_part w)
        ≡ get_or m.lower (max_clocks * e) 0 ∷ low_at m 2 (max_clocks * e + 1) ∷ low_at m 3 (max_clocks * e + 2) ∷ []
    unfolding low
    low_list =
        ap digit_list (ap low_part word_is ∙ low_back (low e) (high e) (ends e) high_is ends_is)
        ∙ digits_back (low_below _) (counted_below 2 _) (counted_below 3 _)

    high_list : digit_list (high_part w)
        ≡ get_or m.upper (max_clocks * e) 0 ∷ get_or m.upper (max_clocks * e + 1) 0 ∷ get_or m.upper (max_clocks * e + 2) 0 ∷ []
    unfolding high
    high_list =
        ap digit_list (ap high_part word_is ∙ high_back (low e) (high e) (ends e) high_is ends_is)
        ∙ digits_back (high_below _) (high_below _) (high_below _)

    pub guard_is : {g : Region} → Known m.clocks m.ceiling g
        → (attains (view max_clocks g) (digit_list (low_part w)) && fits (view max_clocks g) (digit_list (high_part w)))
        ≡ guard_holds (edge_of m e) (view m.clocks g)
    guard_is {g} k = ap₂ (λ x y. attains (view max_clocks g) x && fits (view max_clocks g) y) low_list high_list ∙ by _ refl
      where
        by : (t : Bool)
            → t ≡ attains (view max_clocks g) (get_or m.lower (max_clocks * e) 0 ∷ low_at m 2 (max_clocks * e + 1) ∷ low_at m 3 (max_clocks * e + 2) ∷ [])
            → (t && fits (view max_clocks g)
            (get_or m.upper (max_clocks * e) 0 ∷ get_or m.upper (max_clocks * e + 1) 0 ∷ get_or m.upper (max_clocks * e + 2) 0 ∷ []))
            ≡ guard_holds (edge_of m e) (view m.clocks g)
        by true r = guard_opens m ok g k e _ _ refl refl true r refl
        by false r = guard_shuts m ok g k e _ _ refl refl false r refl
