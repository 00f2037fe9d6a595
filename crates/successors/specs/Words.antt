-- An edge in one number: digits for its limits from below, its limits from above, its reset mask and its target.
use Rattle.std.specs.Prelude.{ℕ, ◌+◌, ◌*◌, ◌/◌, ◌%◌, ◌≤◌, ◌<◌, ◌≡◌, cond, List, [], ◌∷◌, length, get_or, ltb}
use Rattle.model.specs.declared.Model.{Model}
use Rattle.model.specs.Model.{target_of}
use Rattle.limits.specs.Limits.{max_clocks, digit_base, two_digits, three_digits}

abbrev pub digits : ℕ → ℕ → ℕ → ℕ
digits a b c = (a * digit_base + b) * digit_base + c

abbrev pub digit_list : ℕ → List ℕ
digit_list x = x / two_digits ∷ x / digit_base % digit_base ∷ x % digit_base ∷ []

abbrev pub word_bound : ℕ
word_bound = three_digits * three_digits * two_digits

-- ---- the parts of a word

abbrev pub low_part : ℕ → ℕ
low_part w = w / (three_digits * two_digits)

abbrev pub high_part : ℕ → ℕ
high_part w = w / two_digits % three_digits

abbrev pub mask_part : ℕ → ℕ
mask_part w = w / digit_base % digit_base

abbrev pub target_part : ℕ → ℕ
target_part w = w % digit_base

-- ---- the word of an edge

-- the limit from below at place i, where it counts from n clocks on
abbrev pub low_at : Model → ℕ → ℕ → ℕ
low_at m n i = cond (ltb m.clocks n) 0 (get_or m.lower i 0)

unfoldable pub edge_word : Model → ℕ → ℕ
edge_word m e =
    (digits (get_or m.lower (max_clocks * e) 0) (low_at m 2 (max_clocks * e + 1)) (low_at m 3 (max_clocks * e + 2)) * three_digits
    + digits (get_or m.upper (max_clocks * e) 0) (get_or m.upper (max_clocks * e + 1) 0) (get_or m.upper (max_clocks * e + 2) 0)) * two_digits
    + digits 0 (get_or m.reset e 0) (target_of m e)

-- the words of the edges below n
pub record WordsBelow (m : Model) (n : ℕ) (words : List ℕ) : Type 0 where
  pub room : m.edges ≤ length words
  pub are : (e : ℕ) → e < n → get_or words e 0 ≡ edge_word m e

abbrev pub EdgeWords : Model → List ℕ → Type 0
EdgeWords m = WordsBelow m m.edges
