-- The four scratch slices: how long they are lent, what an operation makes of them, and what is left.
use Rattle.std.specs.Prelude.{◌≡◌, cond, List, [], ◌∷◌, ◌++◌, ℕ, eqb, length, replicate, drop}
use Rattle.call.specs.Call.{states_of, refusal}

-- the lengths of the four slices
abbrev pub lengths : List ℕ → List ℕ → List ℕ → List ℕ → List ℕ
lengths a b c d = length a ∷ length b ∷ length c ∷ length d ∷ []

-- slices of just s numbers, as the inner functions get them
pub record Scratch (s : ℕ) (a b c d : List ℕ) : Type 0 where
  pub first : length a ≡ s
  pub second : length b ≡ s
  pub third : length c ≡ s
  pub fourth : length d ≡ s

-- at zero, by their lengths
pub record Cleared (i j k l : ℕ) (a b c d : List ℕ) : Type 0 where
  pub first : a ≡ replicate i 0
  pub second : b ≡ replicate j 0
  pub third : c ≡ replicate k 0
  pub fourth : d ≡ replicate l 0

-- all of just s numbers
abbrev pub Zeroed : ℕ → List ℕ → List ℕ → List ℕ → List ℕ → Type 0
Zeroed s = Cleared s s s s

-- the first s at zero, the rest untouched
abbrev pub cleared : ℕ → List ℕ → List ℕ
cleared s xs = replicate s 0 ++ drop s xs

-- "A call past number 8 leaves their first S at zero and the rest untouched; earlier, untouched": what is left of a slice
unfoldable pub left : List ℕ → List ℕ → List ℕ → List ℕ
left bytes lent xs = cond (eqb (refusal bytes lent) 0) (cleared (states_of bytes) xs) xs

-- and of all four
pub record ScratchLeft (bytes a b c d a' b' c' d' : List ℕ) : Type 0 where
  pub first : a' ≡ left bytes (lengths a b c d) a
  pub second : b' ≡ left bytes (lengths a b c d) b
  pub third : c' ≡ left bytes (lengths a b c d) c
  pub fourth : d' ≡ left bytes (lengths a b c d) d
