-- The lines that programs write. 10 ends a line.
use Rattle.std.specs.Prelude.{◌≡◌, ℕ, List, [], ◌∷◌, ◌++◌, codes, Option, Result, MatchResult}
use Rattle.std.specs.Fmt.{decimal}
use Rattle.std.specs.Io.KnownBytes.{Appends}

-- a word and a number
abbrev pub word_text : List ℕ → ℕ → List ℕ
word_text word n = word ++ decimal n

-- a line of both
abbrev pub line_text : List ℕ → ℕ → List ℕ
line_text word n = word ++ decimal n ++ 10 ∷ []

-- 01: "`refused` and its number"
abbrev pub refusal_text : ℕ → List ℕ
refusal_text r = line_text (codes "refused ") r

-- known bytes only grow
pub record Grows (old new : Option (List ℕ)) : Type 0 where
  pub more : List ℕ
  pub appended : Appends old new more

-- known bytes grow by a front of bs
abbrev pub AppendsFront : Option (List ℕ) → Option (List ℕ) → List ℕ → Type 0
AppendsFront old new bs = (front : List ℕ) × (rest : List ℕ) × (bs ≡ front ++ rest) × Appends old new front

-- known bytes grow by bs, or, where a write fails, by a front of it
abbrev pub Writes : {T E : Type 0} → Option (List ℕ) → Option (List ℕ) → Result T E → List ℕ → Type 0
Writes old new r bs = MatchResult r (λ _. Appends old new bs) (λ _. AppendsFront old new bs)
