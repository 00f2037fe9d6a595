-- Up to three numbers of a trail as the code reads them.
use Rattle.std.specs.Prelude.{ℕ, get_or, Result, Ok, Err}
use Rattle.limits.specs.declared.refusal.Refusal.{Refusal}
use Rattle.limits.specs.Refusal.{code_of}
use Rattle.evidence_number.specs.Numbers as list

-- the numbers and the offset after them, or the number of the refusal
pub data Three : Type 0 where
  Numbers : ℕ → ℕ → ℕ → ℕ → Three
  Refused : ℕ → Three

-- what the code reads, its refusal by number
abbrev pub numbered_three : Result (ℕ × ℕ × ℕ × ℕ) Refusal → Three
numbered_three (Ok (a, b, c, p)) = Numbers a b c p
numbered_three (Err r) = Refused (code_of r)

-- 0 for those that are not there
abbrev pub three_of : list.Numbers → Three
three_of (list.got vs p) = Numbers (get_or vs 0 0) (get_or vs 1 0) (get_or vs 2 0) p
three_of (list.refused r) = Refused r

abbrev pub on_three : {A : Type 0} → Three → (ℕ → ℕ → ℕ → ℕ → A) → (ℕ → A) → A
on_three (Numbers a b c p) go stop = go a b c p
on_three (Refused r) go stop = stop r
