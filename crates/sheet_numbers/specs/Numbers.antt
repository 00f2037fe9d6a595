-- The numbers of a sheet after the first: as bytes spell them, and as they are read, one by one.
use Rattle.std.specs.Prelude.{◌≡◌, Bool, cond, ◌&&◌, ◌||◌, List, [], ◌∷◌, ℕ, zero, suc, ◌+◌, ◌-◌, ◌*◌, ◌≤◌, ◌<◌, length, get_or, leb, eqb, Result, Ok, Err}
use Rattle.limits.specs.declared.refusal.Refusal.{Refusal}
use Rattle.limits.specs.Refusal.{code_of}
use Rattle.limits.specs.Limits.{max_word}
use Rattle.number.specs.Number.{on_number}
use Rattle.evidence_number.specs.Evidence.{read_evidence}
use Rattle.evidence_number.specs.Numbers.{Numbers, got, refused, after}

-- ---- "sheet numbers in order by 1, 2, 11", and 15 just after 2

-- not 11, "sheet number above 2S-1, or not 0 where not allowed"
unfoldable pub number_keeps : Bool → ℕ → ℕ → Bool
number_keeps allowed top v = leb v top && (allowed || eqb v 0)

-- k numbers from an offset on, the first of them that of state i
unfoldable pub numbers_from : (ℕ → Bool) → ℕ → List ℕ → ℕ → ℕ → ℕ → Numbers
numbers_from allowed top bs zero i at = got [] at
numbers_from allowed top bs (suc k) i at =
    on_number (read_evidence bs at)
    (λ v p. cond (number_keeps (allowed i) top v) (after (v ∷ []) (numbers_from allowed top bs k (i + 1) p)) (refused 11))
    refused

-- ---- what the code is lent and answers

-- a flag and a place for each state, whose numbers, "all at most 2S-1", a `Word` holds
pub record SheetRoom (allowed sheet : List ℕ) : Type 0 where
  pub some : 0 < length sheet
  pub fits : 2 * length sheet - 1 ≤ max_word
  pub flags : length allowed ≡ length sheet

-- the states whose flag is 1
abbrev pub flagged : List ℕ → ℕ → Bool
flagged allowed p = eqb (get_or allowed p 0) 1

-- what was read into a slice that now holds l
abbrev pub numbers_of : Result ℕ Refusal → List ℕ → Numbers
numbers_of (Ok e) l = got l e
numbers_of (Err r) l = refused (code_of r)
