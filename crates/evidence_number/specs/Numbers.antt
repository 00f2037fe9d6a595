-- Some numbers of evidence, read one after the other.
use Rattle.std.specs.Prelude.{List, ◌++◌, ℕ}

-- the numbers and the offset after them, or the refusal of one
pub data Numbers : Type 0 where
  got : List ℕ → ℕ → Numbers
  refused : ℕ → Numbers

-- go on with the numbers and the offset after them, or stop with the refusal
abbrev pub on_numbers : {A : Type 0} → Numbers → (List ℕ → ℕ → A) → (ℕ → A) → A
on_numbers (got vs to) go stop = go vs to
on_numbers (refused r) go stop = stop r

-- the same numbers after others
abbrev pub after : List ℕ → Numbers → Numbers
after us (got vs to) = got (us ++ vs) to
after us (refused r) = refused r
