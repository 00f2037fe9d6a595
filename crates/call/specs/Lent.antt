-- The four scratch slices in one struct.
use Rattle.std.specs.Prelude.{◌≡◌, List, ℕ, length}
use Rattle.call.specs.declared.lent.Scratch as lent
use Rattle.call.specs.Scratch.{lengths, Scratch, Cleared, ScratchLeft}

abbrev pub lengths_of : lent.Scratch → List ℕ
lengths_of s = lengths s.first.now s.second.now s.third.now s.fourth.now

-- of just so many numbers each
abbrev pub Just : ℕ → lent.Scratch → Type 0
Just n s = Scratch n s.first.now s.second.now s.third.now s.fourth.now

-- at zero, as long as before
abbrev pub AllZero : lent.Scratch → lent.Scratch → Type 0
AllZero old new =
    Cleared (length old.first.now) (length old.second.now) (length old.third.now) (length old.fourth.now)
    new.first.now new.second.now new.third.now new.fourth.now

-- what a call leaves
abbrev pub LeftBy : List ℕ → lent.Scratch → lent.Scratch → Type 0
LeftBy bytes old new =
    ScratchLeft bytes old.first.now old.second.now old.third.now old.fourth.now
    new.first.now new.second.now new.third.now new.fourth.now

-- the struct still holds the slices that were put into it
pub record SameLoans (old new : lent.Scratch) : Type 0 where
  pub first : new.first.ghost_name ≡ old.first.ghost_name
  pub second : new.second.ghost_name ≡ old.second.ghost_name
  pub third : new.third.ghost_name ≡ old.third.ghost_name
  pub fourth : new.fourth.ghost_name ≡ old.fourth.ghost_name
