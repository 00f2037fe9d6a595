-- What a method leaves in a queue.
use Rattle.std.specs.Prelude.{◌≡◌, ℕ}
use Rattle.search.specs.declared.reach.Reached.{Reached}
use Rattle.search.specs.Queue.{Queued, TakesAll}

-- it holds the slices that it held
pub record SameQueue (old new : Reached) : Type 0 where
  pub level : new.level.ghost_name ≡ old.level.ghost_name
  pub queue : new.queue.ghost_name ≡ old.queue.ghost_name

-- its queue lists the states that are reached
abbrev pub InOrder : Reached → Type 0
InOrder r = Queued r.level.now r.queue.now r.end

-- all states of T that were not reached are taken in, and no others
abbrev pub TakesIn : ℕ → (ℕ → Type 0) → Reached → Reached → Type 0
TakesIn x T old new = TakesAll x T old.level.now new.level.now old.queue.now new.queue.now old.end new.end
