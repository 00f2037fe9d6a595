-- What a read that fails leaves.
use Rattle.std.specs.Prelude.{ℕ, ◌≤◌, List, length, take, Option}
use Rattle.std.specs.Io.KnownBytes.{Consumes}

-- known bytes begin with a front of the buffer, and lose it
abbrev pub ConsumesFront : Option (List ℕ) → Option (List ℕ) → List ℕ → Type 0
ConsumesFront old new buf = (n : ℕ) × (n ≤ length buf) × Consumes old new (take n buf)
