-- Rounds over the numbers below a bound: what a loop does.
use Rattle.std.specs.Prelude.{ℕ, zero, suc, Bool, true, false, ◌&&◌, ◌||◌, List, [], ◌++◌}

-- f 0, then f 1, and so on: n in all
unfoldable pub each : {A : Type 0} → ℕ → (ℕ → A → A) → A → A
each zero f s = s
each (suc n) f s = f n (each n f s)

-- the test holds somewhere below n
abbrev pub some_below : ℕ → (ℕ → Bool) → Bool
some_below n t = each n (λ i r. t i || r) false

-- the test holds everywhere below n
abbrev pub all_below : ℕ → (ℕ → Bool) → Bool
all_below n t = each n (λ i r. t i && r) true

-- f 0, then f 1, and so on: n lists, one after the other
unfoldable pub gather : ℕ → (ℕ → List ℕ) → List ℕ
gather zero f = []
gather (suc n) f = gather n f ++ f n
