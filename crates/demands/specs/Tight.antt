-- A plan for which the bound (K+1)e < D is tight. Clock x may not pass 0 in locations 0 to 6, each edge but the last resets it, and the last one leads
-- to the forbidden location 7 once clock y is 1. Perfect clocks never wait; a hair at each of the seven jumps and at the start is enough.
use Rattle.std.specs.Prelude.{ℕ, List, [], ◌∷◌}

-- its bytes
unfoldable pub stairs : List ℕ
stairs =
    1 ∷ 2 ∷ 1 ∷ 8 ∷ 7 ∷ 0
    ∷ 0 ∷ 1 ∷ 0
    ∷ 0 ∷ 1 ∷ 0
    ∷ 0 ∷ 1 ∷ 0
    ∷ 0 ∷ 1 ∷ 0
    ∷ 0 ∷ 1 ∷ 0
    ∷ 0 ∷ 1 ∷ 0
    ∷ 0 ∷ 1 ∷ 0
    ∷ 1 ∷ 0 ∷ 0
    ∷ 0 ∷ 1 ∷ 1 ∷ 0 ∷ 0 ∷ 0 ∷ 1
    ∷ 1 ∷ 2 ∷ 1 ∷ 0 ∷ 0 ∷ 0 ∷ 1
    ∷ 2 ∷ 3 ∷ 1 ∷ 0 ∷ 0 ∷ 0 ∷ 1
    ∷ 3 ∷ 4 ∷ 1 ∷ 0 ∷ 0 ∷ 0 ∷ 1
    ∷ 4 ∷ 5 ∷ 1 ∷ 0 ∷ 0 ∷ 0 ∷ 1
    ∷ 5 ∷ 6 ∷ 1 ∷ 0 ∷ 0 ∷ 0 ∷ 1
    ∷ 6 ∷ 7 ∷ 0 ∷ 0 ∷ 0 ∷ 1 ∷ 1 ∷ []

-- a sheet that passes for it, a line for each location
unfoldable pub stairs_sheet : List ℕ
stairs_sheet =
    1
    ∷ 13 ∷ 12 ∷ 0 ∷ 0 ∷ 0 ∷ 0 ∷ 14 ∷ 0 ∷ 0 ∷ 0 ∷ 0
    ∷ 11 ∷ 10 ∷ 0 ∷ 0 ∷ 0 ∷ 0 ∷ 12 ∷ 0 ∷ 0 ∷ 0 ∷ 0
    ∷ 9 ∷ 8 ∷ 0 ∷ 0 ∷ 0 ∷ 0 ∷ 10 ∷ 0 ∷ 0 ∷ 0 ∷ 0
    ∷ 7 ∷ 6 ∷ 0 ∷ 0 ∷ 0 ∷ 0 ∷ 8 ∷ 0 ∷ 0 ∷ 0 ∷ 0
    ∷ 5 ∷ 4 ∷ 0 ∷ 0 ∷ 0 ∷ 0 ∷ 6 ∷ 0 ∷ 0 ∷ 0 ∷ 0
    ∷ 3 ∷ 2 ∷ 0 ∷ 0 ∷ 0 ∷ 0 ∷ 4 ∷ 0 ∷ 0 ∷ 0 ∷ 0
    ∷ 1 ∷ 0 ∷ 0 ∷ 0 ∷ 0 ∷ 0 ∷ 2 ∷ 0 ∷ 0 ∷ 0 ∷ 0
    ∷ 4 ∷ 4 ∷ 4 ∷ 2 ∷ 2 ∷ 2 ∷ 0 ∷ 0 ∷ 0 ∷ 0 ∷ 0 ∷ []
