-- An automaton at which the bound (K + 1) * e < D is sharp, for every K from 1. Clock x, the first, may not pass 0 in location 0; clock y runs on.
-- One edge resets x, the other leads to the forbidden location 1 once y is 1. Perfect clocks never get there.
use Rattle.std.specs.Prelude.{List, [], ◌∷◌, Bool, true, false, ℕ, zero, suc}
use Rattle.theory.specs.Automaton.{Edge, Automaton}

abbrev pub again : Edge
again = record { source = 0; target = 0; reset = true ∷ false ∷ []; lower = 0 ∷ 0 ∷ []; upper = 0 ∷ 1 ∷ [] }

abbrev pub leave : Edge
leave = record { source = 0; target = 1; reset = false ∷ false ∷ []; lower = 0 ∷ 1 ∷ []; upper = 0 ∷ 1 ∷ [] }

abbrev pub limits : ℕ → List ℕ
limits zero = 0 ∷ 1 ∷ []
limits (suc l) = 1 ∷ 1 ∷ []

abbrev pub barred : ℕ → Bool
barred zero = false
barred (suc l) = true

abbrev pub ladder : Automaton
ladder = record { clocks = 2; ceiling = 1; start = 0; invariant = limits; forbidden = barred; edges = again ∷ leave ∷ [] }
