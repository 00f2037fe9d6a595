-- The graph of two lists as a system, over which the state of the pass is told.
use Rattle.std.specs.Prelude.{Bool, false, ◌&&◌, List, ℕ, suc, get_or, leb, ltb, eqb}
use Rattle.theory.specs.Below.{any}
use Rattle.theory.specs.System.{System}

-- q is a successor of p: `Adjacent` as a test
unfoldable pub adjacent : List ℕ → List ℕ → ℕ → ℕ → Bool
adjacent first targets p q = any (get_or first (suc p) 0) (λ i. leb (get_or first p 0) i && eqb (get_or targets i 0) q)

-- the successors of the nodes below n as time and jump steps; there is nothing else in it
unfoldable pub graph_of : List ℕ → List ℕ → ℕ → System
graph_of first targets n =
    record {
      size = n;
      start = 0;
      allowed = λ p. ltb p n;
      forbidden = λ p. false;
      flow = λ p q. ltb p n && adjacent first targets p q;
      face = λ p q. false;
      near = λ p q. false;
    }
