-- Timed automata with closed limits, over any number of clocks, and their widened runs (01, "A widened run").
use Rattle.std.specs.Prelude.{◌≡◌, Bool, true, false, ℕ, ◌+◌, ◌*◌, ◌≤◌, ◌<◌, length, replicate}
use mathlib.Core.List.{List, [], ◌∷◌, Memᴰ}
use Rattle.theory.specs.Pointwise.{Each}

-- 01's edge: from, to, reset mask, and for each clock low and high (its guard)
pub record Edge : Type 0 where
  pub source : ℕ
  pub target : ℕ
  pub reset : List Bool
  pub lower : List ℕ
  pub upper : List ℕ

-- 01's plan. `invariant` gives a location's stay limits, one for each clock, the ceiling where the plan names none.
pub record Automaton : Type 0 where
  pub clocks : ℕ
  pub ceiling : ℕ
  pub start : ℕ
  pub invariant : ℕ → List ℕ
  pub forbidden : ℕ → Bool
  pub edges : List Edge

-- no stay limit is above the ceiling, and there is one for each clock
pub record Capped (m : Automaton) : Type 0 where
  pub limits : (l : ℕ) → Each (λ x c. x ≤ c) (m.invariant l) (replicate m.clocks m.ceiling)

-- each edge has a reset, a low and a high for each clock
pub record Shaped (m : Automaton) : Type 0 where
  pub reset : (g : Edge) → Memᴰ g m.edges → length g.reset ≡ m.clocks
  pub lower : (g : Edge) → Memᴰ g m.edges → length g.lower ≡ m.clocks
  pub upper : (g : Edge) → Memᴰ g m.edges → length g.upper ≡ m.clocks

-- ---- limits that give way

-- "highs and stay limits (the ceiling too) upward": clock values, in N-ths of a unit, are at most the limits widened by e/D
abbrev pub Upto : ℕ → ℕ → ℕ → List ℕ → List ℕ → Type 0
Upto N e D = Each (λ x c. x * D ≤ (c * D + e) * N)

-- "lows give way downward by e/D"
abbrev pub AtLeast : ℕ → ℕ → ℕ → List ℕ → List ℕ → Type 0
AtLeast N e D = Each (λ x c. c * D * N ≤ x * D + e * N)

-- ---- waits and jumps on clock values

-- a wait is added to all clocks
abbrev pub elapse : ℕ → List ℕ → List ℕ
elapse d [] = []
elapse d (x ∷ v) = (x + d) ∷ elapse d v

-- a jump sets the clocks of its mask to 0 (a mask that is too short resets no further clock)
abbrev pub reset_values : List Bool → List ℕ → List ℕ
reset_values bs [] = []
reset_values [] (x ∷ v) = x ∷ v
reset_values (true ∷ bs) (x ∷ v) = 0 ∷ reset_values bs v
reset_values (false ∷ bs) (x ∷ v) = x ∷ reset_values bs v

-- "A jump takes an edge from the present location whose lows and highs hold, sets its reset clocks to 0 and enters its to-location. ...
-- A stay limit is held on entry and at the end of each wait." The values v are those at the end of the wait in location l.
pub record Opens (m : Automaton) (N e D : ℕ) (g : Edge) (l : ℕ) (v : List ℕ) : Type 0 where
  pub drawn : Memᴰ g m.edges
  pub here : g.source ≡ l
  pub stays : Upto N e D v (m.invariant l)
  pub low : AtLeast N e D v g.lower
  pub high : Upto N e D v g.upper
  pub enters : Upto N e D (reset_values g.reset v) (m.invariant g.target)

-- A widened run, with waits in N-ths of a unit, that has just entered location l with clock values v (in N-ths), along the edges gs
-- (the last one first), t N-ths after the start. "The start being an entry", its stay limits are held too.
pub data Run (m : Automaton) (N e D : ℕ) : List Edge → ℕ → List ℕ → ℕ → Type 0 where
  begin : Upto N e D (replicate m.clocks 0) (m.invariant m.start) → Run m N e D [] m.start (replicate m.clocks 0) 0
  step : {gs : List Edge} {l t : ℕ} {v : List ℕ} → Run m N e D gs l v t → (d : ℕ) (g : Edge) → Opens m N e D g l (elapse d v)
      → Run m N e D (g ∷ gs) g.target (reset_values g.reset (elapse d v)) (t + d)

-- a run with perfect clocks, on whole times
abbrev pub Exact : Automaton → List Edge → ℕ → List ℕ → ℕ → Type 0
Exact m = Run m 1 0 1

-- Drift of e/D of a unit is slight for K jumps. These have K + 1 moments: the start is one too.
abbrev pub Slight : ℕ → ℕ → ℕ → Type 0
Slight K e D = (K + 1) * e < D

-- No widened run of at most K jumps with (K+1)e < D enters a forbidden location, for any K, e, D and any N from 1: what a passing sheet is to cover.
pub record Steady (m : Automaton) : Type 0 where
  pub enters_none : (K e D N : ℕ) → Slight K e D → 0 < N
      → (gs : List Edge) (l : ℕ) (v : List ℕ) (t : ℕ) → length gs ≤ K → Run m N e D gs l v t → m.forbidden l ≡ false

-- Two plans with the same clocks, start and edges, and the same kinds and stay limits at each of their locations, 0 to locations - 1: no run tells them apart.
pub record Alike (m k : Automaton) (locations : ℕ) : Type 0 where
  pub clocks : m.clocks ≡ k.clocks
  pub start : m.start ≡ k.start
  pub edges : m.edges ≡ k.edges
  pub limits : (l : ℕ) → l < locations → m.invariant l ≡ k.invariant l
  pub kinds : (l : ℕ) → l < locations → m.forbidden l ≡ k.forbidden l
