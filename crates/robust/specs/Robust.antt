-- Runs of any number of jumps under drift, and the rule on resets, for timed automata.
use Rattle.std.specs.Prelude.{◌≡◌, Bool, true, false, ℕ, ◌*◌, ◌≤◌, ◌<◌, get_or}
use mathlib.Core.List.{List, [], ◌∷◌, Memᴰ}
use Rattle.theory.specs.Lists.{some}
use Rattle.theory.specs.Pointwise.{Each}
use Rattle.theory.specs.Automaton.{Automaton, Edge, reset_values, Run}
use Rattle.theory.specs.Region.{Region}
use Rattle.theory.specs.RegionGraph.{Allowed, Enabled, after, Marked}

-- ---- drift that is harmless for ever

-- No widened run whose drift e/D is below 1/A enters a forbidden location, however many jumps it has, for any N from 1.
pub record RobustlySafe (m : Automaton) (A : ℕ) : Type 0 where
  pub enters_none : (e D N : ℕ) → A * e < D → 0 < N
      → (gs : List Edge) (l : ℕ) (v : List ℕ) (t : ℕ) → Run m N e D gs l v t → m.forbidden l ≡ false

-- ---- drift that does harm, however slight

-- With every drift e/D above 0 some widened run, with waits in N-ths for some N from 1, enters a forbidden location.
pub record Fragile (m : Automaton) : Type 0 where
  pub enters_some : (e D : ℕ) → 0 < e → 0 < D
      → (N : ℕ) × (0 < N) × (gs : List Edge) × (l : ℕ) × (v : List ℕ) × (t : ℕ) × Run m N e D gs l v t × (m.forbidden l ≡ true)

-- ---- which locations drift enters, whatever their kind

-- the location has a marked state
abbrev pub HasMark : Automaton → ℕ → Type 0
HasMark m l = (xs : Region) × Marked m l xs

-- With every drift e/D above 0 some widened run enters it.
pub record Entered (m : Automaton) (l : ℕ) : Type 0 where
  pub enters : (e D : ℕ) → 0 < e → 0 < D → (N : ℕ) × (0 < N) × (gs : List Edge) × (v : List ℕ) × (t : ℕ) × Run m N e D gs l v t

-- No widened run whose drift e/D is below 1/A enters it.
pub record NeverEntered (m : Automaton) (l A : ℕ) : Type 0 where
  pub enters_not : (e D N : ℕ) → A * e < D → 0 < N → (gs : List Edge) (v : List ℕ) (t : ℕ) → Run m N e D gs l v t → ⊥

-- ---- 01: "tested on the drawing alone: a model with a closed walk of edges that leaves some clock unreset is refused". 02: "A closed walk counts from
-- now on only if every edge in it can open alone".

-- "each low is within the stay limit of its from-location, and each clock it doesn't reset has a low within the stay limit of its to-location": one
-- that it resets has 0 there
pub record OpensAlone (m : Automaton) (g : Edge) : Type 0 where
  pub leaves : Each (λ low limit. low ≤ limit) g.lower (m.invariant g.source)
  pub enters : Each (λ low limit. low ≤ limit) (reset_values g.reset g.lower) (m.invariant g.target)

-- Some state, reachable or not, has a jump along the edge, from a region that is allowed to one that is.
abbrev pub JumpsAlong : Automaton → Edge → Type 0
JumpsAlong m g = (xs : Region) × Enabled m g g.source xs × Allowed m g.source xs × Allowed m g.target (after g xs)

-- a walk that counts, of edges from a location to a location
pub data EdgeWalk (m : Automaton) : ℕ → ℕ → List Edge → Type 0 where
  stop : {l : ℕ} → EdgeWalk m l l []
  move : {l k : ℕ} {gs : List Edge} (g : Edge) → Memᴰ g m.edges → g.source ≡ l → OpensAlone m g
      → EdgeWalk m g.target k gs → EdgeWalk m l k (g ∷ gs)

-- the edge resets clock x
abbrev pub resets_clock : ℕ → Edge → Bool
resets_clock x g = get_or g.reset x false

-- "A closed walk has one or more edges (or steps) and ends at its beginning." Each of them resets each clock.
pub record LoopsReset (m : Automaton) : Type 0 where
  pub resets : (x : ℕ) → x < m.clocks → (l : ℕ) (g : Edge) (gs : List Edge) → EdgeWalk m l l (g ∷ gs) → some (resets_clock x) (g ∷ gs) ≡ true
