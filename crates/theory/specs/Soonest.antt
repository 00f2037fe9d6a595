-- The least time from the start to a location with perfect clocks (02 (e)), and whether they keep out of the forbidden locations.
use Rattle.std.specs.Prelude.{◌≡◌, Bool, true, false, ◌&&◌, List, ℕ, suc, ◌*◌, ◌≤◌, ◌<◌, eqb}
use Rattle.theory.specs.Below.{any}
use Rattle.theory.specs.Walk.{within, dist}
use Rattle.theory.specs.Automaton.{Automaton, Edge, Run, Exact}
use Rattle.theory.specs.Labels.{LabelledSystem, opens, leads}
use Rattle.theory.specs.StateGraph.{state_count, location_of, labelled_of}

-- ---- what is meant

-- "Some run on whole times takes just that long, and a run on times counted in D-ths of a unit, D any whole number from 1, takes at least D times it."
pub record Soonest (m : Automaton) (l T : ℕ) : Type 0 where
  pub some : (gs : List Edge) × (v : List ℕ) × Exact m gs l v T
  pub least : (D : ℕ) → 0 < D → (gs : List Edge) (v : List ℕ) (t : ℕ) → Run m D 0 1 gs l v t → D * T ≤ t

-- "no run gets there", on whatever times
abbrev pub Never : Automaton → ℕ → Type 0
Never m l = (D : ℕ) → 0 < D → (gs : List Edge) (v : List ℕ) (t : ℕ) → Run m D 0 1 gs l v t → ⊥

-- beyond 02: with perfect clocks no run enters a forbidden location, on whatever times
pub record Clean (m : Automaton) : Type 0 where
  pub enters_none : (D : ℕ) → 0 < D → (gs : List Edge) (l : ℕ) (v : List ℕ) (t : ℕ) → Run m D 0 1 gs l v t → m.forbidden l ≡ false

-- ---- the same on numbered states: jumps take no time; a unit of waiting is two time steps

abbrev pub jump_step : LabelledSystem → ℕ → ℕ → Bool
jump_step P p q = any P.labels (λ e. leads P (suc e) p q)

abbrev pub unit_step : LabelledSystem → ℕ → ℕ → Bool
unit_step P p q = opens P 0 p && leads P 0 (P.next 0 p) q

-- from p to q in t units
pub data Timed (P : LabelledSystem) : ℕ → ℕ → ℕ → Type 0 where
  stop : {p : ℕ} → Timed P p p 0
  jumps : {p q s t : ℕ} → jump_step P p q ≡ true → Timed P q s t → Timed P p s t
  waits : {p q s t : ℕ} → unit_step P p q ≡ true → Timed P q s t → Timed P p s (suc t)

-- ---- what computes it

-- jumps, none or more, and then a unit of waiting
unfoldable pub later : LabelledSystem → ℕ → ℕ → Bool
later P p q = any P.system.size (λ x. within P.system.size (jump_step P) (λ y. eqb y x) P.system.size p && unit_step P x q)

-- the fewest units from the start into a goal, or the number of states
unfoldable pub soonest : LabelledSystem → (ℕ → Bool) → ℕ
soonest P goal = dist P.system.size (later P) (λ p. within P.system.size (jump_step P) goal P.system.size p) P.system.start

-- the least time to location l of an automaton with so many locations, or the number of its states
unfoldable pub time_to : Automaton → ℕ → ℕ → ℕ
time_to m locations l = soonest (labelled_of m locations) (λ p. eqb (location_of m p) l)

-- no forbidden location has a time
abbrev pub NoTime : Automaton → ℕ → Type 0
NoTime m locations = (l : ℕ) → l < locations → m.forbidden l ≡ true → state_count m locations ≤ time_to m locations l
