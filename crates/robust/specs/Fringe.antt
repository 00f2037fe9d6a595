-- How slight a drift is harmless for ever, computed from a sheet: below 1 / sheet_margin, or below 1 / height_margin.
use Rattle.std.specs.Prelude.{◌≡◌, Bool, true, false, not, cond, ◌&&◌, List, ℕ, zero, suc, ◌+◌, ◌*◌, ◌≤◌, ◌<◌, max}
use Rattle.theory.specs.Below.{any, top}
use Rattle.theory.specs.System.{System}
use Rattle.theory.specs.Labels.{LabelledSystem, Leads, label_kind}
use Rattle.theory.specs.Sheet.{in_of, height_of}
use Rattle.theory.specs.Automaton.{Automaton}
use Rattle.theory.specs.StateGraph.{state_count, labelled_of}

-- ---- what is meant

-- The fringe of a sheet. 01: "a state that is out and shares a corner with an in-state of its location"
pub record Fringe (Y : System) (is_in : ℕ → Bool) (q : ℕ) : Type 0 where
  pub out : is_in q ≡ false
  pub beside : ℕ
  pub beside_in : is_in beside ≡ true
  pub near : Y.near beside q ≡ true

-- A walk of time and jump steps through the fringe, from p, with k jumps. Label 0 is time, label e + 1 the jump along the edge e.
pub data FringeWalk (P : LabelledSystem) (is_in : ℕ → Bool) : ℕ → ℕ → Type 0 where
  stop : {p : ℕ} → Fringe P.system is_in p → FringeWalk P is_in p 0
  rest : {p q k : ℕ} → Fringe P.system is_in p → Leads P 0 p q → FringeWalk P is_in q k → FringeWalk P is_in p k
  take : {p q k : ℕ} (e : ℕ) → Fringe P.system is_in p → Leads P (suc e) p q → FringeWalk P is_in q k → FringeWalk P is_in p (suc k)

-- c is one more than the most jumps of such a walk, and 0 where there is none.
pub data IsFringeEntries (P : LabelledSystem) (is_in : ℕ → Bool) : ℕ → Type 0 where
  none : ((p : ℕ) → Fringe P.system is_in p → ⊥) → IsFringeEntries P is_in 0
  most : {p k : ℕ} → FringeWalk P is_in p k → ((q j : ℕ) → FringeWalk P is_in q j → j ≤ k) → IsFringeEntries P is_in (suc k)

-- What shows that c is enough: ranks of the fringe that no time step raises, that each jump lowers, and that are below c.
pub record Ranks (P : LabelledSystem) (is_in : ℕ → Bool) (rank : ℕ → ℕ) (c : ℕ) : Type 0 where
  pub time : (p q : ℕ) → Fringe P.system is_in p → Fringe P.system is_in q → Leads P 0 p q → rank q ≤ rank p
  pub jump : (e p q : ℕ) → Fringe P.system is_in p → Fringe P.system is_in q → Leads P (suc e) p q → rank q < rank p
  pub few : (p : ℕ) → p < P.system.size → Fringe P.system is_in p → rank p < c

-- ---- what computes it

-- `Fringe`
unfoldable pub fringe : System → (ℕ → Bool) → ℕ → Bool
fringe Y is_in q = not (is_in q) && any Y.size (λ p. is_in p && Y.near p q)

-- the most jumps of a walk through the fringe from p, of at most so many steps
unfoldable pub jumps_from : LabelledSystem → (ℕ → Bool) → ℕ → ℕ → ℕ
jumps_from P is_in zero p = 0
jumps_from P is_in (suc steps) p =
    top P.labels (λ x. let q = P.next x p in cond (fringe P.system is_in q) (label_kind x + jumps_from P is_in steps q) 0)

-- `IsFringeEntries`: in a sheet that passes no walk through the fringe has `size` steps
unfoldable pub fringe_entries : LabelledSystem → (ℕ → Bool) → ℕ
fringe_entries P is_in = top P.system.size (λ p. cond (fringe P.system is_in p) (suc (jumps_from P is_in P.system.size p)) 0)

-- ---- the margins of a plan by a sheet, which is given by its numbers after the first

-- max(1, 2c): two windows of c jumps, or of one jump
abbrev pub span : ℕ → ℕ
span c = max 1 (2 * c)

-- A = max(1, 2c) + n, where n is the number of clocks
unfoldable pub sheet_margin : Automaton → ℕ → List ℕ → ℕ
sheet_margin m locations l = span (fringe_entries (labelled_of m locations) (in_of l)) + m.clocks

-- A = 2(h+1) + n, where h is the greatest height; it is no less
unfoldable pub height_margin : Automaton → ℕ → List ℕ → ℕ
height_margin m locations l = 2 * suc (top (state_count m locations) (height_of l)) + m.clocks
