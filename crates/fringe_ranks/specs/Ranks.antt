-- What the ranks of a fringe are found from, and what is found on the way.
use Rattle.std.specs.Prelude.{◌≡◌, true, cond, List, ◌⊎◌, ℕ, suc, ◌+◌, ◌-◌, ◌≤◌, ◌<◌, max, eqb, length, get_or, set}
use Rattle.limits.specs.Limits.{max_word}
use Rattle.theory.specs.Below.{top, tab}
use Rattle.theory.specs.Sheet.{in_of, height_of, sheet_test}
use Rattle.model.specs.declared.Model.{Model}
use Rattle.model.specs.Model.{Lawful}
use Rattle.graph.specs.Plan.{system_of_model, labelled_of_model}
use Rattle.graph.specs.States.{Listed, states}
use Rattle.successors.specs.Flow.{FlowLists}
use Rattle.robust.specs.Fringe.{fringe, jumps_from}
use Rattle.fringe.specs.Flags.{FringeFlags}

-- the regions and the time and jump steps of a model, a sheet that passes, and the flags of its fringe
pub record RanksAsked (m : Model) (table first targets sheet flags : List ℕ) : Type 0 where
  pub lawful : Lawful m
  pub listed : Listed m table
  pub flow : FlowLists m first targets
  pub passes : sheet_test (system_of_model m) sheet ≡ true
  pub fringe : FringeFlags m sheet flags

-- three slices of S numbers
pub record RanksRoom (m : Model) (heads links ranks : List ℕ) : Type 0 where
  pub heads_long : length heads ≡ states m
  pub links_long : length links ≡ states m
  pub ranks_long : length ranks ≡ states m

-- ---- the states by their heights

abbrev pub heights_in : List ℕ → List ℕ
heights_in sheet = tab (length sheet) (height_of sheet)

-- each height has a head, each state a link
pub record HeightsRoom (sheet heads links : List ℕ) : Type 0 where
  pub few : length sheet ≤ max_word
  pub low : (p : ℕ) → p < length sheet → height_of sheet p < length heads
  pub links_long : length links ≡ length sheet

-- ---- the rank of a state

-- the rank that a step to q gives: none where q has no flag, its own by time, one more by a jump
abbrev pub rank_by : List ℕ → List ℕ → ℕ → ℕ → ℕ
rank_by flags ranks later q = cond (eqb (get_or flags q 0) 0) 0 (cond (eqb q later) (get_or ranks q 0) (get_or ranks q 0 + 1))

-- the greatest that a step at one of these places gives, or 0
unfoldable pub rank_upto : List ℕ → List ℕ → List ℕ → ℕ → ℕ → ℕ → ℕ
rank_upto targets flags ranks later from to = top (to - from) (λ k. rank_by flags ranks later (get_or targets (from + k) 0))

-- the same for all steps of node p
abbrev pub rank_in : List ℕ → List ℕ → List ℕ → List ℕ → ℕ → ℕ → ℕ
rank_in first targets flags ranks later p = rank_upto targets flags ranks later (get_or first p 0) (get_or first (p + 1) 0)

-- ---- what is meant

-- a state of the fringe
abbrev pub InFringe : Model → List ℕ → ℕ → Type 0
InFringe m sheet p = fringe (system_of_model m) (in_of sheet) p ≡ true

-- the most jumps of a walk through the fringe from p
abbrev pub jumps_of : Model → List ℕ → ℕ → ℕ
jumps_of m sheet p = jumps_from (labelled_of_model m) (in_of sheet) (states m) p

-- the fringe states below a height have their ranks
abbrev pub RankedBelow : Model → List ℕ → ℕ → List ℕ → Type 0
RankedBelow m sheet h ranks = (p : ℕ) → InFringe m sheet p → height_of sheet p < h → get_or ranks p 0 ≡ jumps_of m sheet p

-- and c is one more than the greatest of them, or 0
pub record RankedUpto (m : Model) (sheet : List ℕ) (h : ℕ) (ranks : List ℕ) (c : ℕ) : Type 0 where
  pub long : length ranks ≡ states m
  pub below : RankedBelow m sheet h ranks
  pub most : (p : ℕ) → InFringe m sheet p → height_of sheet p < h → jumps_of m sheet p < c
  pub some : (c ≡ 0) ⊎ ((p : ℕ) × InFringe m sheet p × (c ≡ suc (jumps_of m sheet p)))

-- p has its rank too, if it is of the fringe, and r is c or one more than that rank
pub record StateRanked (m : Model) (sheet ranks ranks' : List ℕ) (p c r : ℕ) : Type 0 where
  pub ranked : ranks' ≡ cond (fringe (system_of_model m) (in_of sheet) p) (set ranks p (jumps_of m sheet p)) ranks
  pub entries : r ≡ cond (fringe (system_of_model m) (in_of sheet) p) (max c (jumps_of m sheet p + 1)) c
