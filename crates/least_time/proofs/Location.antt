-- The least time of a location from the times of its states: they stand together, R of them from place l * R on.
use mathlib.Core.Path.{◌≡◌}
use mathlib.Core.Bool.{Bool, true}
use mathlib.Core.List.{List}
use Prim.Native.Nat.{ℕ, ◌+◌, ◌*◌, ◌-◌, ◌/◌, ◌%◌, ◌≤◌, ◌<◌}
use native.Mathlib.Omega.{arith}
use native.Mathlib.Nat.{div-add-mod', mod-lt, le_antisymm}
use native.Mathlib.Decide.{dec_lt}
use lib.ListN.{length, get_or}
use lib.Dec.{eqb}
use borrow.Author.Tests.{eqb-true, eq-eqb}
use Rattle.std.specs.Prelude.{Option, unwrap_or, IfSome}
use Rattle.theory.specs.Labels.{LabelledSystem}
use Rattle.theory.specs.Soonest.{soonest, time_to}
use Rattle.theory.specs.StateGraph.{location_of, system_of, labelled_of}
use Rattle.theory.proofs.Pairs.{pair_left}
use Rattle.theory.proofs.Timed.{Joined, soonest_least, soonest_some, soonest_below, soonest-le, timed_below}
use Rattle.model.specs.declared.Model.{Model}
use Rattle.model.specs.Model.{Lawful}
use Rattle.graph.specs.Plan.{automaton_of, labelled_of_model}
use Rattle.graph.specs.States.{Listed, states}
use Rattle.graph.proofs.States.{count_length}
use Rattle.search.specs.Lowest.{LeastDistance, none_reached, reached_at}
use Rattle.least_time.specs.LeastTime.{least_time}
use Rattle.least_time.specs.Times.{Times}
use Rattle.least_time.proofs.Models.{joined, start_below}

module _ (R l : ℕ) (pos : 0 < R) where
  abbrev goal : ℕ → Bool
  goal p = eqb (p / R) l

  pub in_location : (p : ℕ) → l * R ≤ p → p < l * R + R → goal p ≡ true
  in_location p h k =
      let e : l * R + (p - l * R) ≡ p = omega arith in
      eq-eqb (p / R) l (rw e at (pair_left l R (p - l * R) (omega arith)))

  -- the places of a goal
  goal_place : (p : ℕ) → goal p ≡ true → (l * R ≤ p) × (p < l * R + R)
  goal_place p g =
      let e : l * R + p % R ≡ p = rw (eqb-true (p / R) l g) at (div-add-mod' p R) in
      (omega arith, omega (arith, mod-lt p pos))

  -- before the places of a location there is no goal
  pub before_none : (p : ℕ) → p < l * R → goal p ≡ true → ⊥
  before_none p h g = omega (arith, (goal_place p g).0)

  -- nor after them
  pub after_none : (i p : ℕ) → l * R + R ≤ i → i ≤ p → goal p ≡ true → ⊥
  after_none i p h k g = omega (arith, (goal_place p g).1)

-- the least of the times of goals is the least time into a goal
module _ (P : LabelledSystem) (J : Joined P) (goal : ℕ → Bool) (b : P.system.start < P.system.size) where
  abbrev S : ℕ
  S = P.system.size

  pub least_soonest : (level : List ℕ) → Times P level → {best : Option ℕ} → LeastDistance goal (λ p. get_or level p 0) S best
      → (unwrap_or best S ≡ soonest P goal) × IfSome best (λ t. t < S)
  least_soonest level T (none_reached h) = (none (dec_lt (soonest P goal) S), tt)
    where
      none : Dec (soonest P goal < S) → S ≡ soonest P goal
      none (yes k) =
          let (q, w, g) = soonest_some P J goal b k in
          let (z, c) = T.least q (soonest P goal) w in
          absurd (omega (arith, h q (timed_below P J goal b b w) g))
      none (no k) = let u = soonest-le P J goal b in omega arith
  least_soonest level T (reached_at {d} q c g e h) = (le_antisymm up (soonest_least P J goal b (T.some q d e) g), (let a = up in let b = k in omega arith))
    where
      k : soonest P goal < S
      k = soonest_below P J goal b (T.some q d e) g

      up : d ≤ soonest P goal
      up =
          let (s, w, o) = soonest_some P J goal b k in
          let (z, v) = T.least s (soonest P goal) w in
          omega (arith, h s (timed_below P J goal b b w) o z)

-- of a model
module _ (m : Model) (ok : Lawful m) (table : List ℕ) (listed : Listed m table) where
  pub location_time : (l : ℕ) (level : List ℕ) → length level ≡ states m → Times (labelled_of_model m) level → {best : Option ℕ}
      → LeastDistance (λ p. eqb (p / length table) l) (λ p. get_or level p 0) (length level) best
      → (unwrap_or best (states m) ≡ least_time m l) × IfSome best (λ t. t < states m)
  unfolding time_to labelled_of system_of location_of
  location_time l level e T F =
      least_soonest (labelled_of_model m) (joined m ok) (λ p. eqb (location_of (automaton_of m) p) l) (start_below m ok) level T
      (rw (e, count_length m ok table listed) at F)
