-- Request (d) of 02: "Marking goes on after it is done." From bytes: `bytes` spell an accepted model. That the number which the search counts is the
-- number of rounds stands in its contracts (`marking::distances`, `survey::search`, `survey::survey`).
use mathlib.Core.Path.{◌≡◌, sym, ap, subst, ◌∙◌}
use mathlib.Core.Bool.{true}
use mathlib.Core.Logic.{◌↔◌}
use mathlib.Core.List.{List}
use Prim.Native.Nat.{ℕ, suc, ◌+◌, ◌-◌, ◌≤◌, ◌<◌}
use native.Mathlib.Omega.{arith}
use lib.ListN.{length, get_or}
use borrow.Author.Tests.{ltb-true}
use Rattle.theory.specs.Below.{Counted, count}
use Rattle.theory.specs.Automaton.{Automaton}
use Rattle.theory.specs.Region.{Region}
use Rattle.theory.specs.RegionGraph.{Marked}
use Rattle.theory.specs.System.{System}
use Rattle.theory.specs.Marked.{marks, step}
use Rattle.theory.specs.Levels.{mark}
use Rattle.theory.specs.Rounds.{MarkedAfter, NewAfter, StepOn, start_on, rounds}
use Rattle.theory.proofs.Below.{counted, counted_once, top_ge}
use Rattle.theory.proofs.Levels.{mark-marks}
use Rattle.theory.specs.WithoutTouch.{with_touch}
use Rattle.theory.proofs.WithoutTouch.{with_touch_lem}
use Rattle.theory.proofs.Rounds.{new_once, new_from, rounds_few}
use Rattle.model.specs.declared.Model.{Model}
use Rattle.model.specs.Model.{Lawful}
use Rattle.plan_reader.specs.Accept.{read_model}
use Rattle.plan_reader.proofs.Accepted.{accepted_lawful}
use Rattle.graph.specs.Plan.{automaton_of, system_of_model}
use Rattle.graph.proofs.Plan.{size-states}
use Rattle.graph.proofs.Models.{system_laws, marks-states, rounds_law, rounds_mark, new_law}
use Rattle.search.specs.Queue.{reached_count}
use Rattle.marking.specs.Tables.{Distances}
use Rattle.marking.proofs.Steps.{count-marks}
use Rattle.survey.specs.Surveyed.{Levelled}
use Rattle.call.specs.Call.{model_of, states_of}
use Rattle.demands.specs.Told.{MarkedAt}
use Rattle.demands.specs.Rounds.{PlanRounds, NewAt, MarkedByRounds}

module _ (bytes : List ℕ) (e : (read_model bytes).refusal ≡ 0) where
  abbrev m : Model
  m = model_of bytes

  -- the plan
  abbrev a : Automaton
  a = automaton_of m

  -- 01's S
  abbrev S : ℕ
  S = states_of bytes

  abbrev Y : System
  Y = system_of_model m

  ok : Lawful m
  ok = accepted_lawful bytes e

  -- ---- "the rounds are counted"

  -- `rounds` is the one number of rounds
  pub plan_rounds : (r : ℕ) → PlanRounds a r ↔ (r ≡ rounds Y)
  plan_rounds = rounds_law m ok

  -- these rounds mark the marked set, none missing, none extra
  pub plan_marked : (r : ℕ) → PlanRounds a r → (l : ℕ) (xs : Region) → Marked a l xs ↔ MarkedAfter (StepOn a) (start_on a) r (l, xs)
  plan_marked = rounds_mark m ok

  -- ---- "at most as many rounds as there are marked states"

  marked_many : count Y.size (marks Y) ≡ count S (marks Y)
  marked_many = ap (λ (k : ℕ). count k (marks Y)) (size-states m)

  marked_count : Counted (MarkedAt a) S (count S (marks Y))
  marked_count = counted (MarkedAt a) (marks Y) S (marks-states m ok)

  pub plan_few : (r n : ℕ) → PlanRounds a r → Counted (MarkedAt a) S n → r ≤ n
  plan_few r n R C = omega (arith, counted_once C marked_count, (plan_rounds r).0 R, rounds_few Y (system_laws m ok), marked_many)

  -- ---- "A round goes over each state at most once"

  -- a round need go over new states only: what it adds is one step from such a state
  pub plan_new : (k : ℕ) (t : ℕ × Region) → NewAfter (StepOn a) (start_on a) (suc k) t
      → (s : ℕ × Region) × NewAfter (StepOn a) (start_on a) k s × StepOn a s t
  plan_new k t = new_from

  -- and no state is new twice
  pub plan_once : (j k : ℕ) (s : ℕ × Region) → NewAfter (StepOn a) (start_on a) j s → NewAfter (StepOn a) (start_on a) k s → j ≡ k
  plan_once j k s = new_once

  -- What the search leaves, by its contracts: the marked states in `queue`, round by round, each once.
  module _ (hs ds queue : List ℕ) (r : ℕ) (F : Levelled true m hs ds queue) (told : r ≡ rounds (with_touch true Y)) where
    abbrev n : ℕ
    n = reached_count ds

    found : Distances Y ds
    found = subst (λ (Z : System). Distances Z ds) (with_touch_lem Y) F.surveyed.distances

    is : r ≡ rounds Y
    is = told ∙ ap rounds (with_touch_lem Y)

    many : n ≡ count S (marks Y)
    many = count-marks Y (system_laws m ok) ds found ∙ marked_many

    long : length ds ≡ S
    long = found.long ∙ size-states m

    level : (p : ℕ) → p < S → get_or ds p 0 ≡ mark Y.size (step Y) Y.start p
    level p h = found.is p (omega (arith, size-states m))

    at : (i : ℕ) → i < n → get_or queue i 0 < S
    at i h = omega (arith, F.order.fits.below i h, long)

    new_at : (k p : ℕ) → p < S → NewAt a k p ↔ (get_or ds p 0 ≡ k + 1)
    new_at k p h = let law = new_law m ok k p h in (λ N. level p h ∙ law.0 N, λ d. law.1 (sym (level p h) ∙ d))

    under : (p : ℕ) → p < S → get_or ds p 0 ≤ r
    unfolding rounds
    under p h =
        omega (arith, is, level p h, top_ge Y.size (mark Y.size (step Y) Y.start) p (omega (arith, size-states m)))

    reached : (p : ℕ) → p < S → MarkedAt a p → 0 < get_or ds p 0
    reached p h c =
        rw (level p h)
        (ltb-true 0 (mark Y.size (step Y) Y.start p) (mark-marks Y (system_laws m ok) p ∙ (marks-states m ok p h).1 c))

    all : Counted (MarkedAt a) S n
    all = subst (Counted (MarkedAt a) S) (sym many) marked_count

    pub by_rounds : MarkedByRounds a S n r queue
    by_rounds = record {
      marked = all;
      rounds = (plan_rounds r).1 is;
      few = plan_few r n ((plan_rounds r).1 is) all;
      round = λ i h.
          let p = get_or queue i 0 in
          let x = F.order.fits.reached i h in
          (get_or ds p 0 - 1, omega (arith, under p (at i h)), (new_at (get_or ds p 0 - 1) p (at i h)).1 (omega arith));
      place = λ p h c. F.order.fits.found p (omega (arith, long)) (reached p h c);
      once = F.order.fits.once;
      in_order = λ i j k l x h M N.
          omega (
            arith,
            F.order.sorted i j x h,
            (new_at k (get_or queue i 0) (at i (omega arith))).0 M,
            (new_at l (get_or queue j 0) (at j h)).0 N,
          );
    }
