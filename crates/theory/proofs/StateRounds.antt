-- The rounds on the numbers of an automaton's states are those on its states.
use Prim.Native.Nat.{ℕ, ◌+◌, ◌<◌}
use mathlib.Core.Path.{◌≡◌, sym, subst}
use mathlib.Core.Logic.{◌↔◌}
use Rattle.theory.specs.Automaton.{Automaton, Capped}
use Rattle.theory.specs.Region.{Region}
use Rattle.theory.specs.RegionGraph.{Allowed, Marked}
use Rattle.theory.specs.StateGraph.{Within, state_count, location_of, region_of, number_of, system_of}
use Rattle.theory.specs.System.{System, Laws}
use Rattle.theory.specs.Marked.{StepIn, step}
use Rattle.theory.specs.Levels.{mark}
use Rattle.theory.specs.Rounds.{MarkedAfter, begin, kept, added, NewAfter, Rounds, rounds, StepOn, start_on}
use Rattle.theory.proofs.Marked.{marked_allowed}
use Rattle.theory.proofs.StateGraph.{location_of_number, region_of_number, number_of_parts, start_allowed, system_laws}
use Rattle.theory.proofs.StateMarked.{step_states, step_numbers, marked_numbers}
use Rattle.theory.proofs.Rounds.{new_law, rounds_are, rounds_once, after_marked, marked_after}
use Rattle.theory.specs.RegionGraph as graph

-- the state with a number
abbrev state_of : Automaton → ℕ → ℕ × Region
state_of m p = (location_of m p, region_of m p)

-- what the rounds mark is marked
after_on_marked : {m : Automaton} {k : ℕ} {s : ℕ × Region} → MarkedAfter (StepOn m) (start_on m) k s → Marked m s.0 s.1
after_on_marked begin = graph.begin
after_on_marked (kept c) = after_on_marked c
after_on_marked (added c t) = graph.onward (after_on_marked c) t

module _ (m : Automaton) (locations : ℕ) (W : Within m locations) (limits : Capped m) where
  abbrev Y : System
  Y = system_of m locations

  laws : Laws Y
  laws = system_laws m locations W limits

  -- ---- marked after so many rounds, by numbers and by states

  after_states : {k p : ℕ} → MarkedAfter (StepIn Y) Y.start k p → MarkedAfter (StepOn m) (start_on m) k (state_of m p)
  unfolding system_of
  after_states begin =
      let a = start_allowed limits m.start in
      rw (location_of_number m m.start a.region, region_of_number m m.start a.region) begin
  after_states (kept c) = kept (after_states c)
  after_states (added c t) = added (after_states c) (step_states m locations W limits t)

  after_numbers : {k : ℕ} {s : ℕ × Region} → MarkedAfter (StepOn m) (start_on m) k s
      → (s.0 < locations) × Allowed m s.0 s.1 × MarkedAfter (StepIn Y) Y.start k (number_of m s.0 s.1)
  unfolding system_of
  after_numbers begin = (W.start, start_allowed limits m.start, begin)
  after_numbers (kept c) = let (b, a, n) = after_numbers c in (b, a, kept n)
  after_numbers (added c t) =
      let (b, a, n) = after_numbers c in
      let (d, e, s) = step_numbers m locations W limits b t in
      (d, e, added n s)

  -- the state of an allowed state's number is the state
  state_of_number : (l : ℕ) (xs : Region) → Allowed m l xs → state_of m (number_of m l xs) ≡ (l, xs)
  state_of_number l xs a = rw (location_of_number m l a.region, region_of_number m l a.region)

  -- ---- new states

  numbers_new : {k : ℕ} {s : ℕ × Region} → NewAfter (StepOn m) (start_on m) k s → NewAfter (StepIn Y) Y.start k (number_of m s.0 s.1)
  numbers_new {s = s} N =
      let (b, a, n) = after_numbers N.marked in
      record {
        marked = n;
        not_before = λ j l c.
            N.not_before j l (subst (MarkedAfter (StepOn m) (start_on m) j) (state_of_number s.0 s.1 a) (after_states c));
      }

  states_new : {k p : ℕ} → p < state_count m locations → NewAfter (StepIn Y) Y.start k p → NewAfter (StepOn m) (start_on m) k (state_of m p)
  states_new {p = p} h N = record {
    marked = after_states N.marked;
    not_before = λ j l c.
        N.not_before j l (subst (MarkedAfter (StepIn Y) Y.start j) (number_of_parts m locations p h) (after_numbers c).2);
  }

  -- a state is new after as many rounds as its distance
  pub new_states : (k p : ℕ) → p < state_count m locations
      → NewAfter (StepOn m) (start_on m) k (state_of m p) ↔ (mark Y.size (step Y) Y.start p ≡ k + 1)
  new_states k p h = (
    λ N. (new_law Y laws k p).0 (subst (NewAfter (StepIn Y) Y.start k) (number_of_parts m locations p h) (numbers_new N)),
    λ e. states_new h ((new_law Y laws k p).1 e),
  )

  -- ---- the number of rounds

  there : Rounds (StepOn m) (start_on m) (rounds Y)
  unfolding system_of
  there = record {
    each = λ k l.
        let (p, N) = (rounds_are Y laws).each k l in
        (state_of m p, states_new (laws.allowed_below p (marked_allowed Y laws (after_marked Y laws N.marked))) N);
    done = λ s N. (rounds_are Y laws).done (number_of m s.0 s.1) (numbers_new N);
  }

  pub rounds_states : (r : ℕ) → Rounds (StepOn m) (start_on m) r ↔ (r ≡ rounds Y)
  rounds_states r = (λ R. rounds_once R there, λ e. subst (Rounds (StepOn m) (start_on m)) (sym e) there)

  -- they mark the marked set
  pub rounds_mark : (r : ℕ) → Rounds (StepOn m) (start_on m) r → (l : ℕ) (xs : Region) → Marked m l xs ↔ MarkedAfter (StepOn m) (start_on m) r (l, xs)
  rounds_mark r R l xs = (
    λ c.
        let (b, a, n) = marked_numbers m locations W limits c in
        let e = (rounds_states r).0 R in
        subst (λ (k : ℕ). MarkedAfter (StepOn m) (start_on m) k (l, xs)) (sym e)
        (subst (MarkedAfter (StepOn m) (start_on m) (rounds Y)) (state_of_number l xs a) (after_states (marked_after Y laws n))),
    after_on_marked,
  )
