-- The marked numbers of an automaton's system are its marked states, and a set of numbers that is closed under time and jump covers slight drift.
use Prim.Native.Nat.{ℕ, suc, ◌<◌}
use native.Mathlib.Omega.{arith}
use mathlib.Core.Path.{◌≡◌, refl, sym, ap, subst, ◌∙◌}
use mathlib.Core.Bool.{Bool, true, false, true≢false}
use mathlib.Core.Logic.{◌↔◌}
use mathlib.Core.List.{List, [], ◌∷◌}
use lib.ListN.{length}
use Rattle.theory.specs.Sheet.{in_of, sheet_test}
use Rattle.theory.specs.Automaton.{Automaton, Capped, Steady}
use Rattle.theory.specs.Region.{Region, face, shares}
use Rattle.theory.specs.RegionGraph.{Allowed, FlowWalk, OnClosedWalk, Step, Marked, StepClosed, ForbiddenMarked, FlowClosed}
use Rattle.theory.specs.StateGraph.{Within, state_count, location_of, region_of, number_of, flow_test, system_of}
use Rattle.theory.specs.Marked.{unsafe}
use Rattle.theory.proofs.Below.{false_unless_true}
use Rattle.theory.proofs.Marked.{unsafe_law}
use Rattle.theory.proofs.Region.{face_law, shares_law}
use Rattle.theory.proofs.Sheet.{sheet_law}
use Rattle.theory.proofs.Stay.{steady}
use Rattle.theory.proofs.StateGraph.{location_of_number, region_of_number, number_below, number_of_parts, location_below, flow_is, is_flow, flow_target, flow_allowed, beside_law, is_beside, start_allowed, system_laws}
use Rattle.theory.specs.Walk as walk
use Rattle.theory.specs.System as system
use Rattle.theory.specs.Marked as marked

-- 01: "The marked set is the smallest set with the start (all clocks 0) that is closed under all four", on locations and regions: it is such a set,
-- and it lies in every such set.
in_closed : {m : Automaton} {P : ℕ → Region → Type 0} → StepClosed m P → {l : ℕ} {xs : Region} → Marked m l xs → P l xs
in_closed C Marked.begin = C.start
in_closed C (Marked.onward {l = l} {k = k} {xs = xs} {ys = ys} c t) = C.step l xs k ys (in_closed C c) t

pub marked_smallest : (m : Automaton) → StepClosed m (Marked m)
    × ((P : ℕ → Region → Type 0) → StepClosed m P → (l : ℕ) (xs : Region) → Marked m l xs → P l xs)
marked_smallest m = (record { start = Marked.begin; step = λ l xs k ys c t. Marked.onward c t }, λ P C l xs c. in_closed C c)

module _ (m : Automaton) (locations : ℕ) (W : Within m locations) (kept : Capped m) where
  -- ---- closed walks

  walk_states : {p s : ℕ} {l : List ℕ} → walk.Walk (flow_test m locations) p s l → FlowWalk m (location_of m p) (region_of m p) (location_of m s) (region_of m s) (length l)
  walk_states walk.stop = FlowWalk.stop
  walk_states (walk.move {p = p} {q = q} e w) = FlowWalk.move (flow_is m locations p q e).2 (walk_states w)

  states_walk : {l k n : ℕ} {xs ys : Region} → l < locations → FlowWalk m l xs k ys n
      → (s : List ℕ) × walk.Walk (flow_test m locations) (number_of m l xs) (number_of m k ys) s × (length s ≡ n)
  states_walk b FlowWalk.stop = ([], walk.stop, refl)
  states_walk b (FlowWalk.move {l₁ = l₁} {ys = ys} f w) =
      let (s, v, c) = states_walk (flow_target m locations W b f) w in
      (number_of m l₁ ys ∷ s, walk.move (is_flow m locations W b f) v, ap suc c)

  first_state : {p : ℕ} {k : ℕ} (s : List ℕ) → length s ≡ suc k → walk.Walk (flow_test m locations) p p s
      → (q : ℕ) × (l : List ℕ) × walk.Walk (flow_test m locations) p p (q ∷ l)
  first_state [] c w = absurd (omega arith)
  first_state (q ∷ l) c w = (q, l, w)

  pub on_closed_walk_law : (p : ℕ) → p < state_count m locations
      → system.OnClosedWalkIn (system_of m locations) p ↔ OnClosedWalk m (location_of m p) (region_of m p)
  unfolding system_of
  on_closed_walk_law p h = (
    λ (q, l, w). (length l, walk_states w),
    λ (k, w).
        let (s, v, c) = states_walk (location_below m locations p h) w in
        first_state s c (rw (number_of_parts m locations p h) at v),
  )

  -- ---- the marked set

  -- a step on numbers is one on states
  pub step_states : {p q : ℕ} → marked.StepIn (system_of m locations) p q → Step m (location_of m p) (region_of m p) (location_of m q) (region_of m q)
  unfolding system_of
  step_states {p} {q} (marked.by_flow e) = Step.flow (flow_is m locations p q e).2
  step_states {p} {q} (marked.by_face e) =
      let (((b, a), (c, d)), (s, t)) = (beside_law m locations W face p q).0 e in
      subst (λ k. Step m (location_of m p) (region_of m p) k (region_of m q)) s
      (Step.face a (subst (λ k. Allowed m k (region_of m q)) (sym s) d) ((face_law (region_of m p) (region_of m q)).0 t))
  step_states {p} {q} (marked.by_touch e w) =
      let (((b, a), (c, d)), (s, t)) = (beside_law m locations W shares p q).0 e in
      let o = (on_closed_walk_law q c).0 w in
      subst (λ k. Step m (location_of m p) (region_of m p) k (region_of m q)) s
      (Step.touch a (subst (λ k. Allowed m k (region_of m q)) (sym s) d) ((shares_law (region_of m p) (region_of m q)).0 t)
      (subst (λ k. OnClosedWalk m k (region_of m q)) (sym s) o))

  marked_states : {p : ℕ} → marked.MarkedIn (system_of m locations) p → Marked m (location_of m p) (region_of m p)
  unfolding system_of
  marked_states marked.begin =
      let a = start_allowed kept m.start in
      rw (location_of_number m m.start a.region, region_of_number m m.start a.region) Marked.begin
  marked_states (marked.onward c t) = Marked.onward (marked_states c) (step_states t)

  -- and the other way
  pub step_numbers : {l k : ℕ} {xs ys : Region} → l < locations → Step m l xs k ys
      → (k < locations) × Allowed m k ys × marked.StepIn (system_of m locations) (number_of m l xs) (number_of m k ys)
  unfolding system_of
  step_numbers b (Step.flow f) = (flow_target m locations W b f, (flow_allowed m locations W f).1, marked.by_flow (is_flow m locations W b f))
  step_numbers {xs = xs} b (Step.face {ys = ys} a c f) =
      (b, c, marked.by_face (is_beside m locations W face b a c ((face_law xs ys).1 f)))
  step_numbers {l} {xs = xs} b (Step.touch {ys = ys} a c s w) =
      let n = number_below m locations l b c.region in
      let o : OnClosedWalk m (location_of m (number_of m l ys)) (region_of m (number_of m l ys)) =
      rw (location_of_number m l c.region, region_of_number m l c.region) w in
      (b, c, marked.by_touch (is_beside m locations W shares b a c ((shares_law xs ys).1 s)) ((on_closed_walk_law (number_of m l ys) n).1 o))

  -- each marked state is allowed, in a location, and its number is marked
  pub marked_numbers : {l : ℕ} {xs : Region} → Marked m l xs → (l < locations) × Allowed m l xs × marked.MarkedIn (system_of m locations) (number_of m l xs)
  unfolding system_of
  marked_numbers Marked.begin = (W.start, start_allowed kept m.start, marked.begin)
  marked_numbers (Marked.onward c t) =
      let (b, a, n) = marked_numbers c in
      let (d, e, s) = step_numbers b t in
      (d, e, marked.onward n s)

  -- the marked numbers are the marked states
  pub marked_law : (p : ℕ) → p < state_count m locations → marked.MarkedIn (system_of m locations) p ↔ Marked m (location_of m p) (region_of m p)
  marked_law p h = (marked_states, λ c. subst (λ n. marked.MarkedIn (system_of m locations) n) (number_of_parts m locations p h) (marked_numbers c).2)

  -- ---- the verdict

  -- some marked number is forbidden just if a marked state is in a forbidden location
  pub forbidden_marked_law : marked.Unsafe (system_of m locations) ↔ ForbiddenMarked m
  unfolding system_of
  forbidden_marked_law = (
    λ (s, c, f). (location_of m s, region_of m s, marked_states c, f),
    λ (l, xs, c, f).
        let (b, a, n) = marked_numbers c in
        (number_of m l xs, n, subst (λ k. m.forbidden k ≡ true) (sym (location_of_number m l a.region)) f),
  )

  pub unsafe_states : (unsafe (system_of m locations) ≡ true) ↔ ForbiddenMarked m
  unsafe_states =
      let law = unsafe_law (system_of m locations) (system_laws m locations W kept) in
      (λ u. forbidden_marked_law.0 (law.0 u), λ f. law.1 (forbidden_marked_law.1 f))

  pub safe_states : (unsafe (system_of m locations) ≡ false) ↔ (ForbiddenMarked m → ⊥)
  safe_states = (
    λ u f. true≢false (sym (unsafe_states.1 f) ∙ u),
    λ none. false_unless_true (unsafe (system_of m locations)) (λ u. none (unsafe_states.0 u)),
  )

  -- ---- widened runs

  -- the states whose numbers are in a set
  abbrev pub Inside : (ℕ → Bool) → ℕ → Region → Type 0
  Inside is_in l xs = (l < locations) × Allowed m l xs × (is_in (number_of m l xs) ≡ true)

  pub inside_closed : (is_in : ℕ → Bool) → is_in (system_of m locations).start ≡ true
      → ((p q : ℕ) → is_in p ≡ true → (system_of m locations).flow p q ≡ true → is_in q ≡ true) → FlowClosed m (Inside is_in)
  unfolding system_of
  inside_closed is_in s f =
      record {
        start = (W.start, start_allowed kept m.start, s);
        flow = λ l xs k ys (b, a, i) t.
            (flow_target m locations W b t, (flow_allowed m locations W t).1, f (number_of m l xs) (number_of m k ys) i (is_flow m locations W b t));
      }

  pub inside_clean : (is_in : ℕ → Bool) → ((p : ℕ) → p < state_count m locations → is_in p ≡ true → (system_of m locations).forbidden p ≡ false)
      → (l : ℕ) (xs : Region) → Inside is_in l xs → m.forbidden l ≡ false
  unfolding system_of
  inside_clean is_in g l xs (b, a, i) =
      subst (λ k. m.forbidden k ≡ false) (location_of_number m l a.region) (g (number_of m l xs) (number_below m locations l b a.region) i)

  -- A set of numbers that has the start, is closed under time and jump, and has no state of a forbidden location covers slight drift.
  pub covers : (is_in : ℕ → Bool) → is_in (system_of m locations).start ≡ true
      → ((p q : ℕ) → is_in p ≡ true → (system_of m locations).flow p q ≡ true → is_in q ≡ true)
      → ((p : ℕ) → p < state_count m locations → is_in p ≡ true → (system_of m locations).forbidden p ≡ false)
      → Steady m
  covers is_in s f g = steady kept (inside_closed is_in s f) (inside_clean is_in g)

  -- So a passing sheet does.
  pub sheet_covers : (l : List ℕ) → sheet_test (system_of m locations) l ≡ true → Steady m
  unfolding system_of
  sheet_covers l e =
      let K = ((sheet_law (system_of m locations) (system_laws m locations W kept) l).0 e).rules in
      covers (in_of l) K.start_in K.flow_in K.none_forbidden
