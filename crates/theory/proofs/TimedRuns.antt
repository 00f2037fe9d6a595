-- Exact runs are the timed walks of numbered states: an entry is a whole point, a unit of waiting two time steps. So the computed least time is the
-- paper's, and a plan is clean with perfect clocks just where no forbidden location has a time.
use mathlib.Core.Path.{◌≡◌, refl, sym, ◌∙◌}
use mathlib.Core.Bool.{Bool, true, false, false≢true}
use mathlib.Core.Logic.{◌↔◌, ◌⊎◌, inl, inr}
use mathlib.Core.List.{List, [], ◌∷◌}
use Prim.Native.Nat.{ℕ, zero, suc, ◌+◌, ◌≤◌, ◌<◌}
use native.Mathlib.Nat.{add-zero, zero-add, suc-add}
use native.Mathlib.Numerals.{add-one}
use native.Mathlib.Omega.{arith}
use native.Mathlib.Decide.{dec_lt}
use lib.Dec.{eqb}
use lib.ListN.{length, replicate}
use borrow.Author.Tests.{eqb-true, eq-eqb}
use Rattle.theory.specs.Automaton.{Automaton, Edge, Capped, Upto, AtLeast, elapse, reset_values, Opens, Run, Exact}
use Rattle.theory.specs.Region.{Region, successor}
use Rattle.theory.specs.RegionGraph.{Allowed, Enabled, point, after}
use Rattle.theory.specs.Labels.{LabelledSystem}
use Rattle.theory.specs.StateGraph.{Within, state_count, location_of, region_of, number_of, edge_at, time_from, jump_from, step_from, system_of, labelled_of}
use Rattle.theory.specs.Soonest.{Soonest, Never, jump_step, unit_step, Timed, time_to, Clean, NoTime}
use Rattle.theory.proofs.Below.{any↔, and↔, either}
use Rattle.theory.proofs.Labels.{opens↔, leads_law}
use Rattle.theory.proofs.Stay.{between, successor-point, successor-between, jump_point, fits_point, attains_point, point_fits, point_attains, upto_earlier, allowed_point, allowed_between, elapse_zero, elapse-suc}
use Rattle.theory.proofs.StateGraph.{location_of_number, region_of_number, number_below, allowed_number, time_is, time_law, jump_is, jump_law, edge_drawn, drawn_edge, start_allowed}
use Rattle.theory.proofs.Soonest.{soonest_of, never_of, exact_clean}
use Rattle.theory.proofs.Timed.{Joined, soonest_least, soonest_below, soonest_some}

-- ---- timed walks one after the other

pub timed_append : {P : LabelledSystem} {p q s t u : ℕ} → Timed P p q t → Timed P q s u → Timed P p s (t + u)
timed_append Timed.stop w = rw zero-add w
timed_append (Timed.jumps j v) w = Timed.jumps j (timed_append v w)
timed_append (Timed.waits {t = t} j v) w = rw suc-add (Timed.waits j (timed_append v w))

module _ (m : Automaton) (locations : ℕ) where
  abbrev P : LabelledSystem
  P = labelled_of m locations

  -- the state of an entry at l with values v
  abbrev entry : ℕ → List ℕ → ℕ
  entry l v = number_of m l (point v)

  -- ---- steps by their labels are steps on numbers

  pub jump_step↔ : (p q : ℕ) → (jump_step P p q ≡ true)
      ↔ ((e : ℕ) × (e < length m.edges) × (jump_from m locations e p ≡ q) × (q < state_count m locations))
  unfolding labelled_of system_of step_from
  jump_step↔ p q =
      let t = any↔ P.labels (λ e. leads_law P (suc e) p q) in (
        λ j. let (e, b, (c, n, h)) = t.0 j in (e, omega arith, n, h),
        λ (e, b, n, h). t.1 (e, omega arith, (omega arith, n, h)),
      )

  pub unit_step↔ : (p q : ℕ) → (unit_step P p q ≡ true)
      ↔ ((time_from m locations p < state_count m locations) × (time_from m locations (time_from m locations p) ≡ q) × (q < state_count m locations))
  unfolding labelled_of system_of step_from
  unit_step↔ p q =
      let t = and↔ (opens↔ P 0 p) (leads_law P 0 (P.next 0 p) q) in (
        λ u. let ((a, h), (b, n, k)) = t.0 u in (h, n, k),
        λ (h, n, k). t.1 ((omega arith, h), (omega arith, n, k)),
      )

  module _ (W : Within m locations) (kept : Capped m) where
    pub joined : Joined P
    unfolding labelled_of system_of
    joined = record {
      jumps = λ p q j.
          let (e, b, n, h) = (jump_step↔ p q).0 j in
          ((jump_is m locations e p q b n h).0, h);
      units = λ p q u.
          let (h, n, k) = (unit_step↔ p q).0 u in
          ((time_is m locations p (time_from m locations p) refl h).0, k);
    }

    pub start_below : P.system.start < P.system.size
    unfolding labelled_of system_of
    start_below = number_below m locations m.start W.start (start_allowed kept m.start).region

    -- ---- a run is a timed walk

    -- a time step from one lawful region to the next
    time_to_lem : (l : ℕ) {xs ys : Region} → l < locations → Allowed m l xs → successor xs ≡ ys → Allowed m l ys
        → (time_from m locations (number_of m l xs) ≡ number_of m l ys) × (number_of m l ys < state_count m locations)
    time_to_lem l {xs} {ys} b a e c =
        let p = location_of_number m l a.region in
        let r = region_of_number m l a.region in
        (time_law m locations (number_of m l xs) (number_of m l ys)).1
        (allowed_number m locations l b a, rw (p, r, e) c, rw (p, r, e) refl)

    unit_entry : (l : ℕ) (v : List ℕ) → l < locations → Upto 1 0 1 (elapse 1 v) (m.invariant l) → unit_step P (entry l v) (entry l (elapse 1 v)) ≡ true
    unit_entry l v b h =
        let a₀ = allowed_point kept l (upto_earlier 1 v h) in
        let a₁ = allowed_between kept l v h in
        let a₂ = allowed_point kept l h in
        let (e, n) = time_to_lem l b a₀ (successor-point v) a₁ in
        let (f, k) = time_to_lem l b a₁ (successor-between v) a₂ in
        (unit_step↔ (entry l v) (entry l (elapse 1 v))).1 (rw e n, rw e f, k)

    units_entry : (l d : ℕ) (v : List ℕ) → l < locations → Upto 1 0 1 (elapse d v) (m.invariant l) → Timed P (entry l v) (entry l (elapse d v)) d
    units_entry l zero v b h = rw elapse_zero Timed.stop
    units_entry l (suc d) v b h =
        let h₁ : Upto 1 0 1 (elapse 1 (elapse d v)) (m.invariant l) = rw elapse-suc at h in
        let w = units_entry l d v b (upto_earlier 1 (elapse d v) h₁) in
        let u : Timed P (entry l v) (entry l (elapse 1 (elapse d v))) (d + 1) = timed_append w (Timed.waits (unit_entry l (elapse d v) b h₁) Timed.stop) in
        rw (elapse-suc, ← (add-one d)) u

    jump_entry : (g : Edge) (l : ℕ) (v : List ℕ) → l < locations → Opens m 1 0 1 g l v → jump_step P (entry l v) (entry g.target (reset_values g.reset v)) ≡ true
    jump_entry g l v b o =
        let a = allowed_point kept l o.stays in
        let c : Allowed m g.target (after g (point v)) = rw jump_point (allowed_point kept g.target o.enters) in
        let p = location_of_number m l a.region in
        let r = region_of_number m l a.region in
        let (e, d, f) = drawn_edge m locations g m.edges o.drawn in
        let n : Enabled m g l (point v) = record { drawn = o.drawn; here = o.here; low = attains_point o.low; high = fits_point o.high } in
        let q = entry g.target (reset_values g.reset v) in
        let (j, k) = (jump_law m locations e (entry l v) q d (rw f (W.targets g o.drawn))).1
        (allowed_number m locations l b a, rw (p, r, f) n, rw (r, f) c, rw (r, f, jump_point) refl) in
        (jump_step↔ (entry l v) q).1 (e, d, j, k)

    run_location : {gs : List Edge} {l t : ℕ} {v : List ℕ} → Exact m gs l v t → l < locations
    run_location (Run.begin h) = W.start
    run_location (Run.step r d g o) = W.targets g o.drawn

    -- an exact run gives a timed walk from the start to the state of its entry
    pub exact_timed : {gs : List Edge} {l t : ℕ} {v : List ℕ} → Exact m gs l v t → Timed P P.system.start (entry l v) t
    unfolding labelled_of system_of
    exact_timed (Run.begin h) = Timed.stop
    exact_timed (Run.step {l = l} {t = t} {v = v} r d g o) =
        let b = run_location r in
        timed_append (exact_timed r) (rw add-zero at (timed_append (units_entry l d v b o.stays) (Timed.jumps (jump_entry g l (elapse d v) b o) Timed.stop)))

    -- ---- and back

    -- where a timed walk of t units stands: some run entered its location `wait` units before, with the values then
    pub record Stands (p t : ℕ) : Type 0 where
      pub edges : List Edge
      pub location : ℕ
      pub values : List ℕ
      pub time : ℕ
      pub wait : ℕ
      pub run : Exact m edges location values time
      pub sum : time + wait ≡ t
      pub stays : Upto 1 0 1 (elapse wait values) (m.invariant location)
      pub state : p ≡ entry location (elapse wait values)

    stands_start : Stands P.system.start 0
    unfolding labelled_of system_of
    stands_start =
        let a = start_allowed kept m.start in
        let h = point_fits (replicate m.clocks 0) a.stays in
        record {
          edges = [];
          location = m.start;
          values = replicate m.clocks 0;
          time = 0;
          wait = 0;
          run = Run.begin h;
          sum = refl;
          stays = rw elapse_zero h;
          state = rw elapse_zero refl;
        }

    -- where it stands after a jump, and after a unit of waiting
    stands_jump : {p q t : ℕ} → Stands p t → jump_step P p q ≡ true → Stands q t
    stands_jump {p} {q} {t} s j =
        let l = s.location in
        let v = elapse s.wait s.values in
        let (e, b, n, h) = (jump_step↔ p q).0 j in
        let g = edge_at m e in
        let d = edge_drawn m locations m.edges e b in
        let (c, o, a, k) = (jump_law m locations e p q b (W.targets g d)).0 (n, h) in
        let r = (allowed_point kept l s.stays).region in
        let i : location_of m p ≡ l = rw s.state (location_of_number m l r) in
        let x : region_of m p ≡ point v = rw s.state (region_of_number m l r) in
        let low : AtLeast 1 0 1 v g.lower = point_attains v (rw x at o.low) in
        let high : Upto 1 0 1 v g.upper = point_fits v (rw x at o.high) in
        let to : Allowed m g.target (point (reset_values g.reset v)) = rw (x, jump_point) at a in
        let w = reset_values g.reset v in
        let y = point_fits w to.stays in
        record {
          edges = g ∷ s.edges;
          location = g.target;
          values = w;
          time = s.time + s.wait;
          wait = 0;
          run = Run.step s.run s.wait g record { drawn = d; here = o.here ∙ i; stays = s.stays; low = low; high = high; enters = y };
          sum = omega (arith, s.sum);
          stays = rw elapse_zero y;
          state = k ∙ rw (x, jump_point, elapse_zero) refl;
        }

    -- a time step from a lawful region leads to the next one
    time_from_lem : (l q : ℕ) {xs ys : Region} → Allowed m l xs → successor xs ≡ ys → time_from m locations (number_of m l xs) ≡ q → q < state_count m locations
        → Allowed m l ys × (q ≡ number_of m l ys)
    time_from_lem l q {xs} {ys} a e n h =
        let p = location_of_number m l a.region in
        let r = region_of_number m l a.region in
        let (t, c, k) = (time_law m locations (number_of m l xs) q).0 (n, h) in
        (rw (p, r, e) at c, rw (p, r, e) at k)

    stands_unit : {p q t : ℕ} → Stands p t → unit_step P p q ≡ true → Stands q (t + 1)
    stands_unit {p} {q} {t} s u =
        let l = s.location in
        let v = elapse s.wait s.values in
        let (h, n, k) = (unit_step↔ p q).0 u in
        let a₀ = allowed_point kept l s.stays in
        let h₀ : time_from m locations (entry l v) < state_count m locations = rw s.state at h in
        let n₀ : time_from m locations (time_from m locations (entry l v)) ≡ q = rw s.state at n in
        let (a₁, e₁) = time_from_lem l (time_from m locations (entry l v)) a₀ (successor-point v) refl h₀ in
        let n₁ : time_from m locations (number_of m l (between v)) ≡ q = rw e₁ at n₀ in
        let (a₂, e₂) = time_from_lem l q a₁ (successor-between v) n₁ k in
        let y = point_fits (elapse 1 v) a₂.stays in
        record {
          edges = s.edges;
          location = l;
          values = s.values;
          time = s.time;
          wait = suc s.wait;
          run = s.run;
          sum = omega (arith, s.sum);
          stays = rw elapse-suc y;
          state = rw (elapse-suc s.wait s.values) e₂;
        }

    stands_onward : {p q t u : ℕ} → Stands p t → Timed P p q u → Stands q (t + u)
    stands_onward s Timed.stop = rw add-zero s
    stands_onward s (Timed.jumps j w) = stands_onward (stands_jump s j) w
    stands_onward {t = t} s (Timed.waits {t = u} i w) = let e : t + 1 + u ≡ t + suc u = omega arith in rw e at (stands_onward (stands_unit s i) w)

    -- a timed walk from the start to a state gives an exact run that entered the state's location no later, and has waited there since
    pub timed_stands : {p t : ℕ} → Timed P P.system.start p t → Stands p t
    timed_stands w = rw zero-add at (stands_onward stands_start w)

    stands_location : {p t : ℕ} (s : Stands p t) → location_of m p ≡ s.location
    stands_location s = rw s.state (location_of_number m s.location (allowed_point kept s.location s.stays).region)

    entry_location : {gs : List Edge} {l t : ℕ} {v : List ℕ} → Exact m gs l v t → location_of m (entry l v) ≡ l
    entry_location {l = l} r = location_of_number m l (allowed_point kept l (entered r)).region
      where
        entered : {gs : List Edge} {l t : ℕ} {v : List ℕ} → Exact m gs l v t → Upto 1 0 1 v (m.invariant l)
        entered (Run.begin h) = h
        entered (Run.step r d g o) = o.enters

    pub timed_exact : {p t : ℕ} (l : ℕ) → Timed P P.system.start p t → location_of m p ≡ l
        → (gs : List Edge) × (v : List ℕ) × (u : ℕ) × Exact m gs l v u × (u ≤ t)
    timed_exact l w e =
        let s = timed_stands w in
        (s.edges, s.values, s.time, rw (sym (stands_location s) ∙ e) at s.run, omega (arith, s.sum))

    -- ---- the least time

    abbrev at : ℕ → ℕ → Bool
    at l p = eqb (location_of m p) l

    time_least : {gs : List Edge} {l t : ℕ} {v : List ℕ} → Exact m gs l v t → (time_to m locations l ≤ t) × (time_to m locations l < state_count m locations)
    unfolding time_to labelled_of system_of
    time_least {l = l} {v = v} r =
        let w = exact_timed r in
        let g = eq-eqb (location_of m (entry l v)) l (entry_location r) in
        (soonest_least P joined (at l) start_below w g, soonest_below P joined (at l) start_below w g)

    time_some : (l : ℕ) → time_to m locations l < state_count m locations → Soonest m l (time_to m locations l)
    unfolding time_to labelled_of system_of
    time_some l h =
        let (q, w, g) = soonest_some P joined (at l) start_below h in
        let (gs, v, u, r, k) = timed_exact l w (eqb-true (location_of m q) l g) in
        let e : u ≡ time_to m locations l = omega (arith, (time_least r).0) in
        soonest_of (gs, v, rw e at r) (λ gs v t r. (time_least r).0)

    -- the computed time is the least time, where it is below the number of states
    pub soonest_law : (l T : ℕ) → ((time_to m locations l < state_count m locations) × (time_to m locations l ≡ T)) ↔ Soonest m l T
    soonest_law l T = (
      λ (h, e). rw e at (time_some l h),
      λ s.
          let (gs, v, r) = s.some in
          let (a, b) = time_least r in
          let (hs, w, x) = (time_some l b).some in
          (b, omega (arith, s.least 1 (omega arith) hs w (time_to m locations l) x)),
    )

    -- and where it is not, no run gets there
    pub never_law : (l : ℕ) → (state_count m locations ≤ time_to m locations l) ↔ Never m l
    never_law l = (
      λ h. never_of (λ gs v t r. omega (arith, (time_least r).1)),
      λ n. by n (dec_lt (time_to m locations l) (state_count m locations)),
    )
      where
        by : Never m l → Dec (time_to m locations l < state_count m locations) → state_count m locations ≤ time_to m locations l
        by n (yes h) = let (gs, v, r) = (time_some l h).some in absurd (n 1 (omega arith) gs v (time_to m locations l) r)
        by n (no h) = omega arith

    -- the start is entered at once, and a location that is none never
    pub start_soonest : Soonest m m.start 0
    start_soonest =
        let h = point_fits (replicate m.clocks 0) (start_allowed kept m.start).stays in
        soonest_of ([], replicate m.clocks 0, Run.begin h) (λ gs v t r. omega arith)

    pub outside_never : (l : ℕ) → locations ≤ l → Never m l
    outside_never l h = never_of (λ gs v t r. omega (arith, run_location r))

    -- ---- clean with perfect clocks

    -- no run enters a forbidden location just where none of them has a time
    pub clean_law : Clean m ↔ NoTime m locations
    clean_law = (
      λ c l b f. (never_law l).1 (λ D pos gs v t r. false≢true (sym (c.enters_none D pos gs l v t r) ∙ f)),
      λ n. (exact_clean m).1 (λ gs l v t r. by n r (either (m.forbidden l))),
    )
      where
        by : NoTime m locations → {gs : List Edge} {l t : ℕ} {v : List ℕ} → Exact m gs l v t → (m.forbidden l ≡ true) ⊎ (m.forbidden l ≡ false)
            → m.forbidden l ≡ false
        by n {l = l} r (inl f) = absurd (omega (arith, n l (run_location r) f, (time_least r).1))
        by n r (inr f) = f
