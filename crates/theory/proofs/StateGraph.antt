-- Numbers of states lead to states and back, and the steps on numbers are the steps of 01 on states, each of its kind. So the system of an automaton
-- has the laws that the theory of evidence asks for.
use Prim.Native.Nat.{ℕ, zero, suc, ◌+◌, ◌*◌, ◌%◌, ◌≤◌, ◌<◌}
use native.Mathlib.Nat.{mod-lt, div-add-mod', div-lt_iff_lt-mul, mul-le-mul_right}
use native.Mathlib.Omega.{arith}
use mathlib.Core.Path.{◌≡◌, refl, sym, ap, ap₂, ◌∙◌}
use mathlib.Core.Bool.{Bool, true, false, cond, ◌&&◌, false≢true}
use mathlib.Core.Logic.{◌↔◌, ◌⊎◌, inl, inr}
use mathlib.Core.List.Memᴰ
use mathlib.Core.List.{List, [], ◌∷◌, Memᴰ, nil≢cons, cons≢nil}
use lib.Dec.{eqb}
use lib.ListN.{length, get_or, replicate}
use Rattle.theory.specs.System.{Laws}
use Rattle.theory.specs.Labels.{LabelledLaws}
use Rattle.theory.specs.Pointwise.{Each}
use Rattle.theory.specs.Automaton.{Automaton, Edge, Capped, Upto}
use Rattle.theory.specs.Region.{Clock, clock, Region, Fits, Attains, Lawful, face, shares, successor}
use Rattle.theory.specs.RegionGraph.{Allowed, Enabled, Flow, after, origin, allowed, guard_holds}
use Rattle.theory.specs.StateGraph.{Within, regions_of, region_count, state_count, location_of, region_of, same_region, index_in, number_of, allowed_state, state_at, no_edge, edge_at, time_from, jump_from, step_from, beside, flow_test, system_of, labelled_of}
use Rattle.theory.proofs.Pairs.{pair_left, pair_right}
use Rattle.theory.proofs.Below.{and↔, eqb↔, ltb↔, test↔, any↔, either, cond_ind}
use Rattle.theory.proofs.Enumeration.{regions_law, region_at_lem, index_once}
use Rattle.theory.proofs.Region.{lawful_law, allowed_law, guard_law}
use Rattle.theory.proofs.Stay.{allowed_point}

-- ---- a region and its index

clock_parts : (x y : Clock) → x.whole ≡ y.whole → x.rank ≡ y.rank → x ≡ y
clock_parts x y h k = ap₂ clock h k

pub same_region_law : (xs ys : Region) → (same_region xs ys ≡ true) ↔ (xs ≡ ys)
unfolding same_region
same_region_law [] [] = (λ e. refl, λ e. refl)
same_region_law [] (y ∷ ys) = (λ e. absurd (false≢true e), λ e. absurd (nil≢cons e))
same_region_law (x ∷ xs) [] = (λ e. absurd (false≢true e), λ e. absurd (cons≢nil e))
same_region_law (x ∷ xs) (y ∷ ys) =
    let t = and↔ (and↔ (eqb↔ x.whole y.whole) (eqb↔ x.rank y.rank)) (same_region_law xs ys) in
    (λ e. let ((w, r), h) = t.0 e in ap₂ ◌∷◌ (clock_parts x y w r) h, λ e. t.1 ((cc, cc), cc))

module _ (xs : Region) where
  at_index : (l : List Region) → Memᴰ xs l → (index_in l xs < length l) × (get_or l (index_in l xs) [] ≡ xs)
  unfolding index_in
  at_index [] m = absurd (Memᴰ.not-nil m)
  at_index (ys ∷ l) m = by (at_index l) (either (same_region xs ys)) (Memᴰ.cases_cons m)
    where
      by : (Memᴰ xs l → (index_in l xs < length l) × (get_or l (index_in l xs) [] ≡ xs)) → (same_region xs ys ≡ true) ⊎ (same_region xs ys ≡ false)
          → (xs ≡ ys) ⊎ Memᴰ xs l → (index_in (ys ∷ l) xs < length (ys ∷ l)) × (get_or (ys ∷ l) (index_in (ys ∷ l) xs) [] ≡ xs)
      by ih (inl s) c = rw s (omega arith, sym ((same_region_law xs ys).0 s))
      by ih (inr s) (inl e) = absurd (false≢true (sym s ∙ (same_region_law xs ys).1 e))
      by ih (inr s) (inr n) = let (b, e) = ih n in rw s (omega arith, e)

pub member_at : (l : List Region) (i : ℕ) → i < length l → Memᴰ (get_or l i []) l
member_at [] i h = absurd (omega arith)
member_at (ys ∷ l) zero h = Memᴰ.head refl
member_at (ys ∷ l) (suc i) h = Memᴰ.tail (member_at l i (omega arith))

-- The start is allowed: all clocks are 0, and no limit is below that.
zeros_fit : (n M : ℕ) (cs : List ℕ) → Each (λ x c. x ≤ c) cs (replicate n M) → Upto 1 0 1 (replicate n 0) cs
zeros_fit zero M [] h = Each.none
zeros_fit zero M (c ∷ cs) h = elim h [ ]
zeros_fit (suc n) M [] h = elim h [ ]
zeros_fit (suc n) M (c ∷ cs) (Each.more b h) = let z : 0 * 1 ≤ (c * 1 + 0) * 1 = omega arith in Each.more z (zeros_fit n M cs h)

pub start_allowed : {m : Automaton} → Capped m → (l : ℕ) → Allowed m l (origin m)
start_allowed {m} kept l = allowed_point kept l (zeros_fit m.clocks m.ceiling (m.invariant l) (kept.limits l))

module _ (m : Automaton) where
  -- ---- numbers lead to states and back

  in_list : {xs : Region} → Lawful m.clocks m.ceiling xs → Memᴰ xs (regions_of m)
  in_list {xs} h = (regions_law m.clocks m.ceiling xs).1 ((lawful_law m.clocks m.ceiling xs).1 h)

  index_below : {xs : Region} → Lawful m.clocks m.ceiling xs → index_in (regions_of m) xs < region_count m
  unfolding region_count
  index_below {xs} h = (at_index xs (regions_of m) (in_list h)).0

  index_at : {xs : Region} → Lawful m.clocks m.ceiling xs → get_or (regions_of m) (index_in (regions_of m) xs) [] ≡ xs
  index_at {xs} h = (at_index xs (regions_of m) (in_list h)).1

  -- the region at an index has that index
  pub at_own_index : (i : ℕ) → i < region_count m → index_in (regions_of m) (get_or (regions_of m) i []) ≡ i
  unfolding region_count
  at_own_index i h =
      let (b, e) = at_index (get_or (regions_of m) i []) (regions_of m) (member_at (regions_of m) i h) in
      index_once m.clocks m.ceiling (index_in (regions_of m) (get_or (regions_of m) i [])) i b h e

  pub location_of_number : (l : ℕ) {xs : Region} → Lawful m.clocks m.ceiling xs → location_of m (number_of m l xs) ≡ l
  unfolding location_of number_of
  location_of_number l {xs} h = pair_left l (region_count m) (index_in (regions_of m) xs) (index_below h)

  pub region_of_number : (l : ℕ) {xs : Region} → Lawful m.clocks m.ceiling xs → region_of m (number_of m l xs) ≡ xs
  unfolding region_of number_of
  region_of_number l {xs} h = rw (pair_right l (region_count m) (index_in (regions_of m) xs) (index_below h)) (index_at h)

  pub number_below : (locations l : ℕ) {xs : Region} → l < locations → Lawful m.clocks m.ceiling xs → number_of m l xs < state_count m locations
  unfolding number_of
  number_below locations l {xs} b h = omega (arith, index_below h, mul-le-mul_right (region_count m) b)

  module _ (locations : ℕ) where
    pub count_positive : (p : ℕ) → p < state_count m locations → 0 < region_count m
    count_positive p h = by (region_count m) refl
      where
        by : (c : ℕ) → region_count m ≡ c → 0 < region_count m
        by zero e = absurd (omega (arith, ap (λ (c : ℕ). locations * c) e))
        by (suc c) e = omega arith

    pub location_below : (p : ℕ) → p < state_count m locations → location_of m p < locations
    unfolding location_of
    location_below p h = (div-lt_iff_lt-mul (count_positive p h)).1 h

    pub region_lawful : (p : ℕ) → p < state_count m locations → Lawful m.clocks m.ceiling (region_of m p)
    unfolding region_of region_count
    region_lawful p h = (lawful_law m.clocks m.ceiling (region_of m p)).0 (region_at_lem m.clocks m.ceiling (p % region_count m) (mod-lt p (count_positive p h)))

    pub number_of_parts : (p : ℕ) → p < state_count m locations → number_of m (location_of m p) (region_of m p) ≡ p
    unfolding number_of location_of region_of
    number_of_parts p h = rw (at_own_index (p % region_count m) (mod-lt p (count_positive p h))) (div-add-mod' p (region_count m))

    -- ---- allowed states

    pub allowed_state_law : (p : ℕ) → (allowed_state m locations p ≡ true) ↔ ((p < state_count m locations) × Allowed m (location_of m p) (region_of m p))
    unfolding allowed_state
    allowed_state_law p = and↔ (ltb↔ p (state_count m locations)) (allowed_law m (location_of m p) (region_of m p))

    pub allowed_number : (l : ℕ) {xs : Region} → l < locations → Allowed m l xs → allowed_state m locations (number_of m l xs) ≡ true
    allowed_number l b a =
        (allowed_state_law (number_of m l _)).1
        (number_below locations l b a.region, rw (location_of_number l a.region, region_of_number l a.region) a)

    -- a step that leads to a state leads to an allowed one
    state_at_is : (l q : ℕ) (xs : Region) → state_at m locations l xs ≡ q → q < state_count m locations → Allowed m l xs × (q ≡ number_of m l xs)
    unfolding state_at
    state_at_is l q xs e h = by (either (allowed m l xs))
      where
        by : (allowed m l xs ≡ true) ⊎ (allowed m l xs ≡ false) → Allowed m l xs × (q ≡ number_of m l xs)
        by (inl t) = ((allowed_law m l xs).0 t, sym e ∙ rw t)
        by (inr t) = let z : state_count m locations ≡ q = (rw t) ∙ e in absurd (omega arith)

    is_state_at : (l : ℕ) {xs : Region} → Allowed m l xs → state_at m locations l xs ≡ number_of m l xs
    unfolding state_at
    is_state_at l {xs} a = rw ((allowed_law m l xs).1 a)

    -- ---- time and jump steps

    cond_below : (b : Bool) (x q : ℕ) → cond b x (state_count m locations) ≡ q → q < state_count m locations → (b ≡ true) × (x ≡ q)
    cond_below true x q e h = (refl, e)
    cond_below false x q e h = absurd (omega arith)

    -- a step to a state by its location and region is one by its number
    arrives : {l₀ l : ℕ} {xs₀ xs : Region} (q : ℕ) → q ≡ number_of m l xs → Lawful m.clocks m.ceiling xs → Flow m l₀ xs₀ l xs
        → Flow m l₀ xs₀ (location_of m q) (region_of m q)
    arrives {l = l} q e h f = rw (e, location_of_number l h, region_of_number l h) f

    pub time_is : (p q : ℕ) → time_from m locations p ≡ q → q < state_count m locations
        → (p < state_count m locations) × Flow m (location_of m p) (region_of m p) (location_of m q) (region_of m q)
    unfolding time_from
    time_is p q e h =
        let (t, f) = cond_below (allowed_state m locations p) _ q e h in
        let (b, a) = (allowed_state_law p).0 t in
        let (c, n) = state_at_is (location_of m p) q (successor (region_of m p)) f h in
        (b, arrives q n c.region (Flow.time a c))

    pub is_time : (p : ℕ) → allowed_state m locations p ≡ true → Allowed m (location_of m p) (successor (region_of m p))
        → time_from m locations p ≡ number_of m (location_of m p) (successor (region_of m p))
    unfolding time_from
    is_time p t a = rw t (is_state_at (location_of m p) a)

    -- the time step on numbers is the time step and no other
    pub time_law : (p q : ℕ) → ((time_from m locations p ≡ q) × (q < state_count m locations))
        ↔ ((allowed_state m locations p ≡ true) × Allowed m (location_of m p) (successor (region_of m p))
        × (q ≡ number_of m (location_of m p) (successor (region_of m p))))
    unfolding time_from
    time_law p q = (
      λ (e, h).
          let (t, f) = cond_below (allowed_state m locations p) _ q e h in
          let (c, n) = state_at_is (location_of m p) q (successor (region_of m p)) f h in
          (t, c, n),
      λ (t, a, n).
          let l = location_below p ((allowed_state_law p).0 t).0 in
          (is_time p t a ∙ sym n, rw n (number_below locations (location_of m p) l a.region)),
    )

    -- where there is none it gives the number of states
    pub time_most : (p : ℕ) → time_from m locations p ≤ state_count m locations
    unfolding time_from state_at
    time_most p =
        let most : ℕ → Type 0 = λ q. q ≤ state_count m locations in
        cond_ind most (allowed_state m locations p) (λ t.
        let l = location_below p ((allowed_state_law p).0 t).0 in
        cond_ind most (allowed m (location_of m p) (successor (region_of m p)))
        (λ a. omega (arith, number_below locations (location_of m p) l ((allowed_law m (location_of m p) (successor (region_of m p))).0 a).region))
        (λ _. omega arith)) (λ _. omega arith)

    pub edge_drawn : (l : List Edge) (e : ℕ) → e < length l → Memᴰ (get_or l e no_edge) l
    edge_drawn [] e h = absurd (omega arith)
    edge_drawn (g ∷ l) zero h = Memᴰ.head refl
    edge_drawn (g ∷ l) (suc e) h = Memᴰ.tail (edge_drawn l e (omega arith))

    pub drawn_edge : (g : Edge) (l : List Edge) → Memᴰ g l → (e : ℕ) × (e < length l) × (get_or l e no_edge ≡ g)
    drawn_edge g [] d = absurd (Memᴰ.not-nil d)
    drawn_edge g (f ∷ l) d = by (drawn_edge g l) (Memᴰ.cases_cons d)
      where
        by : (Memᴰ g l → (e : ℕ) × (e < length l) × (get_or l e no_edge ≡ g)) → (g ≡ f) ⊎ Memᴰ g l
            → (e : ℕ) × (e < length (f ∷ l)) × (get_or (f ∷ l) e no_edge ≡ g)
        by ih (inl e) = (0, omega arith, sym e)
        by ih (inr n) = let (e, b, c) = ih n in (suc e, omega arith, c)

    jump_test : (e p : ℕ)
        → ((allowed_state m locations p && (eqb (edge_at m e).source (location_of m p) && guard_holds (edge_at m e) (region_of m p))) ≡ true)
        ↔ (((p < state_count m locations) × Allowed m (location_of m p) (region_of m p))
        × (((edge_at m e).source ≡ location_of m p) × (Attains (region_of m p) (edge_at m e).lower × Fits (region_of m p) (edge_at m e).upper)))
    jump_test e p =
        and↔ (allowed_state_law p) (and↔ (eqb↔ (edge_at m e).source (location_of m p)) (guard_law (edge_at m e) (region_of m p)))

    pub jump_is : (e p q : ℕ) → e < length m.edges → jump_from m locations e p ≡ q → q < state_count m locations
        → (p < state_count m locations) × Flow m (location_of m p) (region_of m p) (location_of m q) (region_of m q)
    unfolding jump_from
    jump_is e p q d j h =
        let g = edge_at m e in
        let (t, f) = cond_below (allowed_state m locations p && (eqb g.source (location_of m p) && guard_holds g (region_of m p))) _ q j h in
        let ((b, a), (s, (low, high))) = (jump_test e p).0 t in
        let (c, n) = state_at_is g.target q (after g (region_of m p)) f h in
        (b, arrives q n c.region (Flow.jump g record { drawn = edge_drawn m.edges e d; here = s; low = low; high = high } a c))

    pub is_jump : (e p : ℕ) → allowed_state m locations p ≡ true → Enabled m (edge_at m e) (location_of m p) (region_of m p)
        → Allowed m (edge_at m e).target (after (edge_at m e) (region_of m p))
        → jump_from m locations e p ≡ number_of m (edge_at m e).target (after (edge_at m e) (region_of m p))
    unfolding jump_from
    is_jump e p t o a = rw ((jump_test e p).1 ((allowed_state_law p).0 t, (o.here, (o.low, o.high)))) (is_state_at (edge_at m e).target a)

    -- the jump along edge e on numbers is that jump and no other
    pub jump_law : (e p q : ℕ) → e < length m.edges → (edge_at m e).target < locations
        → ((jump_from m locations e p ≡ q) × (q < state_count m locations))
        ↔ ((allowed_state m locations p ≡ true) × Enabled m (edge_at m e) (location_of m p) (region_of m p)
        × Allowed m (edge_at m e).target (after (edge_at m e) (region_of m p))
        × (q ≡ number_of m (edge_at m e).target (after (edge_at m e) (region_of m p))))
    unfolding jump_from
    jump_law e p q d b = (
      λ (j, h).
          let g = edge_at m e in
          let (t, f) = cond_below (allowed_state m locations p && (eqb g.source (location_of m p) && guard_holds g (region_of m p))) _ q j h in
          let (a, (s, (low, high))) = (jump_test e p).0 t in
          let (c, n) = state_at_is g.target q (after g (region_of m p)) f h in
          ((allowed_state_law p).1 a, record { drawn = edge_drawn m.edges e d; here = s; low = low; high = high }, c, n),
      λ (t, o, a, n). (is_jump e p t o a ∙ sym n, rw n (number_below locations (edge_at m e).target b a.region)),
    )

    flow_test_lem : (p q : ℕ) → (flow_test m locations p q ≡ true)
        ↔ ((q < state_count m locations) × ((x : ℕ) × (x < suc (length m.edges)) × (step_from m locations x p ≡ q)))
    unfolding flow_test
    flow_test_lem p q = and↔ (ltb↔ q (state_count m locations)) (any↔ (suc (length m.edges)) λ x. eqb↔ (step_from m locations x p) q)

    step_is_flow : (x p q : ℕ) → x < suc (length m.edges) → step_from m locations x p ≡ q → q < state_count m locations
        → (p < state_count m locations) × Flow m (location_of m p) (region_of m p) (location_of m q) (region_of m q)
    unfolding step_from
    step_is_flow zero p q b e h = time_is p q e h
    step_is_flow (suc e) p q b j h = jump_is e p q (omega arith) j h

    -- a step on numbers is one of 01 on states
    pub flow_is : (p q : ℕ) → flow_test m locations p q ≡ true
        → (p < state_count m locations) × (q < state_count m locations) × Flow m (location_of m p) (region_of m p) (location_of m q) (region_of m q)
    flow_is p q e =
        let (h, (x, b, s)) = (flow_test_lem p q).0 e in
        let (c, f) = step_is_flow x p q b s h in
        (c, h, f)

    module _ (W : Within m locations) where
      -- and the other way
      pub flow_target : {l k : ℕ} {xs ys : Region} → l < locations → Flow m l xs k ys → k < locations
      flow_target b (Flow.time a c) = b
      flow_target b (Flow.jump g o a c) = W.targets g o.drawn

      pub flow_allowed : {l k : ℕ} {xs ys : Region} → Flow m l xs k ys → Allowed m l xs × Allowed m k ys
      flow_allowed (Flow.time a c) = (a, c)
      flow_allowed (Flow.jump g o a c) = (a, c)

      flow_step : {l k : ℕ} {xs ys : Region} → l < locations → Flow m l xs k ys
          → (x : ℕ) × (x < suc (length m.edges)) × (step_from m locations x (number_of m l xs) ≡ number_of m k ys)
      unfolding step_from
      flow_step {l} {xs = xs} b (Flow.time a c) =
          let p = location_of_number l a.region in
          let r = region_of_number l a.region in
          (0, omega arith, (rw (p, r) at (is_time (number_of m l xs) (allowed_number l b a) (rw (p, r) c))))
      flow_step {l} {xs = xs} b (Flow.jump g o a c) =
          let p = location_of_number l a.region in
          let r = region_of_number l a.region in
          let (e, d, f) = drawn_edge g m.edges o.drawn in
          (suc e, omega arith, (rw (r, f) at (is_jump e (number_of m l xs) (allowed_number l b a) (rw (p, r, f) o) (rw (r, f) c))))

      pub is_flow : {l k : ℕ} {xs ys : Region} → l < locations → Flow m l xs k ys → flow_test m locations (number_of m l xs) (number_of m k ys) ≡ true
      is_flow {l} {k} {xs} {ys} b f =
          (flow_test_lem (number_of m l xs) (number_of m k ys)).1
          (number_below locations k (flow_target b f) (flow_allowed f).1.region, flow_step b f)

      -- ---- the system keeps the laws

      pub beside_law : (test : Region → Region → Bool) (p q : ℕ) → (beside m locations test p q ≡ true)
          ↔ ((((p < state_count m locations) × Allowed m (location_of m p) (region_of m p)) × ((q < state_count m locations) × Allowed m (location_of m q) (region_of m q)))
          × ((location_of m p ≡ location_of m q) × (test (region_of m p) (region_of m q) ≡ true)))
      unfolding beside
      beside_law test p q =
          and↔ (and↔ (allowed_state_law p) (allowed_state_law q)) (and↔ (eqb↔ (location_of m p) (location_of m q)) (test↔ (test (region_of m p) (region_of m q))))

      pub is_beside : (test : Region → Region → Bool) {l : ℕ} {xs ys : Region} → l < locations → Allowed m l xs → Allowed m l ys → test xs ys ≡ true
          → beside m locations test (number_of m l xs) (number_of m l ys) ≡ true
      is_beside test {l} {xs} {ys} b a c t =
          (beside_law test (number_of m l xs) (number_of m l ys)).1 (
            ((allowed_state_law (number_of m l xs)).0 (allowed_number l b a), (allowed_state_law (number_of m l ys)).0 (allowed_number l b c)),
            (
              location_of_number l a.region ∙ sym (location_of_number l c.region),
              rw (region_of_number l a.region, region_of_number l c.region) t,
            ),
          )

      beside_joins : (test : Region → Region → Bool) (p q : ℕ) → beside m locations test p q ≡ true
          → (allowed_state m locations p ≡ true) × (allowed_state m locations q ≡ true)
      beside_joins test p q e =
          let ((a, b), c) = (beside_law test p q).0 e in
          ((allowed_state_law p).1 a, (allowed_state_law q).1 b)

      flow_joins : (p q : ℕ) → flow_test m locations p q ≡ true → (allowed_state m locations p ≡ true) × (allowed_state m locations q ≡ true)
      flow_joins p q e =
          let (b, c, f) = flow_is p q e in
          let (a, d) = flow_allowed f in
          ((allowed_state_law p).1 (b, a), (allowed_state_law q).1 (c, d))

      module _ (kept : Capped m) where
        pub system_laws : Laws (system_of m locations)
        unfolding system_of
        system_laws =
            record {
              start_allowed = allowed_number m.start W.start (start_allowed kept m.start);
              allowed_below = λ p e. ((allowed_state_law p).0 e).0;
              flow_joins = flow_joins;
              face_joins = beside_joins face;
              near_joins = beside_joins shares;
            }

        pub labelled_laws : LabelledLaws (labelled_of m locations)
        unfolding labelled_of system_of
        labelled_laws =
            record {
              laws = system_laws;
              flow_next = λ p q e. ((flow_test_lem p q).0 e).1;
              next_flow = λ x p b h c. (flow_test_lem p (step_from m locations x p)).1 (c, (x, b, refl));
            }
