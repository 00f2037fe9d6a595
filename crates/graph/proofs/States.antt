-- Laws for the functions on states: limits of a location and an edge as three numbers, a region of the table and its state, steps by cases.
use Prim.Native.Nat.{ℕ, zero, suc, ◌+◌, ◌*◌, ◌-◌, ◌/◌, ◌%◌, ◌≤◌, ◌<◌}
use native.Mathlib.Nat.{add-zero, zero-add, mod-lt, mul-le-mul}
use native.Mathlib.Omega.{arith}
use mathlib.Core.Path.{◌≡◌, refl, sym, ap, ap₂, ◌∙◌, subst}
use mathlib.Core.Bool.{Bool, true, false, cond, ◌&&◌, and-true, and-false, and_assoc}
use mathlib.Core.List.{List, [], ◌∷◌, map}
use lib.ListN.{length, get_or, take, drop, replicate}
use lib.Dec.{ltb, eqb}
use borrow.Author.Tests.{lt-ltb, le-ltb, eq-eqb, ne_eqb}
use Rattle.theory.specs.Below.{tab}
use Rattle.theory.specs.Region.{Clock, fits, attains, lawful, face, shares, regions, successor, close_up, reset_clocks}
use Rattle.theory.specs.Lists.{from}
use Rattle.theory.specs.RegionGraph.{allowed, guard_holds, after}
use Rattle.theory.specs.StateGraph.{region_count, location_of, region_of, index_in, number_of, allowed_state, state_at, no_edge, edge_at, time_from, jump_from, beside, system_of}
use Rattle.theory.proofs.Region.{lawful_law}
use Rattle.theory.proofs.StateGraph.{at_own_index, number_below, location_below, count_positive}
use Rattle.limits.specs.Limits.{max_clocks, max_regions, max_states}
use Rattle.region.specs.Limits.{Clocks, Ceiling}
use Rattle.region.specs.View.{view, struct_of, Small, time_of, later_of, mask_bits, Known}
use Rattle.region.specs.Packed.{pack, unpack}
use Rattle.region_table.specs.Lookup.{found_in}
use Rattle.region.specs.declared.Region.{Region}
use Rattle.region.proofs.Views.{three, fits-view, attains-view, face-view, shares-view}
use Rattle.region.proofs.Known.{known_small, known_next, known_past, known_reset}
use Rattle.region_table.proofs.Counts.{regions_few}
use Rattle.region_table.proofs.Listed.{known_found, listed_length, listed_known}
use Rattle.model.specs.declared.Model.{Model}
use Rattle.model.specs.Model.{source_of, target_of, Lawful}
use Rattle.std.proofs.Common.{Option, Some, None}
use Rattle.graph.specs.Plan.{entries_at, edge_of, automaton_of}
use Rattle.graph.specs.States.{Listed, states, next_of, joined}

-- the entries of n clocks are the first n of three
entries_three : (xs : List ℕ) (i : ℕ) (n : ℕ) → Clocks n
    → entries_at n xs i ≡ take n (get_or xs (max_clocks * i) 0 ∷ get_or xs (max_clocks * i + 1) 0 ∷ get_or xs (max_clocks * i + 2) 0 ∷ [])
unfolding tab
entries_three xs i =
    three (λ n. entries_at n xs i ≡ take n (get_or xs (max_clocks * i) 0 ∷ get_or xs (max_clocks * i + 1) 0 ∷ get_or xs (max_clocks * i + 2) 0 ∷ []))
    (rw (add-zero (max_clocks * i))) (rw (add-zero (max_clocks * i))) (rw (add-zero (max_clocks * i)))

-- the list of edges by their numbers
at_from : {A : Type 0} (f : ℕ → A) (d : A) (k c e : ℕ) → e < c → get_or (map f (from k c)) e d ≡ f (k + e)
at_from f d k zero e h = absurd (omega arith)
at_from f d k (suc c) zero h = ap f (omega arith)
at_from f d k (suc c) (suc e) h = at_from f d (suc k) c e (omega arith) ∙ ap f (omega arith)

module _ (m : Model) (ok : Lawful m) where
  pub clocks_of : Clocks m.clocks
  clocks_of = record { low = ok.clocks.0; high = ok.clocks.1 }

  pub ceiling_of : Ceiling m.ceiling
  ceiling_of = record { low = ok.ceiling.0; high = ok.ceiling.1 }

  -- ---- limits

  pub fits_three : (g : Region) → Known m.clocks m.ceiling g → (xs : List ℕ) (i : ℕ)
      → fits (view max_clocks g) (get_or xs (max_clocks * i) 0 ∷ get_or xs (max_clocks * i + 1) 0 ∷ get_or xs (max_clocks * i + 2) 0 ∷ [])
      ≡ fits (view m.clocks g) (entries_at m.clocks xs i)
  fits_three g k xs i =
      fits-view m.clocks clocks_of g k.padded _ _ _ ∙ ap (fits (view m.clocks g)) (sym (entries_three xs i m.clocks clocks_of))

  attains_three : (g : Region) → Known m.clocks m.ceiling g → (xs : List ℕ) (i : ℕ)
      → attains (view max_clocks g)
      (get_or xs (max_clocks * i) 0 ∷ cond (ltb m.clocks 2) 0 (get_or xs (max_clocks * i + 1) 0) ∷ cond (ltb m.clocks 3) 0 (get_or xs (max_clocks * i + 2) 0) ∷ [])
      ≡ attains (view m.clocks g) (entries_at m.clocks xs i)
  attains_three g k xs i =
      attains-view m.clocks clocks_of g k.padded _ _ _ (past m.clocks clocks_of)
      ∙ ap (attains (view m.clocks g)) (sym (entries_three xs i m.clocks clocks_of ∙ firsts m.clocks clocks_of))
    where
      a : ℕ
      a = get_or xs (max_clocks * i) 0

      b : ℕ
      b = get_or xs (max_clocks * i + 1) 0

      c : ℕ
      c = get_or xs (max_clocks * i + 2) 0

      past : (n : ℕ) → Clocks n → drop n (a ∷ cond (ltb n 2) 0 b ∷ cond (ltb n 3) 0 c ∷ []) ≡ replicate (max_clocks - n) 0
      past = three (λ n. drop n (a ∷ cond (ltb n 2) 0 b ∷ cond (ltb n 3) 0 c ∷ []) ≡ replicate (max_clocks - n) 0) refl refl refl

      firsts : (n : ℕ) → Clocks n → take n (a ∷ b ∷ c ∷ []) ≡ take n (a ∷ cond (ltb n 2) 0 b ∷ cond (ltb n 3) 0 c ∷ [])
      firsts = three (λ n. take n (a ∷ b ∷ c ∷ []) ≡ take n (a ∷ cond (ltb n 2) 0 b ∷ cond (ltb n 3) 0 c ∷ [])) refl refl refl

  pub small_of : (g : Region) → Known m.clocks m.ceiling g → Small g
  small_of = known_small m.clocks m.ceiling clocks_of ceiling_of

  -- a guard from its lower limits, then its upper ones; a and b are the lower limits of the second and third clock
  module _ (g : Region) (k : Known m.clocks m.ceiling g) (e a b : ℕ)
      (second : a ≡ cond (ltb m.clocks 2) 0 (get_or m.lower (max_clocks * e + 1) 0))
      (third : b ≡ cond (ltb m.clocks 3) 0 (get_or m.lower (max_clocks * e + 2) 0))
      (t : Bool) (r : t ≡ attains (view max_clocks g) (get_or m.lower (max_clocks * e) 0 ∷ a ∷ b ∷ [])) where
    lower_is : attains (view m.clocks g) (entries_at m.clocks m.lower e) ≡ t
    lower_is =
        sym (r ∙ ap₂ (λ x y. attains (view max_clocks g) (get_or m.lower (max_clocks * e) 0 ∷ x ∷ y ∷ [])) second third ∙ attains_three g k m.lower e)

    pub guard_opens : t ≡ true
        → fits (view max_clocks g) (get_or m.upper (max_clocks * e) 0 ∷ get_or m.upper (max_clocks * e + 1) 0 ∷ get_or m.upper (max_clocks * e + 2) 0 ∷ [])
        ≡ guard_holds (edge_of m e) (view m.clocks g)
    unfolding guard_holds
    guard_opens o = rw (lower_is ∙ o) (fits_three g k m.upper e)

    pub guard_shuts : t ≡ false → false ≡ guard_holds (edge_of m e) (view m.clocks g)
    unfolding guard_holds
    guard_shuts o = rw (lower_is ∙ o)

  -- ---- how many

  pub regions_limit : region_count (automaton_of m) ≤ max_regions
  unfolding automaton_of region_count
  regions_limit = regions_few m.clocks m.ceiling clocks_of ceiling_of

  -- "S is L times the count"
  pub states_limit : states m ≤ max_states
  states_limit = mul-le-mul ok.locations.1 regions_limit

  -- ---- the table

  module _ (table : List ℕ) (listed : Listed m table) where
    pub count_length : length table ≡ region_count (automaton_of m)
    unfolding automaton_of region_count
    count_length = listed_length m.clocks m.ceiling clocks_of ceiling_of table listed

    module _ (p : ℕ) (below : p < states m) where
      -- a location's number is p divided by the length, and it is a location
      pub location_is : p / length table ≡ location_of (automaton_of m) p
      unfolding location_of
      location_is = ap (λ c. p / c) count_length

      pub location_in : p / length table < m.locations
      location_in = subst (λ l. l < m.locations) (sym location_is) (location_below (automaton_of m) m.locations p below)

      pub some_region : 0 < length table
      some_region = rw count_length (count_positive (automaton_of m) m.locations p below)

      pub region_in : p % length table < length table
      region_in = mod-lt p some_region

      pub region_is : (g : Region) → g ≡ unpack (get_or table (p % length table) 0)
          → Known m.clocks m.ceiling g × (view m.clocks g ≡ region_of (automaton_of m) p)
      unfolding automaton_of region_of
      region_is g e =
          let (k, v) = listed_known m.clocks m.ceiling clocks_of ceiling_of table listed (p % length table) region_in g e in
          (k, v ∙ ap (λ c. get_or (regions m.clocks m.ceiling) (p % c) []) count_length)

      pub forbidden_is : eqb (get_or m.kind (p / length table) 0) 1 ≡ (system_of (automaton_of m) m.locations).forbidden p
      unfolding system_of automaton_of
      forbidden_is = ap (λ l. eqb (get_or m.kind l 0) 1) location_is

  -- ---- allowed states

  -- a region that is known is allowed exactly where it is within the stay limits
  allowed_is : (l : ℕ) (g : Region) → Known m.clocks m.ceiling g
      → allowed (automaton_of m) l (view m.clocks g) ≡ fits (view m.clocks g) ((automaton_of m).invariant l)
  unfolding allowed automaton_of
  allowed_is l g k = rw k.lawful

  state_allowed : (p : ℕ) (g : Region) → p < states m → Known m.clocks m.ceiling g → view m.clocks g ≡ region_of (automaton_of m) p
      → allowed_state (automaton_of m) m.locations p ≡ fits (view m.clocks g) ((automaton_of m).invariant (location_of (automaton_of m) p))
  unfolding allowed_state
  state_allowed p g h k v = rw (lt-ltb p (states m) h, ← v) (allowed_is (location_of (automaton_of m) p) g k)

  none_at_all : next_of m (states m) ≡ None
  none_at_all = rw (le-ltb (states m) (states m) (omega arith))

  pub at_none : (l : ℕ) (g : Region) → Known m.clocks m.ceiling g → fits (view m.clocks g) ((automaton_of m).invariant l) ≡ false
      → next_of m (state_at (automaton_of m) m.locations l (view m.clocks g)) ≡ None
  unfolding state_at
  at_none l g k f = rw (allowed_is l g k ∙ f) none_at_all

  own_index : (j : ℕ) → j < length (regions m.clocks m.ceiling)
      → index_in (regions m.clocks m.ceiling) (get_or (regions m.clocks m.ceiling) j []) ≡ j
  unfolding automaton_of region_count
  own_index j c = at_own_index (automaton_of m) j c

  pub at_state : (table : List ℕ) → Listed m table → (l i : ℕ) (g : Region) → l < m.locations → Known m.clocks m.ceiling g
      → fits (view m.clocks g) ((automaton_of m).invariant l) ≡ true → found_in table (pack g) ≡ Some i
      → (l * length table + i < states m)
      × (next_of m (state_at (automaton_of m) m.locations l (view m.clocks g)) ≡ Some (l * length table + i))
  unfolding state_at number_of automaton_of
  at_state table listed l i g b k f e =
      let a = automaton_of m in
      let law = (lawful_law m.clocks m.ceiling (view m.clocks g)).0 k.lawful in
      let n = number_below a m.locations l b law in
      let (j, c, r, d) = known_found m.clocks m.ceiling clocks_of ceiling_of g k in
      let same : Some j ≡ Some i = sym d ∙ ap (λ t. found_in t (pack g)) (sym listed) ∙ e in
      let ji : j ≡ i = cc in
      let own : index_in (regions m.clocks m.ceiling) (view m.clocks g) ≡ j = rw r at (own_index j c) in
      let whole : number_of a l (view m.clocks g) ≡ l * length table + i
      = ap₂ (λ c x. l * c + x) (sym (count_length table listed)) (own ∙ ji) in
      let below = subst (λ q. q < states m) whole n in
      (below, rw (allowed_is l g k ∙ f) (ap (next_of m) whole ∙ rw (lt-ltb (l * length table + i) (states m) below)))

  -- every known region is in the table
  pub at_missing : (table : List ℕ) → Listed m table → (g : Region) → Known m.clocks m.ceiling g
      → found_in table (pack g) ≡ None → ⊥
  at_missing table listed g k e =
      let (j, c, r, d) = known_found m.clocks m.ceiling clocks_of ceiling_of g k in
      let same : Some j ≡ None = sym d ∙ ap (λ t. found_in t (pack g)) (sym listed) ∙ e in
      let z : ◌≡◌ {A = ℕ} 0 1 = cc in
      omega arith

  -- ---- steps, by cases; g is the region of the state p

  pub edge_is : (e : ℕ) → e < m.edges → edge_at (automaton_of m) e ≡ edge_of m e
  unfolding automaton_of
  edge_is e d = at_from (edge_of m) no_edge 0 m.edges e d ∙ ap (edge_of m) (zero-add e)

  jump_elsewhere : (e p : ℕ) → e < m.edges → (source_of m e ≡ location_of (automaton_of m) p → ⊥)
      → next_of m (jump_from (automaton_of m) m.locations e p) ≡ None
  unfolding jump_from
  jump_elsewhere e p d n =
      rw (edge_is e d, ne_eqb (source_of m e) (location_of (automaton_of m) p) n) (closed (allowed_state (automaton_of m) m.locations p) _)
    where
      closed : (b : Bool) (q : ℕ) → next_of m (cond (b && false) q (states m)) ≡ None
      closed true q = none_at_all
      closed false q = none_at_all

  -- the state p, its region g, and whether g is within the stay limits, as the code tells them
  module _ (table : List ℕ) (listed : Listed m table) (p : ℕ) (h : p < states m) where
    pub jump_away : (e : ℕ) → e < m.edges → (source_of m e ≡ p / length table → ⊥)
        → None ≡ next_of m (jump_from (automaton_of m) m.locations e p)
    jump_away e d n = sym (jump_elsewhere e p d (λ s. n (s ∙ sym (location_is table listed p h))))

    module _ (g : Region) (d : Known m.clocks m.ceiling g × (view m.clocks g ≡ region_of (automaton_of m) p))
        (b : Bool) (s : b ≡ fits (view m.clocks g) ((automaton_of m).invariant (p / length table))) where
      pub stays_allowed : b ≡ allowed_state (automaton_of m) m.locations p
      stays_allowed =
          s
          ∙ ap (λ l. fits (view m.clocks g) ((automaton_of m).invariant l)) (location_is table listed p h)
          ∙ sym (state_allowed p g h d.0 d.1)

      pub time_shut : b ≡ false → None ≡ next_of m (time_from (automaton_of m) m.locations p)
      unfolding time_from
      time_shut o = rw (sym stays_allowed ∙ o) (sym none_at_all)

      time_is : b ≡ true
          → time_from (automaton_of m) m.locations p
          ≡ state_at (automaton_of m) m.locations (location_of (automaton_of m) p) (successor (view m.clocks g))
      unfolding time_from
      time_is o = rw (sym stays_allowed ∙ o, ← d.1)

      -- past the ceiling there is no lawful region
      pub time_ends : b ≡ true → later_of (time_of m.clocks m.ceiling (view m.clocks g)) ≡ None
          → None ≡ next_of m (time_from (automaton_of m) m.locations p)
      unfolding state_at allowed lawful automaton_of
      time_ends o e = rw (time_is o, known_past m.clocks m.ceiling clocks_of ceiling_of g e) (sym none_at_all)

      module _ (x : Region) (e : later_of (time_of m.clocks m.ceiling (view m.clocks g)) ≡ Some x) where
        pub time_known : Known m.clocks m.ceiling x
        time_known = (known_next m.clocks m.ceiling clocks_of ceiling_of g x d.0 e).0

        pub time_moves : b ≡ true → (r : Option ℕ)
            → r ≡ next_of m (state_at (automaton_of m) m.locations (p / length table) (view m.clocks x))
            → r ≡ next_of m (time_from (automaton_of m) m.locations p)
        time_moves o r t =
            t
            ∙ ap₂ (λ l xs. next_of m (state_at (automaton_of m) m.locations l xs)) (location_is table listed p h)
            (known_next m.clocks m.ceiling clocks_of ceiling_of g x d.0 e).1
            ∙ ap (next_of m) (sym (time_is o))

      module _ (e : ℕ) (l : e < m.edges) where
        pub jump_stuck : b ≡ false → None ≡ next_of m (jump_from (automaton_of m) m.locations e p)
        unfolding jump_from
        jump_stuck o = rw (sym stays_allowed ∙ o) (sym none_at_all)

        module _ (f : source_of m e ≡ p / length table) (o : b ≡ true) where
          starts : eqb (source_of m e) (location_of (automaton_of m) p) ≡ true
          starts = eq-eqb (source_of m e) (location_of (automaton_of m) p) (f ∙ location_is table listed p h)

          pub jump_closed : guard_holds (edge_of m e) (view m.clocks g) ≡ false
              → None ≡ next_of m (jump_from (automaton_of m) m.locations e p)
          unfolding jump_from
          jump_closed c = rw (edge_is e l, sym stays_allowed ∙ o, starts, ← d.1, c) (sym none_at_all)

          jump_is : guard_holds (edge_of m e) (view m.clocks g) ≡ true
              → jump_from (automaton_of m) m.locations e p
              ≡ state_at (automaton_of m) m.locations (target_of m e) (after (edge_of m e) (view m.clocks g))
          unfolding jump_from
          jump_is c = rw (edge_is e l, sym stays_allowed ∙ o, starts, ← d.1, c)

          pub jump_moves : guard_holds (edge_of m e) (view m.clocks g) ≡ true
              → (x : Region) → x ≡ struct_of (close_up (reset_clocks (mask_bits max_clocks (get_or m.reset e 0)) (view max_clocks g)))
              → (r : Option ℕ) → r ≡ next_of m (state_at (automaton_of m) m.locations (target_of m e) (view m.clocks x))
              → r ≡ next_of m (jump_from (automaton_of m) m.locations e p)
          jump_moves c x q r t =
              t
              ∙ ap (λ xs. next_of m (state_at (automaton_of m) m.locations (target_of m e) xs))
              (known_reset m.clocks m.ceiling clocks_of ceiling_of (get_or m.reset e 0) g x d.0 q).1
              ∙ ap (next_of m) (sym (jump_is c))

  pub reset_known : (mask : ℕ) (g x : Region) → Known m.clocks m.ceiling g
      → x ≡ struct_of (close_up (reset_clocks (mask_bits max_clocks mask) (view max_clocks g))) → Known m.clocks m.ceiling x
  reset_known mask g x k q = (known_reset m.clocks m.ceiling clocks_of ceiling_of mask g x k q).0

  -- ---- two states

  module _ (table : List ℕ) (listed : Listed m table) (p q : ℕ) (h : p < states m) (i : q < states m) where
    pub joined_in : p / length table ≡ q / length table → (a b : Bool) → a ≡ allowed_state (automaton_of m) m.locations p → a ≡ true
        → b ≡ allowed_state (automaton_of m) m.locations q → b ≡ joined m p q
    joined_in e a b s o t =
        let same = sym (location_is table listed p h) ∙ e ∙ location_is table listed q i in
        t ∙ rw (sym s ∙ o, eq-eqb (location_of (automaton_of m) p) (location_of (automaton_of m) q) same, and-true)

    pub joined_out : (a : Bool) → a ≡ allowed_state (automaton_of m) m.locations p → a ≡ false → false ≡ joined m p q
    joined_out a s o = rw (sym s ∙ o)

    pub joined_apart : (p / length table ≡ q / length table → ⊥) → false ≡ joined m p q
    joined_apart n =
        let other = ne_eqb (location_of (automaton_of m) p) (location_of (automaton_of m) q)
        (λ e. n (location_is table listed p h ∙ e ∙ sym (location_is table listed q i))) in
        rw (other, and-false)

  module _ (p q : ℕ) (t : Bool) (j : t ≡ joined m p q) (test : List Clock → List Clock → Bool) where
    beside_is : (t && test (region_of (automaton_of m) p) (region_of (automaton_of m) q)) ≡ beside (automaton_of m) m.locations test p q
    unfolding beside
    beside_is =
        ap (λ b. b && test (region_of (automaton_of m) p) (region_of (automaton_of m) q)) j
        ∙ and_assoc (allowed_state (automaton_of m) m.locations p && allowed_state (automaton_of m) m.locations q)
        (eqb (location_of (automaton_of m) p) (location_of (automaton_of m) q)) (test (region_of (automaton_of m) p) (region_of (automaton_of m) q))

    pub beside_in : t ≡ true
        → test (region_of (automaton_of m) p) (region_of (automaton_of m) q) ≡ beside (automaton_of m) m.locations test p q
    beside_in o = sym (ap (λ b. b && test (region_of (automaton_of m) p) (region_of (automaton_of m) q)) o) ∙ beside_is

    pub beside_out : t ≡ false → false ≡ beside (automaton_of m) m.locations test p q
    beside_out o = sym (ap (λ b. b && test (region_of (automaton_of m) p) (region_of (automaton_of m) q)) o) ∙ beside_is

  module _ (p q : ℕ) (g x : Region) (d : Known m.clocks m.ceiling g × (view m.clocks g ≡ region_of (automaton_of m) p))
      (e : Known m.clocks m.ceiling x × (view m.clocks x ≡ region_of (automaton_of m) q)) where
    pub face_of_lem : face (view max_clocks g) (view max_clocks x) ≡ face (region_of (automaton_of m) p) (region_of (automaton_of m) q)
    face_of_lem = face-view m.clocks clocks_of g x d.0.padded e.0.padded ∙ ap₂ face d.1 e.1

    pub shares_of : shares (view max_clocks g) (view max_clocks x) ≡ shares (region_of (automaton_of m) p) (region_of (automaton_of m) q)
    shares_of = shares-view m.clocks clocks_of g x d.0.padded e.0.padded ∙ ap₂ shares d.1 e.1
