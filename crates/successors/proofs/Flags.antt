-- The flags of the states, location by location and region by region.
use Prim.Native.Nat.{ℕ, ◌+◌, ◌*◌, ◌-◌, ◌≤◌, ◌<◌}
use native.Mathlib.Decide.{dec_lt}
use native.Mathlib.Nat.{add-mul, mul-le-mul_right}
use native.Mathlib.Omega.{arith}
use mathlib.Core.Path.{◌≡◌, refl, sym, ap, ◌∙◌}
use mathlib.Core.Bool.{Bool}
use mathlib.Core.List.{List, [], ◌∷◌}
use lib.ListN.{length, get_or}
use Rattle.theory.specs.Below.{bit}
use Rattle.theory.specs.Region.{regions, fits}
use Rattle.theory.specs.StateGraph.{location_of, region_of, allowed_state}
use Rattle.limits.specs.Limits.{max_clocks}
use Rattle.region.specs.View.{view, Known}
use Rattle.region.specs.Packed.{packed_bound, unpack}
use Rattle.region.specs.declared.Region.{Region}
use Rattle.region_table.proofs.Listed.{listed_known, listed_below}
use Rattle.model.specs.declared.Model.{Model}
use Rattle.model.specs.Model.{Lawful}
use Rattle.graph.specs.Plan.{automaton_of}
use Rattle.graph.specs.States.{Listed, states}
use Rattle.graph.proofs.States.{clocks_of, ceiling_of, count_length, fits_three, location_is, stays_allowed}
use Rattle.successors.specs.Flags.{Flagged, FlagsBelow}
use Rattle.successors.specs.Flow.{regions_in, state_of}
use Rattle.successors.proofs.Numbers.{state_below, state_location, state_region}

region_here : (m : Model) (l i : ℕ) → i < regions_in m → region_of (automaton_of m) (state_of m l i) ≡ get_or (regions m.clocks m.ceiling) i []
unfolding automaton_of
region_here m l i h = state_region (automaton_of m) m.locations l i h

module _ {m : Model} {table : List ℕ} (ok : Lawful m) (listed : Listed m table) where
  pub count_is : length table ≡ regions_in m
  count_is = count_length m ok table listed

  -- ---- region i of the table

  pub packed_below : (i : ℕ) → i < length table → get_or table i 0 < packed_bound
  packed_below = listed_below m.clocks m.ceiling (clocks_of m ok) (ceiling_of m ok) table listed

  pub region_known : {i : ℕ} {g : Region} → i < length table → g ≡ unpack (get_or table i 0)
      → Known m.clocks m.ceiling g × (view m.clocks g ≡ get_or (regions m.clocks m.ceiling) i [])
  region_known {i} {g} h e = listed_known m.clocks m.ceiling (clocks_of m ok) (ceiling_of m ok) table listed i h g e

  pub table_below : (l i : ℕ) → l < m.locations → i < length table → l * length table + i < states m
  table_below l i b h = rw count_is (state_below (automaton_of m) m.locations l i (omega (arith, count_is)) b)

  -- it is within the stay limits of location l where its state is allowed
  stays_is : {l i : ℕ} {g : Region} {s : Bool} → l < m.locations → i < length table → g ≡ unpack (get_or table i 0)
      → s ≡ fits (view m.clocks g) ((automaton_of m).invariant l) → s ≡ allowed_state (automaton_of m) m.locations (l * length table + i)
  stays_is {l} {i} {g} {s} b h e r =
      let p = l * length table + i in
      let below = table_below l i b h in
      let k : i < regions_in m = omega (arith, count_is) in
      let here : p ≡ state_of m l i = ap (λ c. l * c + i) count_is in
      let location = location_is m ok table listed p below ∙ ap (location_of (automaton_of m)) here
      ∙ state_location (automaton_of m) m.locations l i k in
      let (u, v) = region_known h e in
      stays_allowed m ok table listed p below g (u, v ∙ sym (ap (region_of (automaton_of m)) here ∙ region_here m l i k)) s
      (r ∙ ap (λ l. fits (view m.clocks g) ((automaton_of m).invariant l)) (sym location))

  -- ---- the flags of a location

  -- the limits of location l, as the model has them
  abbrev pub limits_of : ℕ → List ℕ
  limits_of l = get_or m.invariant (max_clocks * l) 0 ∷ get_or m.invariant (max_clocks * l + 1) 0 ∷ get_or m.invariant (max_clocks * l + 2) 0 ∷ []

  -- a region of the table is within them where its state is allowed
  within_is : {l i : ℕ} → l < m.locations → i < length table
      → fits (view max_clocks (unpack (get_or table i 0))) (limits_of l) ≡ allowed_state (automaton_of m) m.locations (l * length table + i)
  unfolding automaton_of
  within_is {l} {i} b h =
      let g = unpack (get_or table i 0) in
      stays_is b h refl (fits_three m ok g (region_known h refl).0 m.invariant l)

  pub flags_room : {l : ℕ} → l < m.locations → (flags : List ℕ) → length flags ≡ states m → l * length table + length table ≤ length flags
  flags_room {l} b flags e =
      let a : (l + 1) * length table ≤ m.locations * length table = mul-le-mul_right (length table) (omega arith) in
      let s : m.locations * length table ≡ states m = ap (λ c. m.locations * c) count_is in
      omega (arith, add-mul l 1 (length table))

  pub flags_next : {l : ℕ} {flags flags' : List ℕ} → l < m.locations → FlagsBelow m (l * regions_in m) flags
      → Flagged table (limits_of l) (l * length table) (length table) flags flags' → FlagsBelow m ((l + 1) * regions_in m) flags'
  flags_next {l} {flags} {flags'} b f g = record { long = g.long ∙ f.long; is = λ p h. by p h (dec_lt p (l * length table)) }
    where
      by : (p : ℕ) → p < (l + 1) * regions_in m → Dec (p < l * length table)
          → get_or flags' p 0 ≡ bit (allowed_state (automaton_of m) m.locations p)
      by p h (yes d) = g.kept p d ∙ f.is p (rw count_is at d)
      by p h (no d) =
          let i = p - l * length table in
          let e : l * length table + i ≡ p = omega (arith, d) in
          let s : l * length table ≡ l * regions_in m = ap (λ c. l * c) count_is in
          let k : i < length table = omega (arith, count_is, add-mul l 1 (regions_in m), d) in
          rw e at (g.is i k ∙ ap bit (within_is b k))
