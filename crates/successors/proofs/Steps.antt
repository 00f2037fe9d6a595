-- The steps of a model by the tables: time and jump lead to the state of a region's index, and the row of a state is its time step and the
-- jumps along the edges that leave its location.
use Prim.Native.Nat.{ℕ, zero, suc, ◌<◌}
use native.Mathlib.Omega.{arith}
use mathlib.Core.Path.{◌≡◌, refl, sym, ap, ◌∙◌, subst}
use mathlib.Core.Bool.{Bool, true, false, true≢false, false≢true}
use mathlib.Core.Logic.{◌↔◌, ◌⊎◌, inl, inr, ⊎_elim}
use mathlib.Core.List.{List, [], Memᴰ}
use lib.ListN.{length, get_or}
use Rattle.graph.proofs.Plan.{edges_length}
use Rattle.theory.specs.Below.{bit}
use Rattle.theory.specs.Labels.{Leads}
use Rattle.theory.specs.Region.{Clock, successor}
use Rattle.theory.specs.RegionGraph.{Allowed, Enabled, after, guard_holds}
use Rattle.theory.specs.StateGraph.{regions_of, location_of, region_of, index_in, number_of, allowed_state, no_edge, edge_at, jump_from, step_from, system_of, labelled_of}
use Rattle.theory.proofs.Sorted.{at_in}
use Rattle.theory.proofs.Region.{guard_law}
use Rattle.theory.proofs.StateGraph.{time_law, jump_law}
use Rattle.model.specs.declared.Model.{Model}
use Rattle.model.specs.Model.{Lawful, source_of, target_of}
use Rattle.graph.specs.Plan.{edge_of, automaton_of, system_of_model, labelled_of_model}
use Rattle.graph.specs.States.{states}
use Rattle.graph.proofs.States.{edge_is}
use Rattle.graph.proofs.Models.{system_laws, labelled_laws}
use Rattle.successors.specs.Flags.{AllowedFlags}
use Rattle.successors.specs.Flow.{regions_in, state_of, leaving}
use Rattle.successors.proofs.Leaving.{at_leaving}
use Rattle.successors.proofs.Numbers.{state_below, state_location, state_region, enters}

-- one of the first n of these edges leads from p to q
pub record JumpsTo (m : Model) (edges : List ℕ) (n p q : ℕ) : Type 0 where
  pub place : ℕ
  pub before : place < n
  pub jump : Leads (labelled_of_model m) (suc (get_or edges place 0)) p q

-- q is the allowed state of location l and the region with index j
pub record Entered (m : Model) (l j q : ℕ) : Type 0 where
  pub some : j < regions_in m
  pub is : q ≡ state_of m l j
  pub allowed : allowed_state (automaton_of m) m.locations q ≡ true

pub bit_one : (b : Bool) → (bit b ≡ 1) ↔ (b ≡ true)
bit_one true = (λ e. refl, λ e. refl)
bit_one false = (λ e. absurd (omega arith), λ e. absurd (false≢true e))

module _ (m : Model) (ok : Lawful m) where
  -- the flag of a state
  pub flagged : (allowed : List ℕ) → AllowedFlags m allowed → (q : ℕ) → q < states m
      → (get_or allowed q 0 ≡ 1) ↔ (allowed_state (automaton_of m) m.locations q ≡ true)
  flagged allowed f q h =
      let (a, b) = bit_one (allowed_state (automaton_of m) m.locations q) in
      (λ e. a (sym (f.is q h) ∙ e), λ e. f.is q h ∙ b e)

  -- ---- a row

  pub flow_below : (p q : ℕ) → (system_of_model m).flow p q ≡ true → q < states m
  unfolding system_of
  flow_below p q t = (system_laws m ok).allowed_below q ((system_laws m ok).flow_joins p q t).1

  -- time and jump steps are those of a label
  flow_leads : (p q : ℕ) → p < states m → ((system_of_model m).flow p q ≡ true) ↔ ((x : ℕ) × Leads (labelled_of_model m) x p q)
  unfolding labelled_of system_of
  flow_leads p q h =
      let laws = labelled_laws m ok in (
        λ t.
            let (x, l, e) = laws.flow_next p q t in
            (x, (l, e, flow_below p q t)),
        λ (x, (l, e, b)). subst (λ q. (system_of_model m).flow p q ≡ true) e (laws.next_flow x p l h (rw e b)),
      )

  -- a state that is not allowed has no steps
  pub no_steps : (p q : ℕ) → allowed_state (automaton_of m) m.locations p ≡ false → (system_of_model m).flow p q ≡ true → ⊥
  unfolding system_of
  no_steps p q f t = true≢false (sym ((system_laws m ok).flow_joins p q t).0 ∙ f)

  target_below : (e : ℕ) → e < m.edges → (edge_at (automaton_of m) e).target < m.locations
  target_below e d = rw (edge_is m ok e d) (ok.ranges.target e)

  -- ---- region i of location l

  module _ (l i : ℕ) (b : l < m.locations) (h : i < regions_in m) where
    here_below : state_of m l i < states m
    here_below = state_below (automaton_of m) m.locations l i h b

    here_location : location_of (automaton_of m) (state_of m l i) ≡ l
    here_location = state_location (automaton_of m) m.locations l i h

    here_region : region_of (automaton_of m) (state_of m l i) ≡ get_or (regions_of (automaton_of m)) i []
    here_region = state_region (automaton_of m) m.locations l i h

    -- a jump goes along an edge that leaves l
    jumps : (e q : ℕ) → Leads (labelled_of_model m) (suc e) (state_of m l i) q
        → JumpsTo m (leaving m l) (length (leaving m l)) (state_of m l i) q
    unfolding labelled_of step_from system_of
    jumps e q (a, j, c) =
        let d : e < m.edges = omega (arith, edges_length m) in
        let (t, o, r, n) = (jump_law (automaton_of m) m.locations e (state_of m l i) q (omega arith) (target_below e d)).0 (j, c) in
        let s : source_of m e ≡ l = ap (λ g. g.source) (sym (edge_is m ok e d)) ∙ o.here ∙ here_location in
        let (k, u, v) = at_leaving m l e d s in
        record { place = k; before = u; jump = rw v (a, j, c) }

    -- its row
    pub row : (q : ℕ)
        → (Leads (labelled_of_model m) 0 (state_of m l i) q ⊎ JumpsTo m (leaving m l) (length (leaving m l)) (state_of m l i) q)
        ↔ ((system_of_model m).flow (state_of m l i) q ≡ true)
    row q = (
      ⊎_elim (λ x. (flow_leads (state_of m l i) q here_below).1 (0, x))
          (λ j. (flow_leads (state_of m l i) q here_below).1 (suc (get_or (leaving m l) j.place 0), j.jump)),
      λ t. let (x, k) = (flow_leads (state_of m l i) q here_below).0 t in by x k,
    )
      where
        by : (x : ℕ) → Leads (labelled_of_model m) x (state_of m l i) q
            → Leads (labelled_of_model m) 0 (state_of m l i) q ⊎ JumpsTo m (leaving m l) (length (leaving m l)) (state_of m l i) q
        by zero k = inl k
        by (suc e) k = inr (jumps e q k)

    module _ (t : allowed_state (automaton_of m) m.locations (state_of m l i) ≡ true) where
      -- time leads to the state of the successor's index
      pub time_leads : (q : ℕ) → Entered m l (index_in (regions_of (automaton_of m)) (successor (get_or (regions_of (automaton_of m)) i []))) q
          ↔ Leads (labelled_of_model m) 0 (state_of m l i) q
      unfolding labelled_of step_from system_of
      time_leads q =
          let law = rw (here_location, here_region) at (time_law (automaton_of m) m.locations (state_of m l i) q) in
          let (f, g) = enters (automaton_of m) m.locations l (successor (get_or (regions_of (automaton_of m)) i [])) q b in (
            λ x. let (u, v) = g (x.some, x.is, x.allowed) in let (e, c) = law.1 (t, u, v) in (omega arith, e, c),
            λ (a, e, c).
                let (o, u, v) = law.0 (e, c) in
                let (x, y, z) = f (u, v) in
                record { some = x; is = y; allowed = z },
          )

  -- ---- the jump along edge e from region i of its source

  module _ (e i : ℕ) (d : e < m.edges) (h : i < regions_in m)
      (t : allowed_state (automaton_of m) m.locations (state_of m (source_of m e) i) ≡ true) where
    from_below : source_of m e < m.locations
    from_below = ok.ranges.source e

    at_region : List Clock
    at_region = get_or (regions_of (automaton_of m)) i []

    drawn : Memᴰ (edge_of m e) (automaton_of m).edges
    drawn = rw (edge_is m ok e d) at (at_in no_edge (automaton_of m).edges e (omega (arith, edges_length m)))

    -- the theory's law of a jump, at this edge and region
    jump_here : (q : ℕ)
        → ((jump_from (automaton_of m) m.locations e (state_of m (source_of m e) i) ≡ q) × (q < states m))
        ↔ ((allowed_state (automaton_of m) m.locations (state_of m (source_of m e) i) ≡ true)
        × Enabled (automaton_of m) (edge_of m e) (source_of m e) at_region
        × Allowed (automaton_of m) (target_of m e) (after (edge_of m e) at_region)
        × (q ≡ number_of (automaton_of m) (target_of m e) (after (edge_of m e) at_region)))
    unfolding at_region
    jump_here q =
        rw (edge_is m ok e d, here_location (source_of m e) i from_below h, here_region (source_of m e) i from_below h) at
        (jump_law (automaton_of m) m.locations e (state_of m (source_of m e) i) q (omega (arith, edges_length m)) (target_below e d))

    -- where the guard does not hold, there is none
    pub jump_shut : guard_holds (edge_of m e) (get_or (regions_of (automaton_of m)) i []) ≡ false
        → (q : ℕ) → Leads (labelled_of_model m) (suc e) (state_of m (source_of m e) i) q → ⊥
    unfolding labelled_of step_from system_of at_region
    jump_shut f q (a, j, c) =
        let (u, o, v, n) = (jump_here q).0 (j, c) in
        true≢false (sym ((guard_law (edge_of m e) at_region).1 (o.low, o.high)) ∙ f)

    -- where it holds, the jump leads to the state of the index after the reset
    pub jump_leads : guard_holds (edge_of m e) (get_or (regions_of (automaton_of m)) i []) ≡ true
        → (q : ℕ)
        → Entered m (target_of m e)
        (index_in (regions_of (automaton_of m)) (after (edge_of m e) (get_or (regions_of (automaton_of m)) i []))) q
        ↔ Leads (labelled_of_model m) (suc e) (state_of m (source_of m e) i) q
    unfolding labelled_of step_from system_of at_region
    jump_leads o q =
        let (low, high) = (guard_law (edge_of m e) at_region).0 o in
        let (f, g) = enters (automaton_of m) m.locations (target_of m e) (after (edge_of m e) at_region) q (ok.ranges.target e) in (
          λ x.
              let (u, v) = g (x.some, x.is, x.allowed) in
              let (j, c) = (jump_here q).1 (t, record { drawn = drawn; here = refl; low = low; high = high }, u, v) in
              (omega (arith, edges_length m), j, c),
          λ (a, j, c).
              let (w, k, u, v) = (jump_here q).0 (j, c) in
              let (x, y, z) = f (u, v) in
              record { some = x; is = y; allowed = z },
        )
