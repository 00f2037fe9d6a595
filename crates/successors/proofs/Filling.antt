-- The rows as the code fills them: a row of region i of location l, and the rows of a location.
use Prim.Native.Nat.{ℕ, suc, ◌+◌, ◌*◌, ◌≤◌, ◌<◌}
use native.Mathlib.Nat.{add-mul, mul-add, mul-le-mul_left, mul-le-mul_right}
use native.Mathlib.Omega.{arith}
use mathlib.Core.Path.{◌≡◌, refl, sym, ap, ◌∙◌, subst}
use mathlib.Core.Bool.{Bool, true, false}
use mathlib.Core.List.{List}
use lib.ListN.{length, get_or, set}
use Rattle.theory.specs.Below.{bit}
use Rattle.theory.specs.Labels.{Leads}
use Rattle.theory.specs.StateGraph.{region_count, allowed_state}
use Rattle.region.specs.Packed.{unpack}
use Rattle.region.specs.declared.Region.{Region}
use Rattle.model.specs.declared.Model.{Model}
use Rattle.model.specs.Model.{source_of}
use Rattle.graph.specs.Plan.{automaton_of, system_of_model, labelled_of_model}
use Rattle.graph.specs.States.{states}
use Rattle.limits.specs.Limits.{max_states}
use Rattle.successors.specs.Rows.{Puts, HoldsBelow}
use Rattle.successors.specs.Flow.{Given, LeavingEdges, AllowedAt, TimeTo, regions_in, state_of, FlowLists, room}
use Rattle.successors.proofs.Rows.{puts_none, puts_then, holds_more, holds_all}
use Rattle.successors.proofs.Flags.{count_is, region_known, table_below}
use Rattle.successors.proofs.Leaving.{leaving_at}
use Rattle.successors.proofs.Steps.{JumpsTo, flow_below, no_steps, row}
use Rattle.successors.proofs.Tables.{time_puts, jumps_next}
use Rattle.successors.proofs.Room.{states_limit, room_next, room_most}

bit_off : (b : Bool) → bit b ≡ 0 → b ≡ false
bit_off true e = absurd (omega arith)
bit_off false e = refl

bit_on : (b : Bool) → (bit b ≡ 0 → ⊥) → b ≡ true
bit_on true e = refl
bit_on false e = absurd (e refl)

module _ {m : Model} {table later index allowed : List ℕ} (given : Given m table later index allowed) where
  count_here : length table ≡ regions_in m
  count_here = count_is given.lawful given.listed

  -- ---- region i of location l

  module _ {l i : ℕ} (b : l < m.locations) (h : i < length table) where
    state_in : l * length table + i < states m
    state_in = table_below given.lawful given.listed l i b h

    region_in : i < regions_in m
    region_in = omega (arith, count_here)

    flag_is : get_or allowed (l * length table + i) 0 ≡ bit (allowed_state (automaton_of m) m.locations (state_of m l i))
    flag_is =
        given.flags.is (l * length table + i) state_in
        ∙ ap (λ c. bit (allowed_state (automaton_of m) m.locations (l * c + i))) count_here

    pub flag_in : l * length table + i < length allowed
    flag_in = omega (arith, state_in, given.flags.long)

    pub time_room : (i < length later) × (l * length table + length later ≤ length allowed) × (length allowed ≤ max_states)
    unfolding automaton_of region_count
    time_room =
        let a : (l + 1) * length table ≤ m.locations * length table = mul-le-mul_right (length table) (omega arith) in
        let s : m.locations * length table ≡ states m = ap (λ c. m.locations * c) count_here in
        let e : length later ≡ length table = given.laters.long ∙ sym count_here in
        let f = given.flags.long in
        (omega arith, omega (arith, add-mul l 1 (length table)), omega (arith, states_limit given.lawful))

    -- its flag is 0: it has no steps
    pub row_none : (edges t : List ℕ) (n : ℕ) → get_or allowed (l * length table + i) 0 ≡ 0
        → Puts (length edges + 1) (λ q. (system_of_model m).flow (state_of m l i) q ≡ true) t t n n
    row_none edges t n e =
        puts_none (length edges + 1) t n (λ q. no_steps m given.lawful (state_of m l i) q (bit_off _ (sym flag_is ∙ e)))

    -- or it is allowed
    pub allowed_here : {g : Region} → g ≡ unpack (get_or table i 0) → (get_or allowed (l * length table + i) 0 ≡ 0 → ⊥) → AllowedAt m l i g
    allowed_here e on =
        let (k, v) = region_known given.lawful given.listed h e in
        record { location = b; region = region_in; known = k; is = v; allowed = bit_on _ (λ o. on (flag_is ∙ o)) }

  -- ---- its row: k edges have been passed

  module _ {edges : List ℕ} {l i k : ℕ} {g : Region} (leaves : LeavingEdges m l edges) (a : AllowedAt m l i g) where
    -- the next edge, x
    module _ {x : ℕ} (h : k < length edges) (r : x ≡ get_or edges k 0) where
      leaves_here : (x < m.edges) × (source_of m x ≡ l)
      leaves_here = rw (r, leaves.are) (leaving_at m l k (rw leaves.are at h))

      pub edge_below : x < m.edges
      edge_below = leaves_here.0

      pub edge_here : AllowedAt m (source_of m x) i g
      edge_here = rw leaves_here.1 a

      pub jumps_turn : {t t' t'' : List ℕ} {n n' n'' : ℕ} → Puts k (JumpsTo m edges k (state_of m l i)) t t' n n'
          → Puts 1 (Leads (labelled_of_model m) (suc x) (state_of m (source_of m x) i)) t' t'' n' n''
          → Puts (k + 1) (JumpsTo m edges (k + 1) (state_of m l i)) t t'' n n''
      jumps_turn p s = jumps_next p (rw (leaves_here.1, r) at s)

    pub row_end : {t t' t'' : List ℕ} {n n' n'' : ℕ} → k ≡ length edges → Puts 1 (TimeTo later allowed (l * length table) i) t t' n n'
        → Puts k (JumpsTo m edges k (state_of m l i)) t' t'' n' n''
        → Puts (length edges + 1) (λ q. (system_of_model m).flow (state_of m l i) q ≡ true) t t'' n n''
    row_end e p s =
        puts_then (time_puts given.lawful given.flags count_here given.laters a p) s (omega arith)
        (λ q. rw (e, leaves.are) (row m given.lawful l i a.location a.region q))

  -- ---- the rows of a location: after those of i regions n places are taken

  abbrev pub Taken : List ℕ → ℕ → ℕ → ℕ → Type 0
  Taken edges l i n = n ≤ room m l + (length edges + 1) * i

  module _ {edges : List ℕ} {l : ℕ} (leaves : LeavingEdges m l edges) where
    room_all : room m (l + 1) ≡ room m l + (length edges + 1) * regions_in m
    room_all = rw leaves.are (room_next m l)

    pub room_left : {i n : ℕ} → i < length table → Taken edges l i n → n + (length edges + 1) ≤ states m + m.edges * regions_in m
    room_left {i} {n} h t =
        let a : (length edges + 1) * (i + 1) ≤ (length edges + 1) * regions_in m
        = mul-le-mul_left (length edges + 1) (omega (arith, count_here)) in
        omega (arith, room_all, room_most m (l + 1) (omega (arith, leaves.location)), mul-add (length edges + 1) i 1)

    pub rows_turn : {i n n' : ℕ} {first t t' : List ℕ} → i < length table
        → HoldsBelow first t (states m) (system_of_model m).flow (state_of m l i) n
        → Puts (length edges + 1) (λ q. (system_of_model m).flow (state_of m l i) q ≡ true) t t' n n'
        → HoldsBelow (set first (l * length table + (i + 1)) n') t' (states m) (system_of_model m).flow (state_of m l (i + 1)) n'
    rows_turn {i} {n' = n'} {first = first} {t' = t'} h a p =
        let step : suc (state_of m l i) ≡ state_of m l (i + 1) = omega arith in
        rw count_here (subst (λ x. HoldsBelow (set first x n') t' (states m) (system_of_model m).flow x n') step
        (holds_more a p (flow_below m given.lawful (state_of m l i)) (rw count_here at (state_in leaves.location h))))

    pub rows_end : {i n : ℕ} {first t : List ℕ} → i ≡ length table → Taken edges l i n
        → HoldsBelow first t (states m) (system_of_model m).flow (state_of m l i) n
        → (n ≤ room m (l + 1)) × HoldsBelow first t (states m) (system_of_model m).flow ((l + 1) * regions_in m) n
    rows_end {i} {n} {first} {t} e k a =
        let c : i ≡ regions_in m = e ∙ count_here in
        let s : (length edges + 1) * i ≡ (length edges + 1) * regions_in m = ap (λ x. (length edges + 1) * x) c in
        let p : state_of m l i ≡ (l + 1) * regions_in m = omega (arith, add-mul l 1 (regions_in m)) in
        (omega (arith, room_all), subst (λ p. HoldsBelow first t (states m) (system_of_model m).flow p n) p a)

  -- ---- the rows of all locations

  pub flow_room : {n : ℕ} → states m + m.edges * length table ≤ n → states m + m.edges * regions_in m ≤ n
  flow_room h = rw count_here at h

  pub flow_end : {l n : ℕ} {first t : List ℕ} → l ≡ m.locations → n ≤ room m l → states m + m.edges * length table ≤ length t
      → HoldsBelow first t (states m) (system_of_model m).flow (l * regions_in m) n → FlowLists m first t
  flow_end {l} {n} {first} {t} e k h a =
      let b : HoldsBelow first t (states m) (system_of_model m).flow (states m) n = rw e at a in
      let r = room_most m l (omega arith) in
      record { holds = holds_all b (omega (arith, flow_room h)); few = omega (arith, b.here) }

-- one row more takes its edges and one place more
pub taken_more : (i r e : ℕ) {n n' : ℕ} → n ≤ r + (e + 1) * i → n' ≤ n + (e + 1) → n' ≤ r + (e + 1) * (i + 1)
taken_more i r e h k = omega (arith, mul-add (e + 1) i 1)
