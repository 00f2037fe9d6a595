-- What the functions put is what the steps of a model lead to, by the tables of its regions and the flags of its states.
use Prim.Native.Nat.{ℕ, suc, ◌+◌, ◌*◌, ◌≤◌, ◌<◌}
use native.Mathlib.Nat.{add-mul, mul-le-mul_right}
use native.Mathlib.Decide.{dec_lt}
use native.Mathlib.Omega.{arith}
use mathlib.Core.Path.{◌≡◌, sym, ap, ap₂, ◌∙◌, subst}
use mathlib.Core.Bool.{Bool, true, false}
use mathlib.Core.Logic.{◌↔◌, ◌⊎◌, inl, inr, ⊎_elim}
use mathlib.Core.List.{List, []}
use lib.ListN.{length, get_or}
use Rattle.theory.specs.Labels.{Leads}
use Rattle.theory.specs.Region.{regions, close_up, reset_clocks}
use Rattle.theory.specs.RegionGraph.{after, guard_holds}
use Rattle.theory.specs.StateGraph.{regions_of, region_count, index_in, allowed_state}
use Rattle.region.specs.View.{view, mask_bits}
use Rattle.region.specs.declared.Region.{Region}
use Rattle.region_steps.specs.Tables.{Laters}
use Rattle.region_steps.proofs.Tables.{reset_below}
use Rattle.model.specs.declared.Model.{Model}
use Rattle.model.specs.Model.{Lawful, source_of, target_of}
use Rattle.graph.specs.Plan.{edge_of, automaton_of, labelled_of_model}
use Rattle.graph.specs.States.{states}
use Rattle.successors.specs.Flags.{AllowedFlags}
use Rattle.successors.specs.Rows.{Puts}
use Rattle.successors.specs.Flow.{AllowedAt, IfFlagged, TimeTo, regions_in, state_of}
use Rattle.successors.proofs.Rows.{puts_none, puts_same, puts_then}
use Rattle.successors.proofs.Numbers.{state_below}
use Rattle.successors.proofs.Steps.{JumpsTo, Entered, flagged, time_leads, jump_shut, jump_leads}

-- j is the number of the time successor of region i
module _ (later allowed : List ℕ) (base i : ℕ) {j : ℕ} (e : j ≡ get_or later i 0) where
  pub time_found : {t t' : List ℕ} {n n' : ℕ} → j < length later → Puts 1 (IfFlagged allowed (base + j)) t t' n n'
      → Puts 1 (TimeTo later allowed base i) t t' n n'
  time_found h p = puts_same p (λ q. rw e (λ x. (rw e at h, x), λ (l, x). x))

  pub time_past : (t : List ℕ) (n : ℕ) → length later ≤ j → Puts 1 (TimeTo later allowed base i) t t n n
  time_past t n h = puts_none 1 t n (λ q (l, x). omega arith)

module _ {m : Model} {allowed : List ℕ} {count : ℕ} (ok : Lawful m) (f : AllowedFlags m allowed) (c : count ≡ regions_in m) where
  -- a step enters a state whose flag is set
  enters : {l j k : ℕ} (q : ℕ) → l < m.locations → j ≡ k → ((j < count) × IfFlagged allowed (l * count + j) q) ↔ Entered m l k q
  enters {l} {j} {k} q b e = (
    λ (s, (i, t)).
        record {
          some = omega arith;
          is = i ∙ same;
          allowed = subst (λ x. allowed_state (automaton_of m) m.locations x ≡ true) (sym i) ((flagged m ok allowed f (l * count + j) (below s)).0 t);
        },
    λ x.
        let s : j < count = omega (arith, x.some) in
        let i : q ≡ l * count + j = x.is ∙ sym same in
        let t = subst (λ x. allowed_state (automaton_of m) m.locations x ≡ true) i x.allowed in
        (s, (i, (flagged m ok allowed f (l * count + j) (below s)).1 t)),
  )
    where
      same : l * count + j ≡ state_of m l k
      same = ap₂ (λ r x. l * r + x) c e

      below : j < count → l * count + j < states m
      below s = rw same (state_below (automaton_of m) m.locations l k (omega arith) b)

  -- ---- the time step

  pub time_puts : {later : List ℕ} {l i : ℕ} {g : Region} {t t' : List ℕ} {n n' : ℕ} → Laters m.clocks m.ceiling later → AllowedAt m l i g
      → Puts 1 (TimeTo later allowed (l * count) i) t t' n n' → Puts 1 (Leads (labelled_of_model m) 0 (state_of m l i)) t t' n n'
  unfolding region_count automaton_of
  time_puts {l = l} {i = i} w s p = puts_same p (λ q.
      let (x, y) = enters q s.location (w.is i s.region) in
      let (u, v) = time_leads m ok l i s.location s.region s.allowed q in
      (λ (k, g). u (x (omega (arith, w.long), g)), λ z. let (k, g) = y (v z) in (omega (arith, w.long), g)))

  -- ---- the jump along edge e from region i of its source

  module _ {e i : ℕ} {g : Region} (d : e < m.edges) (s : AllowedAt m (source_of m e) i g) where
    guard_at : {b : Bool} → guard_holds (edge_of m e) (view m.clocks g) ≡ b
        → guard_holds (edge_of m e) (get_or (regions_of (automaton_of m)) i []) ≡ b
    unfolding automaton_of
    guard_at o = ap (guard_holds (edge_of m e)) (sym s.is) ∙ o

    pub jump_none : (t : List ℕ) (n : ℕ) → guard_holds (edge_of m e) (view m.clocks g) ≡ false
        → Puts 1 (Leads (labelled_of_model m) (suc e) (state_of m (source_of m e) i)) t t n n
    jump_none t n o = puts_none 1 t n (jump_shut m ok e i d s.region s.allowed (guard_at o))

    -- k is the edge's mask, j the region's number after the reset, y the edge's target
    module _ {k j y : ℕ} (r : k ≡ get_or m.reset e 0)
        (u : j ≡ index_in (regions m.clocks m.ceiling) (close_up (reset_clocks (mask_bits m.clocks k) (view m.clocks g))))
        (v : y ≡ target_of m e) where
      reset_is : j ≡ index_in (regions_of (automaton_of m)) (after (edge_of m e) (get_or (regions_of (automaton_of m)) i []))
      unfolding automaton_of
      reset_is =
          u
          ∙ ap₂ (λ x xs. index_in (regions m.clocks m.ceiling) (close_up (reset_clocks (mask_bits m.clocks x) xs))) r s.is

      below : j < count
      unfolding region_count automaton_of
      below = rw (u, c, s.is) (reset_below m.clocks m.ceiling k i s.region)

      pub target_in : y * count + j < length allowed
      target_in =
          let b : (y + 1) * count ≤ m.locations * count = mul-le-mul_right count (omega (arith, ok.ranges.target e)) in
          let a : m.locations * count ≡ states m = ap (λ x. m.locations * x) c in
          omega (arith, below, f.long, add-mul y 1 count)

      pub jump_puts : {t t' : List ℕ} {n n' : ℕ} → guard_holds (edge_of m e) (view m.clocks g) ≡ true
          → Puts 1 (IfFlagged allowed (y * count + j)) t t' n n'
          → Puts 1 (Leads (labelled_of_model m) (suc e) (state_of m (source_of m e) i)) t t' n n'
      jump_puts o p = puts_same p (λ q.
          let (a, b) = enters q (ok.ranges.target e) reset_is in
          let (f, h) = jump_leads m ok e i d s.region s.allowed (guard_at o) q in
          (λ z. f (a (below, (rw v at z))), λ z. rw v (b (h z)).1))

-- ---- a row: the time step, and the jumps along the edges, one after the other

pub jumps_next : {m : Model} {edges : List ℕ} {p k : ℕ} {t t' t'' : List ℕ} {n n' n'' : ℕ} → Puts k (JumpsTo m edges k p) t t' n n'
    → Puts 1 (Leads (labelled_of_model m) (suc (get_or edges k 0)) p) t' t'' n' n'' → Puts (k + 1) (JumpsTo m edges (k + 1) p) t t'' n n''
jumps_next {m} {edges} {p} {k} a b = puts_then a b (omega arith) (λ q. (
  ⊎_elim (λ j. record { place = j.place; before = omega (arith, j.before); jump = j.jump })
      (λ x. record { place = k; before = omega arith; jump = x }),
  λ j. last j (dec_lt j.place k),
))
  where
    last : {q : ℕ} (j : JumpsTo m edges (k + 1) p q) → Dec (j.place < k)
        → JumpsTo m edges k p q ⊎ Leads (labelled_of_model m) (suc (get_or edges k 0)) p q
    last j (yes l) = inl record { place = j.place; before = l; jump = j.jump }
    last j (no l) = let e : j.place ≡ k = omega (arith, l, j.before) in inr (rw e at j.jump)
