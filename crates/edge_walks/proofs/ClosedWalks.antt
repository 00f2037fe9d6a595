-- The rounds find just the closed walks, whatever the choice of edges.
use Prim.Native.Nat.{ℕ, suc, zero, ◌≤◌, ◌<◌}
use native.Mathlib.Omega.{arith}
use mathlib.Core.Path.{◌≡◌, refl, sym, ap, subst, ◌∙◌}
use mathlib.Core.List.{List, [], ◌∷◌}
use mathlib.Core.Bool.{Bool, true, false}
use mathlib.Core.Logic.{◌↔◌, inl, inr}
use lib.ListN.{length, get_or, set, replicate, length-set, get_or-replicate}
use lib.Seq.{get_or-set_same, get_or-set_other}
use lib.Dec.{eqb}
use borrow.Author.Tests.{eqb-true, eqb-false, eq-eqb}
use Rattle.number.proofs.Laws.{cond_ind}
use Rattle.model.specs.declared.Model.{Model}
use Rattle.limits.specs.Limits.{max_locations}
use Rattle.limits.proofs.Zeros.{zeros}
use Rattle.model.specs.Each.{each, some_below}
use Rattle.model.specs.Model.{Lawful, source_of, target_of}
use Rattle.edge_walks.specs.Opening.{marked_at, flag_at, Flagged}
use Rattle.edge_walks.specs.Cycle.{DrawingWalk, here, step, ClosedWalk, LeavesUnreset, mark_source, mark_edge, round_of, survivors, has_cycle, Counts, counts, unreset_at, unreset}
use Rattle.model.proofs.Each.{some_law}
use Rattle.model.proofs.Gather.{each_ext}
use Rattle.edge_walks.proofs.Opens.{ends_below, counts_law}
use Rattle.edge_walks.proofs.Pigeonhole.{Mem, Dup, pigeonhole}

-- ---- one round: the sources of the edges that pass and lead to a mark

module _ (m : Model) (good : Lawful m) (pass : ℕ → Bool) (Choice : ℕ → Type 0) (chosen : (e : ℕ) → (pass e ≡ true) ↔ Choice e) where
  swept : List ℕ → ℕ → List ℕ
  swept a n = each n (mark_edge m pass a) (replicate max_locations 0)

  mark_length : (a b : List ℕ) (e : ℕ) → length b ≡ max_locations → length (mark_edge m pass a e b) ≡ max_locations
  unfolding mark_edge
  mark_length a b e h =
      cond_ind (λ (l : List ℕ). length l ≡ max_locations) (pass e)
      (λ _. cond_ind (λ (l : List ℕ). length l ≡ max_locations) (marked_at a (target_of m e)) (λ _. length-set b (source_of m e) 1 ∙ h) (λ _. h))
      (λ _. h)

  swept-length : (a : List ℕ) (n : ℕ) → length (swept a n) ≡ max_locations
  unfolding swept each
  swept-length a zero = refl
  swept-length a (suc n) = mark_length a (each n (mark_edge m pass a) (replicate max_locations 0)) n (swept-length a n)

  -- a mark comes from an edge
  Edge : List ℕ → ℕ → ℕ → Type 0
  Edge a n v = (e : ℕ) × (e < n) × (source_of m e ≡ v) × (pass e ≡ true) × (get_or a (target_of m e) 0 ≡ 1)

  swept_sound : (a : List ℕ) (n v : ℕ) → get_or (swept a n) v 0 ≡ 1 → Edge a n v
  unfolding swept each Edge mark_edge
  swept_sound a zero v = λ h. absurd (omega (arith, zeros max_locations v))
  swept_sound a (suc n) v =
      let ih = swept_sound a n v in
      let b = each n (mark_edge m pass a) (replicate max_locations 0) in
      let more : Edge a n v → Edge a (suc n) v = λ r. (r.0, omega (arith, r.1), r.2, r.3, r.4) in
      cond_ind (λ (l : List ℕ). get_or l v 0 ≡ 1 → Edge a (suc n) v) (pass n)
      (λ k. cond_ind (λ (l : List ℕ). get_or l v 0 ≡ 1 → Edge a (suc n) v) (marked_at a (target_of m n))
      (λ t h. at b k t h (eqb (source_of m n) v) refl (λ p. more (ih p)))
      (λ t h. more (ih h)))
      (λ k h. more (ih h))
    where
      at : (b : List ℕ) → pass n ≡ true → marked_at a (target_of m n) ≡ true → get_or (set b (source_of m n) 1) v 0 ≡ 1
          → (s : Bool) → eqb (source_of m n) v ≡ s → (get_or b v 0 ≡ 1 → Edge a (suc n) v) → Edge a (suc n) v
      at b k t h true q f = (n, omega arith, eqb-true _ _ q, k, eqb-true _ _ t)
      at b k t h false q f = f (sym (get_or-set_other b (source_of m n) v 1 0 (λ z. eqb-false (source_of m n) v q (sym z))) ∙ h)

  -- a mark stays
  mark_stays : (a b : List ℕ) (e v : ℕ) → v < length b → get_or b v 0 ≡ 1 → get_or (mark_edge m pass a e b) v 0 ≡ 1
  unfolding mark_edge
  mark_stays a b e v l h =
      cond_ind (λ (c : List ℕ). get_or c v 0 ≡ 1) (pass e)
      (λ _. cond_ind (λ (c : List ℕ). get_or c v 0 ≡ 1) (marked_at a (target_of m e)) (λ _. at (eqb v (source_of m e)) refl) (λ _. h))
      (λ _. h)
    where
      at : (s : Bool) → eqb v (source_of m e) ≡ s → get_or (set b (source_of m e) 1) v 0 ≡ 1
      at true q = subst (λ (k : ℕ). get_or (set b k 1) v 0 ≡ 1) (eqb-true _ _ q) (get_or-set_same b v 1 0 l)
      at false q = get_or-set_other b (source_of m e) v 1 0 (eqb-false _ _ q) ∙ h

  -- the edge's own mark
  mark_it : (a b : List ℕ) (e : ℕ) → length b ≡ max_locations → pass e ≡ true → get_or a (target_of m e) 0 ≡ 1
      → get_or (mark_edge m pass a e b) (source_of m e) 0 ≡ 1
  unfolding mark_edge
  mark_it a b e len k t = simp (k, eq-eqb _ _ t) (get_or-set_same b (source_of m e) 1 0 (omega (arith, ends_below m good e)))

  swept_complete : (a : List ℕ) (n e : ℕ) → e < n → pass e ≡ true → get_or a (target_of m e) 0 ≡ 1 → get_or (swept a n) (source_of m e) 0 ≡ 1
  unfolding swept each
  swept_complete a zero e h k t = absurd (omega arith)
  swept_complete a (suc n) e h k t = go (eqb e n) refl (swept_complete a n e)
    where
      b : List ℕ
      b = each n (mark_edge m pass a) (replicate max_locations 0)

      len : length b ≡ max_locations
      len = swept-length a n

      go : (s : Bool) → eqb e n ≡ s → (e < n → pass e ≡ true → get_or a (target_of m e) 0 ≡ 1 → get_or b (source_of m e) 0 ≡ 1)
          → get_or (mark_edge m pass a n b) (source_of m e) 0 ≡ 1
      go true q ih = subst (λ (j : ℕ). get_or (mark_edge m pass a j b) (source_of m e) 0 ≡ 1) (eqb-true e n q) (mark_it a b e len k t)
      go false q ih = mark_stays a b n (source_of m e) (omega (arith, len, ends_below m good e)) (ih (let d = eqb-false e n q in omega arith) k t)

  -- ---- k rounds: a walk of k edges starts where there is a mark

  table : ℕ → List ℕ
  table k = each k (λ i a. round_of m pass a) (replicate max_locations 1)

  table_sound : (k v : ℕ) → get_or (table k) v 0 ≡ 1 → (u : ℕ) × DrawingWalk m Choice k v u
  unfolding table each round_of swept Edge
  table_sound zero v h = (v, here)
  table_sound (suc k) v h = go (swept_sound (table k) m.edges v h) (λ w. table_sound k w)
    where
      go : Edge (table k) m.edges v → ((w : ℕ) → get_or (table k) w 0 ≡ 1 → (u : ℕ) × DrawingWalk m Choice k w u) → (u : ℕ) × DrawingWalk m Choice (suc k) v u
      go r ih = let t = ih (target_of m r.0) r.4 in (t.0, step r.0 r.1 r.2 ((chosen r.0).0 r.3) t.1)

  table_complete : {k v u : ℕ} → DrawingWalk m Choice k v u → v < max_locations → get_or (table k) v 0 ≡ 1
  unfolding table each round_of swept
  table_complete {v = v} here h = get_or-replicate max_locations v 1 0 h
  table_complete (step {k = k} e l s q w) h =
      subst (λ (i : ℕ). get_or (table (suc k)) i 0 ≡ 1) s (swept_complete (table k) m.edges e l ((chosen e).1 q) (table_complete w (ends_below m good e).1))

  -- ---- closed walks

  -- from where a walk leads to a closed walk's beginning, walks of every length start
  around : {k v : ℕ} → DrawingWalk m Choice (suc k) v v → (j : ℕ) {a u : ℕ} → DrawingWalk m Choice a u v → (t : ℕ) × DrawingWalk m Choice j u t
  around c zero {u = u} w = (u, here)
  around (step e l s q w) (suc j) here = let r = around (step e l s q w) j w in (r.0, step e l s q r.1)
  around c (suc j) (step e l s q w) = let r = around c j w in (r.0, step e l s q r.1)

  visits : {k v u : ℕ} → DrawingWalk m Choice k v u → List ℕ
  visits {v = v} here = v ∷ []
  visits {v = v} (step e l s q w) = v ∷ visits w

  visits-length : {k v u : ℕ} (w : DrawingWalk m Choice k v u) → length (visits w) ≡ suc k
  unfolding visits
  visits-length here = refl
  visits-length (step e l s q w) = ap suc (visits-length w)

  visits_below : {k v u : ℕ} (w : DrawingWalk m Choice k v u) → v < m.locations → (z : ℕ) → Mem z (visits w) → z < m.locations
  unfolding visits
  visits_below here h z (inl e) = omega arith
  visits_below here h z (inr n) = absurd n
  visits_below (step e l s q w) h z (inl p) = omega arith
  visits_below (step e l s q w) h z (inr p) = visits_below w (good.ranges.target e) z p

  reach : {k v u : ℕ} (w : DrawingWalk m Choice k v u) (z : ℕ) → Mem z (visits w) → (i : ℕ) × DrawingWalk m Choice i v z
  unfolding visits
  reach {v = v} here z (inl p) = (0, subst (λ (y : ℕ). DrawingWalk m Choice 0 v y) (sym p) here)
  reach here z (inr p) = absurd p
  reach {v = v} (step e l s q w) z (inl p) = (0, subst (λ (y : ℕ). DrawingWalk m Choice 0 v y) (sym p) here)
  reach (step e l s q w) z (inr p) = let r = reach w z p in (suc r.0, step e l s q r.1)

  dup_closed : {k v u : ℕ} (w : DrawingWalk m Choice k v u) → Dup (visits w) → ClosedWalk m Choice
  unfolding visits
  dup_closed here (inl p) = absurd p
  dup_closed here (inr p) = absurd p
  dup_closed {v = v} (step e l s q w) (inl p) = let r = reach w v p in (r.0, v, step e l s q r.1)
  dup_closed (step e l s q w) (inr p) = dup_closed w p

  -- a walk of as many edges as there are locations has a closed walk in it
  long_closed : {v u : ℕ} → DrawingWalk m Choice m.locations v u → v < m.locations → ClosedWalk m Choice
  long_closed w h = dup_closed w (pigeonhole m.locations (visits w) (visits_below w h) (omega (arith, visits-length w)))

  -- a walk of one or more edges starts at a location
  starts_below : {k v u : ℕ} → DrawingWalk m Choice (suc k) v u → v < m.locations
  starts_below (step e l s q w) = omega (arith, good.ranges.source e)

  -- ---- the rounds find what they are to find

  cycle_sound : has_cycle m pass ≡ true → ClosedWalk m Choice
  unfolding has_cycle survivors table
  cycle_sound h =
      let r = (some_law max_locations (marked_at (survivors m pass))).0 h in
      let w = table_sound m.locations r.0 (eqb-true _ _ r.2) in
      long_closed w.1 (first_below m.locations good.locations.0 w.1)
    where
      first_below : (k : ℕ) → 1 ≤ k → {v u : ℕ} → DrawingWalk m Choice k v u → v < m.locations
      first_below zero h w = absurd (omega arith)
      first_below (suc k) h w = starts_below w

  cycle_complete : ClosedWalk m Choice → has_cycle m pass ≡ true
  unfolding has_cycle survivors table
  cycle_complete (k, v, w) =
      let b : v < max_locations = omega (arith, starts_below w, good.locations.1) in
      let r = around w m.locations w in
      (some_law max_locations (marked_at (survivors m pass))).1 (v, b, eq-eqb _ _ (table_complete r.1 b))

  pub cycle_law : (has_cycle m pass ≡ true) ↔ ClosedWalk m Choice
  cycle_law = (cycle_sound, cycle_complete)

-- what passes among the edges of the model is all that counts
pub cycle_ext : (m : Model) (pass other : ℕ → Bool) → ((e : ℕ) → e < m.edges → pass e ≡ other e) → has_cycle m pass ≡ has_cycle m other
unfolding has_cycle survivors round_of mark_edge
cycle_ext m pass other same =
    ap (λ (a : List ℕ). some_below max_locations (marked_at a))
    (each_ext m.locations (λ i a. round_of m pass a) (λ i a. round_of m other a) (λ i _ a.
    each_ext m.edges (mark_edge m pass a) (mark_edge m other a) (λ e h b.
    ap (λ (t : Bool). mark_source t (source_of m e) (target_of m e) a b) (same e h)) (replicate max_locations 0)) (replicate max_locations 1))

-- so the search for flagged edges is that for the edges that pass
pub flagged_cycle : {m : Model} {flags : List Bool} {pass : ℕ → Bool} → Flagged m flags pass → has_cycle m (flag_at flags) ≡ has_cycle m pass
flagged_cycle {m} {flags} {pass} f = cycle_ext m (flag_at flags) pass f.at

pub unreset_law : (m : Model) → Lawful m → (unreset m ≡ true) ↔ LeavesUnreset m
unfolding unreset
unreset_law m good = (
  λ h. let (x, l, c) = (some_law m.clocks (unreset_at m)).0 h in (x, l, (walk_law x).0 c),
  λ (x, l, w). (some_law m.clocks (unreset_at m)).1 (x, l, (walk_law x).1 w),
)
  where
    walk_law : (x : ℕ) → (has_cycle m (counts m x) ≡ true) ↔ ClosedWalk m (Counts m x)
    walk_law x = cycle_law m good (counts m x) (Counts m x) (λ e. counts_law m e x)
