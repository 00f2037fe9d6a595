-- Laws of rounds. Over the steps of a graph a node is new after as many rounds as its distance. So there is one number of rounds, the greatest distance
-- plus one, and as many nodes are marked at the least.
use mathlib.Core.Path.{◌≡◌, sym, subst, ◌∙◌}
use mathlib.Core.Bool.{Bool, true, ◌&&◌}
use mathlib.Core.Logic.{◌↔◌, ⊎_elim}
use mathlib.Core.List.{List, [], ◌∷◌, ◌++◌}
use Prim.Native.Nat.{ℕ, zero, suc, ◌+◌, ◌-◌, ◌≤◌, ◌<◌, zero-le}
use native.Mathlib.Omega.{arith}
use native.Mathlib.Nat.{le_antisymm}
use native.Mathlib.Decide.{dec_lt}
use lib.ListN.{length, length-append}
use lib.Dec.{ltb, leb}
use Rattle.theory.specs.Below.{count, top}
use Rattle.theory.specs.Walk.{Walk, stop, move, Inside}
use Rattle.theory.specs.System.{System, Laws}
use Rattle.theory.specs.Marked.{StepIn, MarkedIn, step, marks}
use Rattle.theory.specs.Levels.{distance_to, mark}
use Rattle.theory.specs.Rounds.{MarkedAfter, begin, kept, added, NewAfter, Rounds, rounds}
use Rattle.theory.proofs.Below.{and↔, ltb↔, leb↔, false_unless_true, count_mono, count_strict, top_ge, top_at}
use Rattle.theory.proofs.Walk.{walk_append}
use Rattle.theory.proofs.System.{start_below}
use Rattle.theory.proofs.Marked.{step_is, is_step, step_inside, marked_walk}
use Rattle.theory.proofs.Levels.{mark_in, mark_is, mark-marks, far_min, far_below, far_walk, far_inside, far_last}
use Rattle.theory.specs.Marked as marked

-- ---- over any states

module _ {A : Type 0} {Step : A → A → Type 0} {start : A} where
  -- what is marked stays marked
  pub after_more : {j : ℕ} {s : A} (k : ℕ) → j ≤ k → MarkedAfter Step start j s → MarkedAfter Step start k s
  after_more {j} {s} zero l m = let e : j ≡ 0 = omega arith in subst (λ (n : ℕ). MarkedAfter Step start n s) e m
  after_more {j} {s} (suc k) l m = by (after_more k) (dec_lt k j)
    where
      by : (j ≤ k → MarkedAfter Step start j s → MarkedAfter Step start k s) → Dec (k < j) → MarkedAfter Step start (suc k) s
      by more (yes h) = let e : j ≡ suc k = omega arith in subst (λ (n : ℕ). MarkedAfter Step start n s) e m
      by more (no h) = kept (more (omega arith) m)

  -- a state is new once
  pub new_once : {j k : ℕ} {s : A} → NewAfter Step start j s → NewAfter Step start k s → j ≡ k
  new_once {j} {k} M N = le_antisymm (le M N) (le N M)
    where
      le : {i l : ℕ} {s : A} → NewAfter Step start i s → NewAfter Step start l s → i ≤ l
      le {i} {l} M N = by (dec_lt l i)
        where
          by : Dec (l < i) → i ≤ l
          by (yes h) = absurd (M.not_before l h N.marked)
          by (no h) = omega arith

  -- A round need go over new states only: what it adds is one step from such a state.
  pub new_from : {k : ℕ} {t : A} → NewAfter Step start (suc k) t → (s : A) × NewAfter Step start k s × Step s t
  new_from {k} {t} N = by N.marked
    where
      by : MarkedAfter Step start (suc k) t → (s : A) × NewAfter Step start k s × Step s t
      by (kept m) = absurd (N.not_before k (omega arith) m)
      by (added {s = s} m e) = (s, record { marked = m; not_before = λ j l n. N.not_before (suc j) (omega arith) (added n e) }, e)

  -- there is one number of rounds
  pub rounds_once : {r t : ℕ} → Rounds Step start r → Rounds Step start t → r ≡ t
  rounds_once R T = le_antisymm (le R T) (le T R)
    where
      le : {i l : ℕ} → Rounds Step start i → Rounds Step start l → i ≤ l
      le {i} {l} R T = by (dec_lt l i)
        where
          by : Dec (l < i) → i ≤ l
          by (yes h) = let (s, N) = R.each l h in absurd (T.done s N)
          by (no h) = omega arith

-- the same steps in another form
after_same : {A : Type 0} {R T : A → A → Type 0} {a : A} → ((s t : A) → R s t → T s t) → {k : ℕ} {s : A} → MarkedAfter R a k s → MarkedAfter T a k s
after_same f begin = begin
after_same f (kept m) = kept (after_same f m)
after_same f (added {s = s} {t = t} m e) = added (after_same f m) (f s t e)

module _ {A : Type 0} {R T : A → A → Type 0} {a : A} (f : (s t : A) → R s t → T s t) (g : (s t : A) → T s t → R s t) where
  pub new_same : {k : ℕ} {s : A} → NewAfter R a k s → NewAfter T a k s
  new_same N = record { marked = after_same f N.marked; not_before = λ j l m. N.not_before j l (after_same g m) }

-- ---- over the steps of a graph

module _ (S : ℕ) (r : ℕ → ℕ → Bool) (inside : Inside S r) (a : ℕ) (al : a < S) where
  abbrev Leads : ℕ → ℕ → Type 0
  Leads p q = r p q ≡ true

  -- marked after k rounds: a walk of at most k steps
  after_walk : {k p : ℕ} → MarkedAfter Leads a k p → (l : List ℕ) × Walk r a p l × (length l ≤ k)
  after_walk begin = ([], stop, zero-le)
  after_walk (kept m) = let (l, w, h) = after_walk m in (l, w, omega arith)
  after_walk (added {t = t} m e) =
      let (l, w, h) = after_walk m in
      (l ++ (t ∷ []), walk_append w (move e stop), omega (arith, length-append l (t ∷ [])))

  walk_after : {p s : ℕ} {l : List ℕ} → Walk r p s l → (k n : ℕ) → n ≡ length l + k → MarkedAfter Leads a k p → MarkedAfter Leads a n s
  walk_after {s = s} stop k n c m = let e : k ≡ n = omega arith in subst (λ (n : ℕ). MarkedAfter Leads a n s) e m
  walk_after (move e w) k n c m = walk_after w (suc k) n (omega arith) (added m e)

  after_far : {k p : ℕ} → MarkedAfter Leads a k p → (distance_to S r a p ≤ k) × (distance_to S r a p < S)
  after_far {p = p} m =
      let (l, w, h) = after_walk m in
      (omega (arith, far_min S r inside a al p l w), far_below S r inside a al p l w)

  far_after : (p : ℕ) → distance_to S r a p < S → MarkedAfter Leads a (distance_to S r a p) p
  far_after p h =
      let (l, w, e) = far_walk S r inside a al p h in
      walk_after w 0 (distance_to S r a p) (omega arith) begin

  -- new after as many rounds as its distance
  pub graph_new : (k p : ℕ) → NewAfter Leads a k p ↔ (mark S r a p ≡ k + 1)
  graph_new k p = (to, from)
    where
      to : NewAfter Leads a k p → mark S r a p ≡ k + 1
      to N = let (h, b) = after_far N.marked in by h b (dec_lt (distance_to S r a p) k)
        where
          by : distance_to S r a p ≤ k → distance_to S r a p < S → Dec (distance_to S r a p < k) → mark S r a p ≡ k + 1
          by h b (yes l) = absurd (N.not_before (distance_to S r a p) l (far_after p b))
          by h b (no l) = omega (arith, mark_in S r a p b)

      from : mark S r a p ≡ k + 1 → NewAfter Leads a k p
      from e =
          let (d, b) = mark_is S r a p k e in
          record {
            marked = subst (λ (n : ℕ). MarkedAfter Leads a n p) d (far_after p b);
            not_before = λ j l m. omega (arith, (after_far m).0);
          }

  -- where a node is at a distance, there are nodes at each smaller one
  level_down : (n k p : ℕ) → mark S r a p ≡ n + (k + 1) → (q : ℕ) × (q < S) × (mark S r a q ≡ k + 1)
  level_down zero k p e = let d : mark S r a p ≡ k + 1 = omega arith in (p, far_inside S r inside a al p (mark_is S r a p k d).1, d)
  level_down (suc n) k p e =
      let (d, b) = mark_is S r a p (n + (k + 1)) (omega arith) in
      let (q, c, t, h) = far_last S r inside a al p (n + k) (omega arith) (omega arith) in
      level_down n k q (omega (arith, mark_in S r a q (omega arith)))

  pub each_level : (k : ℕ) → k < top S (mark S r a) → (q : ℕ) × (q < S) × (mark S r a q ≡ k + 1)
  each_level k l =
      ⊎_elim (λ z. absurd (omega arith)) (λ (i, b, e). level_down (top S (mark S r a) - (k + 1)) k i (omega arith)) (top_at S (mark S r a))

  pub graph_rounds : Rounds Leads a (top S (mark S r a))
  graph_rounds = record {
    each = λ k l. let (q, b, e) = each_level k l in (q, (graph_new k q).1 e);
    done = λ p N.
        let e = (graph_new (top S (mark S r a)) p).0 N in
        let b = far_inside S r inside a al p (mark_is S r a p (top S (mark S r a)) e).1 in
        omega (arith, top_ge S (mark S r a) p b);
  }

  -- marked, at a level of at most k
  abbrev up_to : ℕ → ℕ → Bool
  up_to k p = ltb 0 (mark S r a p) && leb (mark S r a p) k

  upto_law : (k p : ℕ) → (up_to k p ≡ true) ↔ ((0 < mark S r a p) × (mark S r a p ≤ k))
  upto_law k p = and↔ (ltb↔ 0 (mark S r a p)) (leb↔ (mark S r a p) k)

  -- each level has a node of its own
  levels_few : (k : ℕ) → k ≤ top S (mark S r a) → k ≤ count S (up_to k)
  levels_few zero l = zero-le
  levels_few (suc k) l =
      let (q, b, e) = each_level k (omega arith) in
      let more = count_strict S (up_to k) (up_to (suc k))
      (λ i _ t. let (x, y) = (upto_law k i).0 t in (upto_law (suc k) i).1 (x, omega arith)) q b
      (false_unless_true (up_to k q) (λ t. let (x, y) = (upto_law k q).0 t in omega arith))
      ((upto_law (suc k) q).1 (omega arith, omega arith)) in
      omega (arith, levels_few k (omega arith))

  pub graph_few : top S (mark S r a) ≤ count S (λ p. ltb 0 (mark S r a p))
  graph_few =
      let n = top S (mark S r a) in
      let all = count_mono S (up_to n) (λ p. ltb 0 (mark S r a p)) (λ i _ t. (ltb↔ 0 (mark S r a i)).1 ((upto_law n i).0 t).0) in
      omega (arith, levels_few n (omega arith))

-- ---- of a system

module _ (Y : System) (L : Laws Y) where
  -- a state is new after as many rounds as its distance
  pub new_law : (k p : ℕ) → NewAfter (StepIn Y) Y.start k p ↔ (mark Y.size (step Y) Y.start p ≡ k + 1)
  new_law k p =
      let law = graph_new Y.size (step Y) (step_inside Y L) Y.start (start_below Y L) k p in
      (λ N. law.0 (new_same (is_step Y L) (step_is Y L) N), λ e. new_same (step_is Y L) (is_step Y L) (law.1 e))

  -- `rounds` is the number of rounds
  pub rounds_are : Rounds (StepIn Y) Y.start (rounds Y)
  unfolding rounds
  rounds_are =
      let R = graph_rounds Y.size (step Y) (step_inside Y L) Y.start (start_below Y L) in
      record {
        each = λ k l. let (p, N) = R.each k l in (p, new_same (step_is Y L) (is_step Y L) N);
        done = λ p N. R.done p (new_same (is_step Y L) (step_is Y L) N);
      }

  pub rounds_law : (n : ℕ) → Rounds (StepIn Y) Y.start n ↔ (n ≡ rounds Y)
  rounds_law n = (λ R. rounds_once R rounds_are, λ e. subst (Rounds (StepIn Y) Y.start) (sym e) rounds_are)

  -- 02: "at most as many rounds as there are marked states"
  pub rounds_few : rounds Y ≤ count Y.size (marks Y)
  unfolding rounds
  rounds_few =
      let f = mark Y.size (step Y) Y.start in
      let same = count_mono Y.size (λ p. ltb 0 (f p)) (marks Y) (λ p _ t. sym (mark-marks Y L p) ∙ t) in
      omega (arith, graph_few Y.size (step Y) (step_inside Y L) Y.start (start_below Y L))

  -- the rounds mark the marked set
  pub after_marked : {k p : ℕ} → MarkedAfter (StepIn Y) Y.start k p → MarkedIn Y p
  after_marked begin = marked.begin
  after_marked (kept m) = after_marked m
  after_marked (added m t) = marked.onward (after_marked m) t

  pub marked_after : {p : ℕ} → MarkedIn Y p → MarkedAfter (StepIn Y) Y.start (rounds Y) p
  unfolding rounds
  marked_after {p} m =
      let f = mark Y.size (step Y) Y.start in
      let d = distance_to Y.size (step Y) Y.start p in
      let (l, w) = marked_walk Y L m in
      let b = far_below Y.size (step Y) (step_inside Y L) Y.start (start_below Y L) p l w in
      let e = mark_in Y.size (step Y) Y.start p b in
      let h = top_ge Y.size f p (far_inside Y.size (step Y) (step_inside Y L) Y.start (start_below Y L) p b) in
      let N = (new_law d p).1 e in
      after_more (top Y.size f) (omega arith) N.marked
