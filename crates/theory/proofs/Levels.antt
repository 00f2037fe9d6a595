-- Laws of distances: `distance_to` is the fewest steps; rounds find it level by level; a number above 0 is just a walk. At the steps of a system:
-- the marked set, and the fewest steps into a forbidden state.
use mathlib.Core.Path.{◌≡◌, refl, sym, ap, ◌∙◌}
use mathlib.Core.Bool.{Bool, true, false, cond}
use mathlib.Core.Logic.{◌⊎◌, inl, inr, ⊎_elim}
use mathlib.Core.List.{List, [], ◌∷◌, ◌++◌}
use Prim.Native.Nat.{ℕ, zero, suc, ◌+◌, ◌-◌, ◌≤◌, ◌<◌}
use native.Mathlib.Omega.{arith}
use native.Mathlib.Nat.{le_antisymm}
use native.Mathlib.Decide.{dec_lt}
use lib.ListN.{length, length-append}
use lib.Dec.{eqb, ltb}
use borrow.Author.Tests.{eqb-true, ltb-true, lt-ltb, le-ltb}
use Rattle.theory.specs.Below.{any, least}
use Rattle.theory.specs.Walk.{Walk, stop, move, Inside, exact, within, dist}
use Rattle.theory.specs.System.{System, Laws}
use Rattle.theory.specs.Marked.{step, marks}
use Rattle.theory.specs.Trail.{trail_steps}
use Rattle.theory.specs.Levels.{distance_to, mark, FoundBelow, Grown, Fewest}
use Rattle.theory.proofs.Below.{any_intro, any_elim, least_min, least_at, bool_ext}
use Rattle.theory.proofs.Walk.{walk_append, walk_below, exact_walk, dist_min, dist_below, dist-exact, dist-le}
use Rattle.theory.proofs.System.{start_below, into_state}
use Rattle.theory.proofs.Marked.{step_inside}

least-any : (n : ℕ) (f : ℕ → Bool) → ltb (least n f) n ≡ any n f
least-any n f =
    bool_ext (ltb (least n f) n) (any n f) (λ e. let l = ltb-true (least n f) n e in any_intro n f (least n f) l (least_at n f l))
    (λ e. let (i, l, t) = any_elim n f e in lt-ltb (least n f) n (omega (arith, least_min n f i l t)))

-- ---- the last edge of a walk

walk_last : {r : ℕ → ℕ → Bool} {p q s : ℕ} {l : List ℕ} → r p q ≡ true → Walk r q s l
    → (x : ℕ) × (m : List ℕ) × Walk r p x m × (r x s ≡ true) × (length m ≡ length l)
walk_last {p = p} e stop = (p, [], stop, e, refl)
walk_last e (move {p = q} f w) = let (x, m, v, g, h) = walk_last f w in (x, q ∷ m, move e v, g, ap suc h)

walk_split : {r : ℕ → ℕ → Bool} {p s : ℕ} {l : List ℕ} (d : ℕ) → Walk r p s l → length l ≡ suc d
    → (x : ℕ) × (m : List ℕ) × Walk r p x m × (r x s ≡ true) × (length m ≡ d)
walk_split d stop h = absurd (omega arith)
walk_split d (move e w) h = let (x, m, v, g, k) = walk_last e w in (x, m, v, g, omega arith)

pub mark_in : (S : ℕ) (r : ℕ → ℕ → Bool) (a p : ℕ) → distance_to S r a p < S → mark S r a p ≡ distance_to S r a p + 1
unfolding mark
mark_in S r a p h = rw (lt-ltb (distance_to S r a p) S h)

pub mark_out : (S : ℕ) (r : ℕ → ℕ → Bool) (a p : ℕ) → S ≤ distance_to S r a p → mark S r a p ≡ 0
unfolding mark
mark_out S r a p h = rw (le-ltb (distance_to S r a p) S h)

pub mark_is : (S : ℕ) (r : ℕ → ℕ → Bool) (a p d : ℕ) → mark S r a p ≡ d + 1 → (distance_to S r a p ≡ d) × (distance_to S r a p < S)
mark_is S r a p d e = by (dec_lt (distance_to S r a p) S)
  where
    by : Dec (distance_to S r a p < S) → (distance_to S r a p ≡ d) × (distance_to S r a p < S)
    by (yes h) = (omega (arith, mark_in S r a p h), h)
    by (no h) = let z : S ≤ distance_to S r a p = omega arith in absurd (omega (arith, mark_out S r a p z))

module _ (S : ℕ) (r : ℕ → ℕ → Bool) (inside : Inside S r) (a : ℕ) (al : a < S) where
  -- ---- `distance_to` is the fewest steps

  pub far_min : (p : ℕ) (l : List ℕ) → Walk r a p l → distance_to S r a p ≤ length l
  unfolding distance_to
  far_min p l w = dist_min S r (λ x. eqb x p) inside a (length l) (into_state w) al

  pub far_below : (p : ℕ) (l : List ℕ) → Walk r a p l → distance_to S r a p < S
  unfolding distance_to
  far_below p l w = dist_below S r (λ x. eqb x p) inside a (length l) (into_state w) al

  pub far_walk : (p : ℕ) → distance_to S r a p < S → (l : List ℕ) × Walk r a p l × (length l ≡ distance_to S r a p)
  unfolding distance_to
  far_walk p h =
      let w = exact_walk S r (λ x. eqb x p) inside (dist S r (λ x. eqb x p) a) a (dist-exact S r (λ x. eqb x p) inside a h) in
      (w.path, rw (eqb-true w.end p w.ends) at w.walk, w.size)

  pub far_inside : (p : ℕ) → distance_to S r a p < S → p < S
  far_inside p h = walk_below inside (far_walk p h).1 al

  pub far_start : distance_to S r a a ≡ 0
  far_start = let h : distance_to S r a a ≤ 0 = far_min a [] stop in omega arith

  pub far_step : (p q : ℕ) → distance_to S r a p < S → r p q ≡ true → (distance_to S r a q ≤ distance_to S r a p + 1) × (distance_to S r a q < S)
  far_step p q h e =
      let (l, w, k) = far_walk p h in
      let v = walk_append w (move e stop) in
      let n : length (l ++ (q ∷ [])) ≡ length l + 1 = length-append l (q ∷ []) in
      (omega (arith, far_min q (l ++ (q ∷ [])) v), far_below q (l ++ (q ∷ [])) v)

  pub far_last : (q d : ℕ) → distance_to S r a q ≡ suc d → suc d < S → (p : ℕ) × (p < S) × (r p q ≡ true) × (distance_to S r a p ≡ d)
  far_last q d h b =
      let (l, w, k) = far_walk q (omega arith) in
      let (p, m, v, e, n) = walk_split d w (k ∙ h) in
      let u = far_min p m v in
      (p, (inside p q e).0, e, omega (arith, (far_step p q (omega arith) e).0))

  -- reached just if the theory's test of a walk says so
  pub far_within : (p : ℕ) → ltb (distance_to S r a p) S ≡ within S r (λ x. eqb x p) S a
  unfolding distance_to dist within
  far_within p = least-any S (λ k. exact S r (λ x. eqb x p) k a)

  -- ---- the rounds

  pub upto_first : (f : ℕ → ℕ) → f a ≡ 1 → ((p : ℕ) → p < S → (p ≡ a → ⊥) → f p ≡ 0) → FoundBelow S r a 1 f
  upto_first f e h = record {
    near = λ p b l k. let w = far_walk p k in let z = at_start w.1 (omega (arith, w.2)) in rw z (omega (arith, far_start));
    rest = λ p b l. h p b (λ z. let c : distance_to S r a p ≡ 0 = rw z far_start in omega arith);
    out = λ p b l. h p b (λ z. let c : distance_to S r a p ≡ 0 = rw z far_start in omega arith);
  }
    where
      at_start : {p q : ℕ} {l : List ℕ} → Walk r p q l → length l ≡ 0 → q ≡ p
      at_start stop h = refl
      at_start (move e w) h = absurd (omega arith)

  module _ (x : ℕ) (f : ℕ → ℕ) (some : 1 ≤ x) (U : FoundBelow S r a x f) where
    -- the nodes at x
    pub upto_at : (p : ℕ) → p < S → f p ≡ x → (distance_to S r a p + 1 ≡ x) × (distance_to S r a p < S)
    upto_at p b e = by (dec_lt (distance_to S r a p) x) (dec_lt (distance_to S r a p) S)
      where
        by : Dec (distance_to S r a p < x) → Dec (distance_to S r a p < S) → (distance_to S r a p + 1 ≡ x) × (distance_to S r a p < S)
        by (yes h) (yes k) = (omega (arith, U.near p b h k), k)
        by (yes h) (no k) = let z : S ≤ distance_to S r a p = omega arith in absurd (omega (arith, U.out p b z))
        by (no h) _ = let z : x ≤ distance_to S r a p = omega arith in absurd (omega (arith, U.rest p b z))

    -- a round
    module _ (g : ℕ → ℕ) (G : Grown S r x f g) where
      kept : (q : ℕ) → q < S → (f q ≡ 0 → ⊥) → g q ≡ f q
      kept q b n = ⊎_elim (λ e. e) (λ t. absurd (n t.0)) (G.each q b)

      none : (q : ℕ) → q < S → f q ≡ 0 → ((p : ℕ) → p < S → f p ≡ x → r p q ≡ true → ⊥) → g q ≡ 0
      none q b z n = ⊎_elim (λ e. e ∙ z) (λ (_, _, (p, pb, e, t)). absurd (n p pb e t)) (G.each q b)

      found : (q : ℕ) → q < S → distance_to S r a q ≡ x → distance_to S r a q < S → g q ≡ distance_to S r a q + 1
      found q b e l =
          let (p, pb, t, h) = far_last q (x - 1) (omega arith) (omega arith) in
          let i = G.all p q pb b (U.near p pb (omega arith) (omega arith) ∙ omega arith) t in
          ⊎_elim (λ k. absurd (omega (arith, U.rest q b (omega arith)))) (λ k. omega (arith, k.1)) (G.each q b)

      pub upto_next : FoundBelow S r a (x + 1) g
      upto_next = record {
        near = λ q b l k. by_near q b l k (dec_lt (distance_to S r a q) x);
        rest = λ q b l. none q b (U.rest q b (omega arith)) (λ p pb e t. let h = upto_at p pb e in omega (arith, (far_step p q h.1 t).0));
        out = λ q b l. none q b (U.out q b l) (λ p pb e t. let h = upto_at p pb e in omega (arith, (far_step p q h.1 t).1));
      }
        where
          by_near : (q : ℕ) → q < S → distance_to S r a q < x + 1 → distance_to S r a q < S → Dec (distance_to S r a q < x) → g q ≡ distance_to S r a q + 1
          by_near q b l k (yes h) = let e = U.near q b h k in kept q b (λ z. omega arith) ∙ e
          by_near q b l k (no h) = found q b (omega arith) k

    -- no node at x: all are found
    module _ (empty : (p : ℕ) → p < S → f p ≡ x → ⊥) where
      gap : (n q : ℕ) → q < S → distance_to S r a q + 1 ≡ x + n → distance_to S r a q < S → ⊥
      gap zero q b e l = empty q b (U.near q b (omega arith) l ∙ omega arith)
      gap (suc n) q b e l = let (p, pb, t, h) = far_last q (distance_to S r a q - 1) (omega arith) (omega arith) in gap n p pb (omega arith) (omega arith)

      pub upto_end : (p : ℕ) → p < S → f p ≡ mark S r a p
      upto_end p b = by (dec_lt (distance_to S r a p) S) (dec_lt (distance_to S r a p) x)
        where
          by : Dec (distance_to S r a p < S) → Dec (distance_to S r a p < x) → f p ≡ mark S r a p
          by (yes h) (yes k) = U.near p b k h ∙ sym (mark_in S r a p h)
          by (yes h) (no k) = absurd (gap (distance_to S r a p + 1 - x) p b (omega arith) h)
          by (no h) _ = let z : S ≤ distance_to S r a p = omega arith in U.out p b z ∙ sym (mark_out S r a p z)

  pub mark-within : (p : ℕ) → ltb 0 (mark S r a p) ≡ within S r (λ x. eqb x p) S a
  unfolding mark
  mark-within p = by (ltb (distance_to S r a p) S) ∙ far_within p
    where
      by : (b : Bool) → ltb 0 (cond b (distance_to S r a p + 1) 0) ≡ b
      by true = lt-ltb 0 (distance_to S r a p + 1) (omega arith)
      by false = refl

  -- ---- the fewest steps into a goal, from the distances

  module _ (goal : ℕ → Bool) where
    pub goal_far : (p : ℕ) → distance_to S r a p < S → goal p ≡ true → dist S r goal a ≤ distance_to S r a p
    goal_far p h g =
        let (l, w, k) = far_walk p h in
        omega (arith, dist_min S r goal inside a (length l) (record { path = l; end = p; walk = w; ends = g; size = refl }) al)

    pub far_goal : dist S r goal a < S → (p : ℕ) × (goal p ≡ true) × (distance_to S r a p ≡ dist S r goal a)
    far_goal h =
        let w = exact_walk S r goal inside (dist S r goal a) a (dist-exact S r goal inside a h) in
        let u = far_min w.end w.path w.walk in
        let e = w.size in
        (w.end, w.ends, omega (arith, goal_far w.end (omega arith) w.ends))

    pub fewest_is : (f : ℕ → ℕ) → ((p : ℕ) → p < S → f p ≡ mark S r a p) → (d : ℕ) → d ≤ S → Fewest S goal f S d → d ≡ dist S r goal a
    fewest_is f m d b F = le_antisymm (up (dec_lt (dist S r goal a) S)) (dn F.some)
      where
        up : Dec (dist S r goal a < S) → d ≤ dist S r goal a
        up (yes h) =
            let (p, g, e) = far_goal h in
            let l : distance_to S r a p < S = omega arith in
            let pb = far_inside p l in
            let k = m p pb ∙ mark_in S r a p l in
            omega (arith, F.least p pb g (omega arith))
        up (no h) = omega arith

        dn : (d ≡ S) ⊎ ((p : ℕ) × (p < S) × (goal p ≡ true) × (f p ≡ d + 1)) → dist S r goal a ≤ d
        dn (inl e) = omega (arith, dist-le S r goal a)
        dn (inr (p, pb, g, e)) = let t = mark_is S r a p d (sym (m p pb) ∙ e) in omega (arith, goal_far p t.1 g)

module _ (S : ℕ) (goal : ℕ → Bool) (f : ℕ → ℕ) where
  pub fewest_first : Fewest S goal f 0 S
  fewest_first = record { least = λ p l. absurd (omega arith); some = inl refl }

module _ (Y : System) (L : Laws Y) where
  -- a number above 0: just the marked states
  pub mark-marks : (p : ℕ) → ltb 0 (mark Y.size (step Y) Y.start p) ≡ marks Y p
  unfolding marks
  mark-marks p = mark-within Y.size (step Y) (step_inside Y L) Y.start (start_below Y L) p

  pub fewest_trail : (f : ℕ → ℕ) → ((p : ℕ) → p < Y.size → f p ≡ mark Y.size (step Y) Y.start p)
      → (d : ℕ) → d ≤ Y.size → Fewest Y.size Y.forbidden f Y.size d → d ≡ trail_steps Y
  unfolding trail_steps
  fewest_trail = fewest_is Y.size (step Y) (step_inside Y L) Y.start (start_below Y L) Y.forbidden
