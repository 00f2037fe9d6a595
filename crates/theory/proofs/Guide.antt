-- Laws of `good`; the walk that the flags choose is `greedy`.
use mathlib.Core.Path.{◌≡◌, refl, sym, ap, ◌∙◌}
use mathlib.Core.Bool.{Bool, true, false, cond, ◌&&◌}
use mathlib.Core.Logic.{◌⊎◌, inl, inr}
use mathlib.Core.List.{List, [], ◌∷◌, ◌++◌, append_assoc, append-nil}
use Prim.Native.Nat.{ℕ, zero, suc, ◌+◌, ◌-◌, ◌≤◌, ◌<◌}
use native.Mathlib.Omega.{arith}
use native.Mathlib.Numerals.{add-one}
use native.Mathlib.Decide.{dec_lt}
use lib.ListN.{length, length-append, take, set}
use lib.Seq.{take-suc-set}
use lib.Dec.{eqb, leb}
use borrow.Author.Tests.{eqb-true, eq-eqb, leb-true, le-leb}
use Rattle.theory.specs.Below.{any, least}
use Rattle.theory.specs.Walk.{Inside, exact, dist, greedy}
use Rattle.theory.specs.Levels.{distance_to, mark}
use Rattle.theory.specs.Guide.{good, next, Flagged, Along}
use Rattle.theory.proofs.Below.{any_intro, any_elim, any-and_intro, any-and_elim, and_intro, and_left, and_right, either, least-and, bool_ext}
use Rattle.theory.proofs.Walk.{walk_append, exact_walk, dist_min, dist-exact}
use Rattle.theory.proofs.Levels.{far_walk, far_start, far_step, mark_in, mark_out}

-- ---- tests that agree below the bound

pub any_same : (n : ℕ) (f g : ℕ → Bool) → ((i : ℕ) → i < n → f i ≡ g i) → any n f ≡ any n g
any_same n f g h =
    bool_ext (any n f) (any n g) (λ e. let (i, l, t) = any_elim n f e in any_intro n g i l (sym (h i l) ∙ t))
    (λ e. let (i, l, t) = any_elim n g e in any_intro n f i l (h i l ∙ t))

pub least_same : (n : ℕ) (f g : ℕ → Bool) → ((i : ℕ) → i < n → f i ≡ g i) → least n f ≡ least n g
unfolding least
least_same zero f g h = refl
least_same (suc n) f g h =
    rw (h zero (omega arith)) (ap (λ (x : ℕ). cond (g zero) zero (suc x))
    (least_same n (λ i. f (suc i)) (λ i. g (suc i)) (λ i l. h (suc i) (omega arith))))

pub mark-le : (S : ℕ) (r : ℕ → ℕ → Bool) (a p : ℕ) → mark S r a p ≤ S
mark-le S r a p = by (dec_lt (distance_to S r a p) S)
  where
    by : Dec (distance_to S r a p < S) → mark S r a p ≤ S
    by (yes h) = omega (arith, mark_in S r a p h)
    by (no h) = let z : S ≤ distance_to S r a p = omega arith in omega (arith, mark_out S r a p z)

-- ---- on a shortest walk, by the distance

module _ (S : ℕ) (r : ℕ → ℕ → Bool) (goal : ℕ → Bool) (a p : ℕ) where
  pub good-le : good S r goal a p ≡ true → distance_to S r a p ≤ dist S r goal a
  unfolding good
  good-le g =
      leb-true (distance_to S r a p) (dist S r goal a)
      (and_left (leb (distance_to S r a p) (dist S r goal a)) (exact S r goal (dist S r goal a - distance_to S r a p) p) g)

  -- at the last level: just the goals
  pub good_last : distance_to S r a p ≡ dist S r goal a → good S r goal a p ≡ goal p
  unfolding good exact
  good_last e = let z : dist S r goal a - distance_to S r a p ≡ 0 = omega arith in rw (z, le-leb (distance_to S r a p) (dist S r goal a) (omega arith))

module _ (S : ℕ) (r : ℕ → ℕ → Bool) (inside : Inside S r) (goal : ℕ → Bool) (a : ℕ) (al : a < S) where
  -- ---- on a shortest walk

  -- an edge from distance i to a node that has k steps left, in all as few as can be: it is at distance i + 1
  pub far_next : (p q k : ℕ) → distance_to S r a p < S → distance_to S r a p + suc k ≡ dist S r goal a → r p q ≡ true → exact S r goal k q ≡ true
      → distance_to S r a q ≡ distance_to S r a p + 1
  far_next p q k h e t x =
      let u = far_step S r inside a al p q h t in
      let (l, w, n) = far_walk S r inside a al q u.1 in
      let v = exact_walk S r goal inside k q x in
      let z = v.size in
      let c : length (l ++ v.path) ≡ length l + length v.path = length-append l v.path in
      let o = dist_min S r goal inside a (length (l ++ v.path))
      (record { path = l ++ v.path; end = v.end; walk = walk_append w v.walk; ends = v.ends; size = refl }) al in
      omega arith

  good_intro : (p k : ℕ) → distance_to S r a p + k ≡ dist S r goal a → exact S r goal k p ≡ true → good S r goal a p ≡ true
  unfolding good
  good_intro p k e x =
      let c : dist S r goal a - distance_to S r a p ≡ k = omega arith in
      and_intro (leb (distance_to S r a p) (dist S r goal a)) (exact S r goal (dist S r goal a - distance_to S r a p) p)
      (le-leb (distance_to S r a p) (dist S r goal a) (omega arith)) (rw c x)

  good_elim : (p : ℕ) → good S r goal a p ≡ true → (k : ℕ) × (distance_to S r a p + k ≡ dist S r goal a) × (exact S r goal k p ≡ true)
  unfolding good
  good_elim p g =
      let l = leb-true (distance_to S r a p) (dist S r goal a)
      (and_left (leb (distance_to S r a p) (dist S r goal a)) (exact S r goal (dist S r goal a - distance_to S r a p) p) g) in (
        dist S r goal a - distance_to S r a p,
        omega arith,
        and_right (leb (distance_to S r a p) (dist S r goal a))
            (exact S r goal (dist S r goal a - distance_to S r a p) p) g,
      )

  exact_next : (k p : ℕ) → exact S r goal (suc k) p ≡ true → (q : ℕ) × (q < S) × (r p q ≡ true) × (exact S r goal k q ≡ true)
  unfolding exact
  exact_next k p x = any-and_elim S (r p) (exact S r goal k) x

  exact_more : (k p q : ℕ) → r p q ≡ true → exact S r goal k q ≡ true → exact S r goal (suc k) p ≡ true
  unfolding exact
  exact_more k p q e x = any-and_intro S (r p) (exact S r goal k) q (inside p q e).1 e x

  pub good_next : (p : ℕ) → distance_to S r a p < S → good S r goal a p ≡ true → distance_to S r a p < dist S r goal a
      → (q : ℕ) × (q < S) × (r p q ≡ true) × (distance_to S r a q ≡ distance_to S r a p + 1) × (good S r goal a q ≡ true)
  good_next p h g l =
      let (k, e, x) = good_elim p g in
      let c : k ≡ suc (k - 1) = omega arith in
      let (q, b, t, y) = exact_next (k - 1) p (rw c at x) in
      let f = far_next p q (k - 1) h (omega arith) t y in
      (q, b, t, f, good_intro q (k - 1) (omega arith) y)

  pub good_back : (p q : ℕ) → r p q ≡ true → distance_to S r a q ≡ distance_to S r a p + 1 → good S r goal a q ≡ true → good S r goal a p ≡ true
  good_back p q e f g = let (k, h, x) = good_elim q g in good_intro p (suc k) (omega arith) (exact_more k p q e x)

  pub good_start : dist S r goal a < S → good S r goal a a ≡ true
  good_start h = good_intro a (dist S r goal a) (omega (arith, far_start S r inside a al)) (dist-exact S r goal inside a h)

  least_next : (k p q : ℕ) → q ≡ least S (λ q. r p q && exact S r goal k q) → exact S r goal (suc k) p ≡ true
      → (q < S) × (r p q ≡ true) × (exact S r goal k q ≡ true)
  unfolding exact
  least_next k p q e x = rw e (least-and S (r p) (exact S r goal k) x)

  greedy_next : (k p q : ℕ) → q ≡ least S (λ q. r p q && exact S r goal k q) → greedy S r goal (suc k) p ≡ q ∷ greedy S r goal k q
  unfolding greedy
  greedy_next k p q e = rw e

  -- ---- the walk that the flags choose

  module _ (short : dist S r goal a < S) (flag : ℕ) (f : ℕ → ℕ) (F : Flagged S flag r goal a f) where
    -- the nodes with the flag at distance d
    pub flags_at : (p d : ℕ) → p < S → f p ≡ d + 1 + flag → (distance_to S r a p ≡ d) × (good S r goal a p ≡ true)
    flags_at p d b e = by (either (good S r goal a p))
      where
        by : (good S r goal a p ≡ true) ⊎ (good S r goal a p ≡ false) → (distance_to S r a p ≡ d) × (good S r goal a p ≡ true)
        by (inl g) = (omega (arith, F.done p b g), g)
        by (inr g) = absurd (omega (arith, F.none p b g))

    pub next_is : (p k : ℕ) → distance_to S r a p + suc k ≡ dist S r goal a → next S r (distance_to S r a p + 1 + 1 + flag) f p ≡ least S
        (λ q. r p q && exact S r goal k q)
    unfolding next
    next_is p k e =
        least_same S (λ q. eqb (f q) (distance_to S r a p + 1 + 1 + flag) && r p q) (λ q. r p q && exact S r goal k q)
        (λ q b. bool_ext (eqb (f q) (distance_to S r a p + 1 + 1 + flag) && r p q) (r p q && exact S r goal k q) (there q b) (back q b))
      where
        there : (q : ℕ) → q < S → (eqb (f q) (distance_to S r a p + 1 + 1 + flag) && r p q) ≡ true → (r p q && exact S r goal k q) ≡ true
        there q b x =
            let (u, g) = flags_at q (distance_to S r a p + 1) b
            (eqb-true (f q) (distance_to S r a p + 1 + 1 + flag) (and_left (eqb (f q) (distance_to S r a p + 1 + 1 + flag)) (r p q) x)) in
            let (n, h, y) = good_elim q g in
            let c : n ≡ k = omega arith in
            and_intro (r p q) (exact S r goal k q) (and_right (eqb (f q) (distance_to S r a p + 1 + 1 + flag)) (r p q) x) (rw c at y)

        back : (q : ℕ) → q < S → (r p q && exact S r goal k q) ≡ true → (eqb (f q) (distance_to S r a p + 1 + 1 + flag) && r p q) ≡ true
        back q b x =
            let t = and_left (r p q) (exact S r goal k q) x in
            let y = and_right (r p q) (exact S r goal k q) x in
            let u = far_next p q k (omega arith) e t y in
            let v : f q ≡ distance_to S r a p + 1 + 1 + flag = omega (arith, F.done q b (good_intro q k (omega arith) y)) in
            and_intro (eqb (f q) (distance_to S r a p + 1 + 1 + flag)) (r p q) (eq-eqb (f q) (distance_to S r a p + 1 + 1 + flag) v) t

    -- a node of the walk, and the walk so far
    pub along_step : (K i p q : ℕ) (l l' : List ℕ) → K ≡ dist S r goal a → Along S r goal a K l i p → i < K → i < length l
        → q ≡ next S r (i + 1 + 1 + flag) f p → l' ≡ set l i q → Along S r goal a K l' (i + 1) q
    along_step K i p q l l' c A h b n m =
        let k = K - (i + 1) in
        let ek : K - i ≡ suc k = omega arith in
        let tk : take (i + 1) l' ≡ take i l ++ (q ∷ []) = rw (m, add-one i) (take-suc-set l i q b) in
        let z = A.level in
        let w : q ≡ least S (λ q. r p q && exact S r goal k q) =
        n ∙ (ap (λ (i : ℕ). next S r (i + 1 + 1 + flag) f p) (sym z) ∙ next_is p k (omega arith)) in
        let (qb, t, x) = least_next k p q w (rw ek at A.left) in
        record {
          many = omega arith;
          node = qb;
          level = far_next p q k (omega arith) (omega arith) t x ∙ ap (λ (i : ℕ). i + 1) z;
          left = x;
          whole =
              rw (tk, append_assoc)
              (ap (λ (m : List ℕ). take i l ++ m) (sym (greedy_next k p q w)) ∙ (rw ek at A.whole));
        }

  pub along_first : (K : ℕ) (l : List ℕ) → K ≡ dist S r goal a → K < S → Along S r goal a K l 0 a
  along_first K l e h =
      let z : K - 0 ≡ K = omega arith in
      record {
        many = omega arith;
        node = al;
        level = far_start S r inside a al;
        left = rw (z, e) (dist-exact S r goal inside a (omega arith));
        whole = rw z refl;
      }

  pub along_last : (K i p : ℕ) (l : List ℕ) → Along S r goal a K l i p → K ≤ i → take K l ≡ greedy S r goal K a
  unfolding greedy
  along_last K i p l A h =
      let e : i ≡ K = omega (arith, A.many) in
      let z : K - K ≡ 0 = omega arith in
      sym (append-nil (take K l)) ∙ (rw (e, z) at A.whole)
