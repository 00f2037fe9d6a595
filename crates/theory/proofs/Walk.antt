-- Laws of walks: S steps are enough (the pigeonhole), the fewest steps, the least of the shortest walks.
use mathlib.Core.Path.{◌≡◌, refl, ap}
use mathlib.Core.Bool.{Bool, true, ◌&&◌}
use mathlib.Core.Logic.{◌↔◌, ◌⊎◌, inl, inr}
use mathlib.Core.List.{List, [], ◌∷◌, ◌++◌}
use Prim.Native.Nat.{ℕ, zero, suc, ◌≤◌, ◌<◌, zero-le, suc-le-suc}
use native.Mathlib.Omega.{arith}
use native.Mathlib.Decide.{dec_lt}
use native.Mathlib.Nat.{le_antisymm}
use lib.ListN.{length}
use Rattle.theory.specs.Below.{count, least}
use Rattle.theory.specs.Walk.{Walk, stop, move, Inside, Into, Lex, same, exact, within, dist, dist⁺, greedy}
use Rattle.theory.proofs.Lex.{lex_head}
use Rattle.theory.proofs.Below.{any-and_intro, any-and_elim, and_intro, count_grow, count_full, least-le, least_min, least_at, least-and, any↔}

-- ---- walks

pub walk_append : {r : ℕ → ℕ → Bool} {p q s : ℕ} {l m : List ℕ} → Walk r p q l → Walk r q s m → Walk r p s (l ++ m)
walk_append stop w = w
walk_append (move e v) w = move e (walk_append v w)

pub walk_map : {r t : ℕ → ℕ → Bool} → ((p q : ℕ) → r p q ≡ true → t p q ≡ true) → {p s : ℕ} {l : List ℕ} → Walk r p s l → Walk t p s l
walk_map f stop = stop
walk_map f (move {p = p} {q = q} e w) = move (f p q e) (walk_map f w)

pub walk_first : {r : ℕ → ℕ → Bool} {p q s : ℕ} {l : List ℕ} → Walk r p s (q ∷ l) → (r p q ≡ true) × Walk r q s l
walk_first (move e w) = (e, w)

pub walk_below : {S : ℕ} {r : ℕ → ℕ → Bool} → Inside S r → {p s : ℕ} {l : List ℕ} → Walk r p s l → p < S → s < S
walk_below i stop h = h
walk_below i (move {p = p} {q = q} e w) h = walk_below i w (i p q e).1

pub dist-le : (S : ℕ) (r : ℕ → ℕ → Bool) (goal : ℕ → Bool) (p : ℕ) → dist S r goal p ≤ S
unfolding dist
dist-le S r goal p = least-le S (λ k. exact S r goal k p)

-- fewer than n steps are enough
abbrev Full : ℕ → (ℕ → ℕ → Bool) → (ℕ → Bool) → ℕ → Type 0
Full S r goal n = (p k : ℕ) → Into r goal k p → p < S → within S r goal n p ≡ true

module _ (S : ℕ) (r : ℕ → ℕ → Bool) (goal : ℕ → Bool) (inside : Inside S r) where
  -- ---- `exact` is a walk

  pub walk_exact : {p s : ℕ} {l : List ℕ} → Walk r p s l → goal s ≡ true → exact S r goal (length l) p ≡ true
  unfolding exact
  walk_exact stop g = g
  walk_exact (move {p = p} {q = q} {l = l} e w) g =
      any-and_intro S (r p) (exact S r goal (length l)) q (inside p q e).1 e (walk_exact w g)

  into_stop : (p : ℕ) → goal p ≡ true → Into r goal zero p
  into_stop p g = record { path = []; end = p; walk = stop; ends = g; size = refl }

  pub into_move : (k p q : ℕ) → r p q ≡ true → Into r goal k q → Into r goal (suc k) p
  into_move k p q e w = record { path = q ∷ w.path; end = w.end; walk = move e w.walk; ends = w.ends; size = ap suc w.size }

  pub exact_walk : (k p : ℕ) → exact S r goal k p ≡ true → Into r goal k p
  unfolding exact
  exact_walk zero p e = into_stop p e
  exact_walk (suc k) p e =
      let (q, b, f, g) = any-and_elim S (r p) (exact S r goal k) e in
      into_move k p q f (exact_walk k q g)

  pub into_exact : (p k : ℕ) → Into r goal k p → exact S r goal k p ≡ true
  into_exact p k w = rw w.size at (walk_exact w.walk w.ends)

  pub exact_law : (k p : ℕ) → (exact S r goal k p ≡ true) ↔ Into r goal k p
  exact_law k p = (exact_walk k p, into_exact p k)

  -- ---- `within S` is any walk: the pigeonhole

  pub within_law : (n p : ℕ) → (within S r goal n p ≡ true) ↔ ((k : ℕ) × (k < n) × Into r goal k p)
  unfolding within
  within_law n p = any↔ n λ k. exact_law k p

  pub within_walk : (n p : ℕ) → within S r goal n p ≡ true → (k : ℕ) × (k < n) × Into r goal k p
  within_walk n p e = (within_law n p).0 e

  more : (n p : ℕ) → within S r goal n p ≡ true → within S r goal (suc n) p ≡ true
  more n p e = let (k, l, w) = (within_law n p).0 e in (within_law (suc n) p).1 (k, omega arith, w)

  -- where one more step gives no more nodes, no walk does
  stable : (n : ℕ) → ((p : ℕ) → p < S → within S r goal (suc n) p ≡ true → within S r goal n p ≡ true)
      → {p s : ℕ} {l : List ℕ} → Walk r p s l → goal s ≡ true → p < S → within S r goal n p ≡ true
  stable n h (stop {p = p}) g b = h p b ((within_law (suc n) p).1 (zero, omega arith, into_stop p g))
  stable n h (move {p = p} {q = q} e w) g b =
      let (k, l, v) = (within_law n q).0 (stable n h w g (inside p q e).1) in
      h p b ((within_law (suc n) p).1 (suc k, omega arith, into_move k p q e v))

  -- With each step more there are more nodes, or there are all: so S steps are enough.
  full_or : (n : ℕ) → Full S r goal n ⊎ (n ≤ count S (within S r goal n))
  full_or zero = inr zero-le
  full_or (suc n) = by (full_or n)
    where
      on : n ≤ count S (within S r goal n)
          → ((p : ℕ) → p < S → within S r goal (suc n) p ≡ true → within S r goal n p ≡ true)
          ⊎ (count S (within S r goal n) < count S (within S r goal (suc n)))
          → Full S r goal (suc n) ⊎ (suc n ≤ count S (within S r goal (suc n)))
      on c (inl h) = inl λ p k w b. more n p (stable n h w.walk w.ends b)
      on c (inr l) = inr (omega arith)

      by : Full S r goal n ⊎ (n ≤ count S (within S r goal n)) → Full S r goal (suc n) ⊎ (suc n ≤ count S (within S r goal (suc n)))
      by (inl f) = inl λ p k w b. more n p (f p k w b)
      by (inr c) = on c (count_grow S (within S r goal n) (within S r goal (suc n)) (λ p _. more n p))

  -- A walk from p into a goal makes one of fewer than S steps.
  pub short : (p k : ℕ) → Into r goal k p → p < S → within S r goal S p ≡ true
  short p k w b = by (full_or S)
    where
      by : Full S r goal S ⊎ (S ≤ count S (within S r goal S)) → within S r goal S p ≡ true
      by (inl f) = f p k w b
      by (inr c) = count_full S (within S r goal S) c p b

  -- ---- `dist` is the fewest steps

  pub dist_min : (p k : ℕ) → Into r goal k p → p < S → dist S r goal p ≤ k
  unfolding dist
  dist_min p k w b = by (dec_lt k S)
    where
      by : Dec (k < S) → least S (λ k. exact S r goal k p) ≤ k
      by (yes l) = least_min S (λ k. exact S r goal k p) k l (into_exact p k w)
      by (no l) =
          let t = within_walk S p (short p k w b) in
          omega (arith, least_min S (λ k. exact S r goal k p) t.0 t.1 (into_exact p t.0 t.2))

  pub dist_below : (p k : ℕ) → Into r goal k p → p < S → dist S r goal p < S
  dist_below p k w b =
      let t = within_walk S p (short p k w b) in
      omega (arith, dist_min p t.0 t.2 b)

  pub dist-exact : (p : ℕ) → dist S r goal p < S → exact S r goal (dist S r goal p) p ≡ true
  unfolding dist
  dist-exact p l = least_at S (λ k. exact S r goal k p) l

  -- ---- `dist⁺` is the fewest steps, one or more

  pub dist⁺-below : (p q k : ℕ) → r p q ≡ true → Into r goal k q → dist⁺ S r goal p ≤ S
  unfolding dist⁺
  dist⁺-below p q k e w =
      let t = within_walk S q (short q k w (inside p q e).1) in
      omega (arith, least_min S (λ k. exact S r goal (suc k) p) t.0 t.1 (into_exact p (suc t.0) (into_move t.0 p q e t.2)))

  pub dist⁺-min : (p q k : ℕ) → r p q ≡ true → Into r goal k q → dist⁺ S r goal p ≤ suc k
  unfolding dist⁺
  dist⁺-min p q k e w = by (dec_lt k S)
    where
      by : Dec (k < S) → suc (least S (λ k. exact S r goal (suc k) p)) ≤ suc k
      by (yes l) = suc-le-suc (least_min S (λ k. exact S r goal (suc k) p) k l (into_exact p (suc k) (into_move k p q e w)))
      by (no l) = omega (arith, dist⁺-below p q k e w)

  pub dist⁺-exact : (p : ℕ) → dist⁺ S r goal p ≤ S → exact S r goal (dist⁺ S r goal p) p ≡ true
  unfolding dist⁺
  dist⁺-exact p l = least_at S (λ k. exact S r goal (suc k) p) l

  -- ---- `greedy` is a walk, and the least of its length

  pub greedy_walk : (k p : ℕ) → exact S r goal k p ≡ true → (s : ℕ) × Walk r p s (greedy S r goal k p) × (goal s ≡ true)
  unfolding greedy exact
  greedy_walk zero p e = (p, stop, e)
  greedy_walk (suc k) p e =
      let (b, f, g) = least-and S (r p) (exact S r goal k) e in
      let w = greedy_walk k (least S (λ q. r p q && exact S r goal k q)) g in
      (w.0, move f w.1, w.2)

  pub greedy-length : (k p : ℕ) → length (greedy S r goal k p) ≡ k
  unfolding greedy
  greedy-length zero p = refl
  greedy-length (suc k) p = ap suc (greedy-length k (least S (λ q. r p q && exact S r goal k q)))

  pub greedy_least : {p s : ℕ} {l : List ℕ} → Walk r p s l → goal s ≡ true → Lex (greedy S r goal (length l) p) l
  unfolding greedy exact
  greedy_least stop g = same
  greedy_least (move {p = p} {q = q} {l = l} e w) g =
      let b = and_intro (r p q) (exact S r goal (length l) q) e (walk_exact w g) in
      lex_head (least_min S (λ x. r p x && exact S r goal (length l) x) q (inside p q e).1 b) (λ c. rw c (greedy_least w g))

  -- ---- what shows that numbers found in any way are the fewest steps

  walk_steps : (d : ℕ → ℕ) → ((p : ℕ) → p < S → goal p ≡ true → d p ≡ 0) → ((p q : ℕ) → r p q ≡ true → d p ≤ suc (d q))
      → {p s : ℕ} {l : List ℕ} → Walk r p s l → p < S → goal s ≡ true → d p ≤ length l
  walk_steps d z u (stop {p = p}) b g = rw (z p b g) zero-le
  walk_steps d z u (move {p = p} {q = q} e w) b g = omega (arith, walk_steps d z u w (inside p q e).1 g, u p q e)

  pub dist_only : (d : ℕ → ℕ)
      → ((p : ℕ) → p < S → goal p ≡ true → d p ≡ 0)
      → ((p q : ℕ) → r p q ≡ true → d p ≤ suc (d q))
      → ((p : ℕ) → p < S → d p ≤ S)
      → ((p : ℕ) → p < S → d p < S → Into r goal (d p) p)
      → (p : ℕ) → p < S → d p ≡ dist S r goal p
  dist_only d z u b w p l = le_antisymm (up (dec_lt (dist S r goal p) S)) (dn (dec_lt (d p) S))
    where
      up : Dec (dist S r goal p < S) → d p ≤ dist S r goal p
      up (yes h) = let v = exact_walk (dist S r goal p) p (dist-exact p h) in omega (arith, walk_steps d z u v.walk l v.ends, v.size)
      up (no h) = omega (arith, b p l)

      dn : Dec (d p < S) → dist S r goal p ≤ d p
      dn (yes h) = dist_min p (d p) (w p l h) l
      dn (no h) = omega (arith, dist-le S r goal p)
