-- Laws of a system's walks: `reach` tells `Reaches`, `on_closed_walk` tells `OnClosedWalkIn`.
use mathlib.Core.Path.{◌≡◌, refl, sym, ◌∙◌}
use mathlib.Core.Bool.{Bool, true, false, true≢false}
use mathlib.Core.Logic.{◌↔◌, ◌⊎◌, inl, inr}
use mathlib.Core.List.{List, [], ◌∷◌, ◌++◌}
use Prim.Native.Nat.{ℕ, ◌<◌}
use lib.ListN.{length}
use lib.Dec.{eqb}
use borrow.Author.Tests.{eqb-true, eq-eqb}
use Rattle.theory.specs.Walk.{Walk, stop, move, Inside, Into}
use Rattle.theory.specs.System.{System, Laws, Joins, Reaches, OnClosedWalkIn, reach, on_closed_walk}
use Rattle.theory.proofs.Below.{any-and_intro, any-and_elim, either}
use Rattle.theory.proofs.Walk.{walk_append, walk_first, within_walk, short}

-- a walk to a state is one into the goal of that state alone
pub into_state : {r : ℕ → ℕ → Bool} {p s : ℕ} {l : List ℕ} → Walk r p s l → Into r (λ x. eqb x s) (length l) p
into_state {s} {l} w = record { path = l; end = s; walk = w; ends = eq-eqb s s refl; size = refl }

module _ (Y : System) (L : Laws Y) where
  pub joins_inside : (r : ℕ → ℕ → Bool) → Joins Y r → Inside Y.size r
  joins_inside r j p q e = (L.allowed_below p (j p q e).0, L.allowed_below q (j p q e).1)

  pub flow_inside : Inside Y.size Y.flow
  flow_inside = joins_inside Y.flow L.flow_joins

  pub start_below : Y.start < Y.size
  start_below = L.allowed_below Y.start L.start_allowed

  -- ---- `reach`

  pub reach_is : (p q : ℕ) → reach Y p q ≡ true → Reaches Y p q
  unfolding reach
  reach_is p q e =
      let w = (within_walk Y.size Y.flow (λ x. eqb x q) flow_inside Y.size p e).2 in
      (w.path, rw (eqb-true w.end q w.ends) at w.walk)

  pub is_reach : (p q : ℕ) → p < Y.size → Reaches Y p q → reach Y p q ≡ true
  unfolding reach
  is_reach p q b (l, w) = short Y.size Y.flow (λ x. eqb x q) flow_inside p (length l) (into_state w) b

  pub reach_law : (p q : ℕ) → p < Y.size → (reach Y p q ≡ true) ↔ Reaches Y p q
  reach_law p q b = (reach_is p q, is_reach p q b)

  pub reach_or : (p q : ℕ) → p < Y.size → Reaches Y p q ⊎ (¬ Reaches Y p q)
  reach_or p q b = by (either (reach Y p q))
    where
      by : (reach Y p q ≡ true) ⊎ (reach Y p q ≡ false) → Reaches Y p q ⊎ (¬ Reaches Y p q)
      by (inl e) = inl (reach_is p q e)
      by (inr e) = inr λ w. true≢false (sym (is_reach p q b w) ∙ e)

  pub reaches_trans : (p q s : ℕ) → Reaches Y p q → Reaches Y q s → Reaches Y p s
  reaches_trans p q s v w = (v.0 ++ w.0, walk_append v.1 w.1)

  pub reaches_step : (p q : ℕ) → Y.flow p q ≡ true → Reaches Y p q
  reaches_step p q e = (q ∷ [], move e stop)

  -- ---- `on_closed_walk`

  pub closed_walk_is : (p : ℕ) → on_closed_walk Y p ≡ true → OnClosedWalkIn Y p
  unfolding on_closed_walk
  closed_walk_is p e =
      let (q, b, f, g) = any-and_elim Y.size (Y.flow p) (λ q. reach Y q p) e in
      let w = reach_is q p g in
      (q, w.0, move f w.1)

  pub is_closed_walk : (p : ℕ) → OnClosedWalkIn Y p → on_closed_walk Y p ≡ true
  unfolding on_closed_walk
  is_closed_walk p (q, l, w) =
      let (e, v) = walk_first w in
      let b = (flow_inside p q e).1 in
      any-and_intro Y.size (Y.flow p) (λ q. reach Y q p) q b e (is_reach q p b (l, v))

  pub closed_walk_law : (p : ℕ) → (on_closed_walk Y p ≡ true) ↔ OnClosedWalkIn Y p
  closed_walk_law p = (closed_walk_is p, is_closed_walk p)
