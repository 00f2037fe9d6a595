-- Our closed walk is one, has the fewest steps, and is the least of those with as few.
use mathlib.Core.Path.{◌≡◌, refl}
use mathlib.Core.List.{List, [], ◌∷◌}
use Prim.Native.Nat.{ℕ, ◌≤◌}
use native.Mathlib.Omega.{arith}
use lib.ListN.{length}
use lib.Dec.{eqb}
use borrow.Author.Tests.{eqb-true, eq-eqb}
use Rattle.theory.specs.Walk.{Walk, Lex, dist⁺}
use Rattle.theory.specs.System.{System, Laws, OnClosedWalkIn}
use Rattle.theory.specs.ClosedWalk.{closed_walk_steps, closed_walk}
use Rattle.theory.proofs.Walk.{walk_first, dist⁺-below, dist⁺-min, dist⁺-exact, greedy_walk, greedy-length, greedy_least}
use Rattle.theory.proofs.System.{flow_inside, into_state}

module _ (Y : System) (L : Laws Y) (q : ℕ) where
  pub closed_walk_some : 1 ≤ closed_walk_steps Y q
  unfolding closed_walk_steps dist⁺
  closed_walk_some = omega arith

  pub closed_walk_below : OnClosedWalkIn Y q → closed_walk_steps Y q ≤ Y.size
  unfolding closed_walk_steps
  closed_walk_below (x, l, w) =
      let (e, v) = walk_first w in
      dist⁺-below Y.size Y.flow (λ x. eqb x q) (flow_inside Y L) q x (length l) e (into_state v)

  pub closed_walk-length : length (closed_walk Y q) ≡ closed_walk_steps Y q
  unfolding closed_walk
  closed_walk-length = greedy-length Y.size Y.flow (λ x. eqb x q) (flow_inside Y L) (closed_walk_steps Y q) q

  pub closed_walk_walk : OnClosedWalkIn Y q → Walk Y.flow q q (closed_walk Y q)
  unfolding closed_walk closed_walk_steps
  closed_walk_walk o =
      let e = dist⁺-exact Y.size Y.flow (λ x. eqb x q) (flow_inside Y L) q (closed_walk_below o) in
      let (s, w, g) = greedy_walk Y.size Y.flow (λ x. eqb x q) (flow_inside Y L) (closed_walk_steps Y q) q e in
      rw (eqb-true s q g) at w

  pub closed_walk_fewest : (l : List ℕ) → 1 ≤ length l → Walk Y.flow q q l → closed_walk_steps Y q ≤ length l
  unfolding closed_walk_steps
  closed_walk_fewest [] n w = absurd (omega arith)
  closed_walk_fewest (x ∷ l) n w =
      let (e, v) = walk_first w in
      dist⁺-min Y.size Y.flow (λ x. eqb x q) (flow_inside Y L) q x (length l) e (into_state v)

  pub closed_walk_least : (l : List ℕ) → Walk Y.flow q q l → length l ≡ closed_walk_steps Y q → Lex (closed_walk Y q) l
  unfolding closed_walk
  closed_walk_least l w e = rw (← e) (greedy_least Y.size Y.flow (λ x. eqb x q) (flow_inside Y L) w (eq-eqb q q refl))
