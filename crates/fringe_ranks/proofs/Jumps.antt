-- The most jumps of a walk through the fringe from a state, by its steps: no fewer than its time successor has, more than each state that a jump leads
-- to has, and no more than these tell.
use mathlib.Core.Path.{◌≡◌, refl, sym}
use mathlib.Core.Bool.{Bool, true, cond}
use Prim.Native.Nat.{ℕ, zero, suc, ◌+◌, ◌≤◌, ◌<◌}
use native.Mathlib.Omega.{arith}
use lib.Dec.{eqb}
use borrow.Author.Tests.{eq-eqb, ne_eqb, eqb-true, eqb-false}
use Rattle.theory.specs.System.{System}
use Rattle.theory.specs.Labels.{LabelledSystem, LabelledLaws, Leads}
use Rattle.theory.specs.Sheet.{SheetRules}
use Rattle.theory.proofs.Below.{cond_ind}
use Rattle.robust.specs.Fringe.{Fringe, FringeWalk, jumps_from}
use Rattle.robust.proofs.Fringe.{first, fringe_below, walk_rank, heights_ranks, jumps_ranks, jumps_some}

module _ (P : LabelledSystem) (M : LabelledLaws P) (is_in : ℕ → Bool) (h : ℕ → ℕ) (K : SheetRules P.system is_in h)
    (low : (p : ℕ) → p < P.system.size → h p < P.system.size)
    (apart : (p q e : ℕ) → Leads P 0 p q → Leads P (suc e) p q → ⊥) where
  abbrev Y : System
  Y = P.system

  abbrev J : ℕ → ℕ
  J = jumps_from P is_in Y.size

  -- what a step to q tells of p
  abbrev by : ℕ → ℕ → ℕ
  by p q = cond (eqb q (P.next 0 p)) (J q) (J q + 1)

  -- the heights bound them
  pub jumps_height : (p : ℕ) → Fringe Y is_in p → J p ≤ h p
  jumps_height p i = walk_rank (heights_ranks P M is_in h K Y.size (λ p b. omega (arith, low p b))) (jumps_some P M is_in h K low Y.size p i)

  pub jumps_least : (p q : ℕ) → Fringe Y is_in p → Fringe Y is_in q → Y.flow p q ≡ true → by p q ≤ J p
  jumps_least p q i j f =
      cond_ind (λ n. n ≤ J p) (eqb q (P.next 0 p))
      (λ t.
      let (x, b, e) = M.flow_next p q f in
      (jumps_ranks P M is_in h K low).time p q i j (omega arith, sym (eqb-true q (P.next 0 p) t), below))
      (λ t. let (x, b, e) = M.flow_next p q f in jump x b e (eqb-false q (P.next 0 p) t))
    where
      below : q < Y.size
      below = (fringe_below Y M.laws is_in j).0

      jump : (x : ℕ) → x < P.labels → P.next x p ≡ q → (q ≡ P.next 0 p → ⊥) → J q + 1 ≤ J p
      jump zero b e n = absurd (n (sym e))
      jump (suc x) b e n = omega (arith, (jumps_ranks P M is_in h K low).jump x p q i j (b, e, below))

  pub jumps_most : (p r : ℕ) → Fringe Y is_in p → ((q : ℕ) → Fringe Y is_in q → Y.flow p q ≡ true → by p q ≤ r) → J p ≤ r
  jumps_most p r i each = walk (jumps_some P M is_in h K low Y.size p i) refl
    where
      flow : (x q : ℕ) → Leads P x p q → Y.flow p q ≡ true
      flow x q (b, e, c) = rw e at (M.next_flow x p b (fringe_below Y M.laws is_in i).0 (rw e c))

      walk : {s k : ℕ} → FringeWalk P is_in s k → s ≡ p → k ≤ r
      walk (FringeWalk.stop j) e = omega arith
      walk (FringeWalk.rest {q = q} {k = k} j d w) e =
          let t : Leads P 0 p q = rw e at d in
          let here : by p q ≡ J q = rw (eq-eqb q (P.next 0 p) (sym t.1)) in
          omega (arith, here, each q (first w) (flow 0 q t), walk_rank (jumps_ranks P M is_in h K low) w)
      walk (FringeWalk.take {q = q} {k = k} x j d w) e =
          let t : Leads P (suc x) p q = rw e at d in
          let here : by p q ≡ J q + 1
          = rw (ne_eqb q (P.next 0 p) (λ z. apart p q x (omega (arith, t.0), sym z, t.2) t)) in
          omega (arith, here, each q (first w) (flow (suc x) q t), walk_rank (jumps_ranks P M is_in h K low) w)
