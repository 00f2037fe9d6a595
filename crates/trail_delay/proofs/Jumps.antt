-- The jumps of a walk, and the turns of a touch.
use mathlib.Core.Path.{◌≡◌, refl}
use mathlib.Core.List.{List}
use Prim.Native.Nat.{ℕ, ◌+◌, ◌*◌, ◌≤◌, ◌<◌}
use native.Mathlib.Nat.{mul-le-mul}
use native.Mathlib.Omega.{arith}
use lib.ListN.{length, get_or, drop}
use Rattle.theory.specs.Labels.{LabelledSystem, label_kind, least_label, labels_along}
use Rattle.limits.specs.Limits.{max_clocks, max_states}
use Rattle.robust.specs.Delay.{jump_count}
use Rattle.trail_delay.specs.Ours.{max_move_jumps}
use Rattle.trail_delay.proofs.Sums.{Additive, sum_next, sum_done}

-- ---- a walk: i of its states are passed, p is the last of them

jumps_adds : (P : LabelledSystem) → Additive (λ p l. jump_count (labels_along P p l)) (λ p q. label_kind (least_label P p q))
unfolding jump_count labels_along
jumps_adds P = record { none = λ p. refl; more = λ p q l. refl }

pub record Counted (P : LabelledSystem) (start : ℕ) (walk : List ℕ) (jumps p i : ℕ) : Type 0 where
  pub few : jumps ≤ i
  pub rest : jumps + jump_count (labels_along P p (drop i walk)) ≡ jump_count (labels_along P start walk)

pub counted_none : (P : LabelledSystem) (start : ℕ) (walk : List ℕ) → Counted P start walk 0 start 0
counted_none P start walk = record { few = omega arith; rest = omega arith }

module _ {P : LabelledSystem} {start : ℕ} {walk : List ℕ} {jumps p i : ℕ} (C : Counted P start walk jumps p i) where
  pub counted_next : (q x : ℕ) → i < length walk → q ≡ get_or walk i 0 → x ≡ label_kind (least_label P p q) → x ≤ 1
      → Counted P start walk (jumps + x) q (i + 1)
  counted_next q x h s e l =
      record {
        few = omega (arith, C.few);
        rest = rw e (sum_next (jumps_adds P) walk (jump_count (labels_along P start walk)) jumps p i C.rest q h s);
      }

  pub counted_all : length walk ≤ i → jumps ≡ jump_count (labels_along P start walk)
  counted_all h = sum_done (jumps_adds P) walk (jump_count (labels_along P start walk)) jumps p i C.rest h

-- ---- a touch: neither number is large

module _ {rank : ℕ} (h : rank ≤ max_clocks) where
  pub corners_most : (rank + 1) * (rank + 1) ≤ (max_clocks + 1) * (max_clocks + 1)
  corners_most =
      let r : rank + 1 ≤ max_clocks + 1 = omega arith in
      mul-le-mul r r

  module _ {jumps : ℕ} (l : jumps ≤ max_states) where
    pub base_most : 2 * rank * jumps ≤ max_move_jumps
    base_most =
        let b : 2 * rank ≤ 2 * max_clocks = omega arith in
        omega (arith, mul-le-mul b l)

    pub rate_most : (rank + 1) * (rank + 1) * jumps ≤ max_move_jumps
    rate_most = mul-le-mul corners_most l
