-- The slots of the regions so far hold their corners; all of them decide which regions share one.
use Prim.Native.Nat.{ℕ, ◌+◌, ◌-◌, ◌*◌, ◌/◌, ◌%◌, ◌≤◌, ◌<◌}
use native.Mathlib.Omega.{arith}
use native.Mathlib.Decide.{ℕ_discrete}
use native.Mathlib.Nat.{div-add-mod}
use mathlib.Core.Path.{◌≡◌, refl, sym, ap, ap₂, ◌∙◌}
use mathlib.Core.Bool.{true}
use mathlib.Core.Logic.{◌↔◌}
use mathlib.Core.List.{List, Memᴰ}
use lib.Dec.{leb, eqb}
use lib.ListN.{length, get_or}
use Rattle.limits.specs.Limits.{slot_count, point_count}
use Rattle.theory.specs.Lists.{some, down}
use Rattle.theory.specs.Region.{regions, shares}
use Rattle.theory.proofs.Below.{eqb↔}
use Rattle.theory.proofs.Lists.{some_law, down_law, map_law}
use Rattle.region.specs.Limits.{Clocks, Ceiling}
use Rattle.region.specs.View.{struct_of, Small}
use Rattle.region.specs.Corners.{code_at}
use Rattle.region.specs.declared.Region.{Region}
use Rattle.region.proofs.Corners.{codes_of, codes_share, raised_le}
use Rattle.region.proofs.Views.{shares-view}
use Rattle.region_corners.specs.Corners.{region_at, CornersFrom, CornerSlots}
use Rattle.region_corners.proofs.Numbers.{At, at_struct, at_small}

-- ---- the slots of the regions below i

pub record Placed (n M : ℕ) (corner : List ℕ) (i : ℕ) : Type 0 where
  pub long : length corner ≡ slot_count * length (regions n M)
  pub within : i ≤ length (regions n M)
  pub holds : (j t : ℕ) → j < i → t < slot_count → get_or corner (slot_count * j + t) 0 ≡ code_at (struct_of (region_at n M j)) (slot_count - t)

pub placed_next : {n M i : ℕ} {g : Region} {corner corner' : List ℕ} → Placed n M corner i → At n M i g
    → CornersFrom g (slot_count * i) slot_count corner corner' → Placed n M corner' (i + 1)
placed_next {n} {M} {i} {g} {corner} {corner'} P A f =
    record { long = f.long ∙ P.long; within = omega (arith, A.below); holds = λ j t k l. by j t k l (ℕ_discrete j i) }
  where
    by : (j t : ℕ) → j < i + 1 → t < slot_count → Dec (j ≡ i)
        → get_or corner' (slot_count * j + t) 0 ≡ code_at (struct_of (region_at n M j)) (slot_count - t)
    by j t k l (yes q) =
        rw q (f.holds t l ∙ ap (λ (g : Region). code_at g (slot_count - t)) (sym A.known.padded.same ∙ ap struct_of A.is))
    by j t k l (no q) =
        let m : j < i = omega (arith, q) in
        f.kept (slot_count * j + t) (omega arith) ∙ P.holds j t m l

-- ---- numbers of points

pub point_below : (g : Region) → Small g → (t : ℕ) → code_at g t < point_count
unfolding code_at
point_below g s t =
    omega (
      arith,
      raised_le (leb t g.r1) g.w1 s.w1,
      raised_le (leb t g.r2) g.w2 s.w2,
      raised_le (leb t g.r3) g.w3 s.w3,
    )

-- the numbers by the thresholds, by slot
codes_in : (g : Region) (x : ℕ) → Memᴰ x (codes_of g) ↔ ((t : ℕ) × (t < slot_count) × (x ≡ code_at g (slot_count - t)))
codes_in g x =
    let m = map_law (code_at g) (down slot_count) x in (
      λ k. let (t, d, e) = m.0 k in
          let (a, b) = (down_law slot_count t).0 d in
          let q : slot_count - (slot_count - t) ≡ t = omega arith in
          (slot_count - t, omega arith, e ∙ ap (code_at g) (sym q)),
      λ (t, h, e). m.1 (slot_count - t, (down_law slot_count (slot_count - t)).1 (omega arith, omega arith), e),
    )

module _ {n M : ℕ} (k : Clocks n) (h : Ceiling M) where
  -- shared corners by their numbers
  shares_codes : (i j : ℕ) → i < length (regions n M) → j < length (regions n M)
      → shares (region_at n M i) (region_at n M j) ≡ some (λ p. some (eqb p) (codes_of (struct_of (region_at n M j)))) (codes_of (struct_of (region_at n M i)))
  shares_codes i j l m =
      let A = at_struct k h i l in
      let B = at_struct k h j m in
      sym (ap₂ shares A.is B.is) ∙ sym (shares-view n k _ _ A.known.padded B.known.padded)
      ∙ sym (codes_share _ _ (at_small k h A) (at_small k h B))

  pub placed_end : {corner : List ℕ} {i : ℕ} → Placed n M corner i → length (regions n M) ≤ i → CornerSlots n M corner
  placed_end P w = record {
    long = P.long;
    below = λ s l.
        let j = s / slot_count in
        let t = s % slot_count in
        let e : s ≡ slot_count * j + t = sym (div-add-mod s slot_count) in
        let m : t < slot_count = omega arith in
        let a : j < length (regions n M) = omega (arith, P.long) in
        rw (e, P.holds j t (omega arith) m) (point_below (struct_of (region_at n M j)) (at_small k h (at_struct k h j a)) (slot_count - t));
    shared = λ a b l m.
        let A = struct_of (region_at n M a) in
        let B = struct_of (region_at n M b) in
        let inner : (p : ℕ) → (some (eqb p) (codes_of B) ≡ true) ↔ ((q : ℕ) × Memᴰ q (codes_of B) × (p ≡ q)) = λ p. some_law (eqb↔ p) (codes_of B) in
        let t = some_law inner (codes_of A) in (
          λ e. let (p, x, (q, y, r)) = t.0 (sym (shares_codes a b l m) ∙ e) in
              let (u, ul, ue) = (codes_in A p).0 x in
              let (v, vl, ve) = (codes_in B q).0 y in
              record {
                left = u;
                right = v;
                left_below = ul;
                right_below = vl;
                same = P.holds a u (omega arith) ul ∙ sym ue ∙ r ∙ ve ∙ sym (P.holds b v (omega arith) vl);
              },
          λ S. shares_codes a b l m
              ∙ t.1 (
                code_at A (slot_count - S.left),
                (codes_in A (code_at A (slot_count - S.left))).1 (S.left, S.left_below, refl),
                (
                  code_at B (slot_count - S.right),
                  (codes_in B (code_at B (slot_count - S.right))).1 (S.right, S.right_below, refl),
                  sym (P.holds a S.left (omega arith) S.left_below) ∙ S.same ∙ P.holds b S.right (omega arith) S.right_below,
                ),
              ),
        );
  }
