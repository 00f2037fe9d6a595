-- The loop that links slots, where slots, links and heads stand one behind the other in one list: slots from place a on, links from b, heads from c on.
use Prim.Native.Nat.{ℕ, ◌+◌, ◌-◌, ◌*◌, ◌≤◌, ◌<◌}
use native.Mathlib.Omega.{arith}
use mathlib.Core.Path.{◌≡◌, refl, sym, ap, ◌∙◌}
use mathlib.Core.List.{List}
use lib.ListN.{length, get_or, take, set, replicate, length-set}
use lib.Seq.{take-set-le}
use Rattle.limits.specs.Limits.{slot_count, point_count}
use Rattle.shapes.specs.Layout.{corners_at, links_at, heads_at, shapes_end, part}
use Rattle.shapes.proofs.Parts.{part_long, part_at, part-set, part-set_before, part-set_after, alike_front, alike_before, put, put_long, put_before, put-part}
use Rattle.region_corners.specs.Shapes.{Slotted, Chained}
use Rattle.region_corners.proofs.Links.{ChainsUpto, chains_start, chains_held, chains_next, chains_end}

-- the chains lead through the slots below s, and what stands before the links is as it was
pub record Linking (a b c : ℕ) (t₀ t : List ℕ) (s : ℕ) : Type 0 where
  pub order : b ≤ c
  pub inside : c ≤ length t₀
  pub same : c - b ≡ b - a
  pub long : length t ≡ length t₀
  pub kept : take b t ≡ take b t₀
  pub chains : ChainsUpto (part a b t) (part c (length t₀) t) (part b c t) s

module _ {a b c : ℕ} {t₀ t : List ℕ} {s : ℕ} (L : Linking a b c t₀ t s) (h : s < b - a) (v : ℕ) (e : v ≡ get_or t (a + s) 0) where
  there : s < length (part a b t)
  there = rw (part_long a b t (omega (arith, L.order, L.inside, L.long))) h

  held : get_or (part a b t) s 0 ≡ v
  held = part_at a b t s h ∙ sym e

  within : v < length t₀ - c
  within = rw (part_long c (length t₀) t (omega (arith, L.long))) at (chains_held L.chains v held there)

  -- a place of the list
  pub linking_head : c + v < length t
  linking_head = omega (arith, within, L.inside, L.long)

  -- the next slot in front of the chain of the number that it holds
  pub linking_next : Linking a b c t₀ (set (set t (b + s) (get_or t (c + v) 0)) (c + v) (s + 1)) (s + 1)
  linking_next =
      let d = length t₀ in
      let x = get_or t (c + v) 0 in
      let u = set t (b + s) x in
      let w = set u (c + v) (s + 1) in
      let z : s < c - b = omega (arith, L.same) in
      let p : part a b w ≡ part a b t
      = part-set_after a b u (c + v) (s + 1) (omega (arith, L.order)) ∙ part-set_after a b t (b + s) x (omega arith) in
      let q : part b c w ≡ set (part b c t) s x = part-set_after b c u (c + v) (s + 1) (omega arith) ∙ part-set b c t s x z in
      let r : part c d w ≡ set (part c d t) v (s + 1)
      = part-set c d u v (s + 1) within ∙ ap (λ (l : List ℕ). set l v (s + 1)) (part-set_before c d t (b + s) x (omega arith)) in
      let y : x ≡ get_or (part c d t) v 0 = sym (part_at c d t v within) in
      record {
        order = L.order;
        inside = L.inside;
        same = L.same;
        long = length-set u (c + v) (s + 1) ∙ length-set t (b + s) x ∙ L.long;
        kept =
            take-set-le b u (c + v) (s + 1) (omega (arith, L.order)) ∙ take-set-le b t (b + s) x (omega arith) ∙ L.kept;
        chains = rw (p, q, r, y) (chains_next L.chains v held there);
      }

-- ---- the tables of R regions; y, all 0, was put in the place of the heads

module _ {R a b c : ℕ} {t : List ℕ} (y : List ℕ) (p : a ≡ corners_at R) (q : b ≡ links_at R) (r : c ≡ heads_at R) (S : Slotted R t)
    (e : length y ≡ length (part c (length t) t)) where
  inside : c ≤ length t
  inside = omega (arith, S.long)

  long : length (put c (length t) t y) ≡ length t
  long = put_long c (length t) t y inside (omega arith) e

  kept : take c (put c (length t) t y) ≡ take c t
  kept = put_before c (length t) t y inside (omega arith) e

  pub linking_start : y ≡ replicate (length (part c (length t) t)) 0 → Linking a b c (put c (length t) t y) (put c (length t) t y) 0
  linking_start z =
      let u = put c (length t) t y in
      let i = inside in
      let l = long in
      let f : length (part a b u) ≡ b - a = part_long a b u (omega arith) in
      let g : length (part b c u) ≡ c - b = part_long b c u (omega arith) in
      let m : length (part c (length t) t) ≡ point_count = part_long c (length t) t (omega arith) ∙ omega (arith, S.long) in
      let o : part a b u ≡ part (corners_at R) (links_at R) t = alike_before c a b u t (omega arith) kept ∙ rw (p, q) in
      record {
        order = omega arith;
        inside = omega arith;
        same = omega arith;
        long = refl;
        kept = refl;
        chains =
            chains_start (part a b u) (part c (length u) u) (part b c u) (length (part c (length t) t)) (g ∙ sym (f ∙ omega arith))
            (λ s j. rw (o, m) (S.below s (omega (arith, f, j))))
            (ap (λ (n : ℕ). part c n u) l ∙ put-part c (length t) t y i (omega arith) e ∙ z);
      }

  pub linking_end : {t' : List ℕ} {s : ℕ} → Linking a b c (put c (length t) t y) t' s → slot_count * R ≤ s → Chained R t t'
  linking_end {t'} L h =
      let u = put c (length t) t y in
      let f : length (part a b t') ≡ b - a = part_long a b t' (omega (arith, L.long, L.order, L.inside)) in
      let k : take b t' ≡ take b t = L.kept ∙ alike_front c b u t L.order kept in
      let d : length u ≡ shapes_end R = long ∙ S.long in
      record { long = L.long ∙ long; kept = rw q at k; chains = rw (d, p, q, r) at (chains_end L.chains (omega (arith, f))) }
