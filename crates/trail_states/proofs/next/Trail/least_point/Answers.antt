-- `trail_states::next::Trail::least_point` meets its contract. The invariant: what is left stands on the chain from `next`, whose slots fall.
use Prim.Native.Nat.{suc, ◌*◌, ◌-◌, ◌<◌}
use mathlib.Core.Path.{◌≡◌, refl, ◌∙◌}
use mathlib.Core.Logic.{inl, inr, ⊎_elim}
use native.Mathlib.Omega.{arith}
use lib.ListN.{length, get_or}
use Rattle.limits.specs.Limits.{slot_count}
use Rattle.shapes.specs.Layout.{links_in, heads_in}
use Rattle.search.proofs.Scan.{partly_turn, partly_end}
use Rattle.shapes.proofs.Parts.{link_at, head_at, corners_long, heads_long}
use Rattle.marking.proofs.Corners.{point_first, point_all, point_end, point_below, point_falls, point_turn, point_part, point_next, slot_state}
use Rattle.trail_states.proofs.next.Trail.least_point.Goals as goal

pub loop-next-init : goal.loop-next-init
loop-next-init c =
    let a = c.args in
    let p = c.requires in
    let T = p.2 in
    let b : a.v < length (heads_in a.self.now.ways.regions a.self.now.ways.shapes.now) = omega (arith, heads_long a.self.now.ways.regions a.self.now.ways.shapes.now T.faces.long) in
    let e : c.from-next.result ≡ get_or (heads_in a.self.now.ways.regions a.self.now.ways.shapes.now) a.v 0 = c.from-next.ensures ∙ rw c.heads_at-heads.ensures (head_at a.self.now.ways.regions a.self.now.ways.shapes.now T.faces.long a.v p.1) in
    rw e (point_first (T.chains refl) a.v b, record { less = omega arith; some = inl refl; left = λ q t. inr (record { has = t.has; is = point_all (T.chains refl) a.v b q t.is }) }, p.3)

pub least_closed-low-requires : goal.least_closed-low-requires
least_closed-low-requires c =
    let l = c.loop-next in
    let p = c.requires in
    let a = c.args in
    let e : l.next ≡ suc (l.next - 1) = omega arith in
    (omega (arith, slot_state p.2 a.location p.0 (l.next - 1) (omega (arith, point_below l.invariant.0 (l.next - 1) e, corners_long a.self.now.ways.regions a.self.now.ways.shapes.now p.2.faces.long))), p.2.heights_long, l.invariant.2)

pub overflow_add-links : goal.overflow_add-links
overflow_add-links c =
    let l = c.loop-next in
    let p = c.requires in
    let a = c.args in
    let e : l.next ≡ suc (l.next - 1) = omega arith in
    omega (arith, p.2.faces.regions, p.2.faces.long, c.links_at-links.ensures, point_below l.invariant.0 (l.next - 1) e, corners_long a.self.now.ways.regions a.self.now.ways.shapes.now p.2.faces.long)

pub offset_bounds-ways-links : goal.offset_bounds-ways-links
offset_bounds-ways-links c =
    let l = c.loop-next in
    let p = c.requires in
    let a = c.args in
    let e : l.next ≡ suc (l.next - 1) = omega arith in
    omega (arith, p.2.faces.regions, p.2.faces.long, c.links_at-links.ensures, point_below l.invariant.0 (l.next - 1) e, corners_long a.self.now.ways.regions a.self.now.ways.shapes.now p.2.faces.long)

pub bounds-ways-links : goal.bounds-ways-links
bounds-ways-links c =
    let l = c.loop-next in
    let p = c.requires in
    let a = c.args in
    let e : l.next ≡ suc (l.next - 1) = omega arith in
    omega (arith, p.2.faces.regions, p.2.faces.long, c.links_at-links.ensures, point_below l.invariant.0 (l.next - 1) e, corners_long a.self.now.ways.regions a.self.now.ways.shapes.now p.2.faces.long)

pub loop-next-smaller : goal.loop-next-smaller
loop-next-smaller c =
    let l = c.loop-next in
    let p = c.requires in
    let a = c.args in
    let e : l.next ≡ suc (l.next - 1) = omega arith in
    let b : l.next - 1 < slot_count * a.self.now.ways.regions = omega (arith, point_below l.invariant.0 (l.next - 1) e, corners_long a.self.now.ways.regions a.self.now.ways.shapes.now p.2.faces.long) in
    let w : c.from-next-in-loop-next.result ≡ get_or (links_in a.self.now.ways.regions a.self.now.ways.shapes.now) (l.next - 1) 0 = c.from-next-in-loop-next.ensures ∙ rw c.links_at-links.ensures (link_at a.self.now.ways.regions a.self.now.ways.shapes.now p.2.faces.long (l.next - 1) b) in
    omega (arith, point_falls l.invariant.0 (l.next - 1) e)

pub loop-next-preserved : goal.loop-next-preserved
loop-next-preserved c =
    let l = c.loop-next in
    let p = c.requires in
    let a = c.args in
    let e : l.next ≡ suc (l.next - 1) = omega arith in
    let b : l.next - 1 < slot_count * a.self.now.ways.regions = omega (arith, point_below l.invariant.0 (l.next - 1) e, corners_long a.self.now.ways.regions a.self.now.ways.shapes.now p.2.faces.long) in
    let w : c.from-next-in-loop-next.result ≡ get_or (links_in a.self.now.ways.regions a.self.now.ways.shapes.now) (l.next - 1) 0 = c.from-next-in-loop-next.ensures ∙ rw c.links_at-links.ensures (link_at a.self.now.ways.regions a.self.now.ways.shapes.now p.2.faces.long (l.next - 1) b) in
    rw w (
      point_turn l.invariant.0 (l.next - 1) e,
      partly_turn l.invariant.1 c.least_closed-low.ensures.is
          (λ q t. record { has = t.has; is = point_part l.invariant.0 (l.next - 1) e q t.is })
          (λ q t. ⊎_elim (λ u. inl (record { has = t.has; is = u })) (λ u. inr (record { has = t.has; is = u })) (point_next l.invariant.0 (l.next - 1) e q t.is)),
      c.least_closed-low.ensures.below,
    )

pub returns : goal.returns
returns c =
    let i = c.loop-next.invariant in
    record { is = partly_end i.1 (λ q t. point_end i.0 (omega arith) q t.is); below = i.2 }
