-- `marking::reach::Ways::take_point` meets its contract. The invariant: what is left stands on the chain from `next`, whose slots fall.
use Prim.Native.Nat.{suc, ◌*◌, ◌-◌, ◌<◌}
use mathlib.Core.Path.{◌≡◌, refl, sym, ◌∙◌}
use mathlib.Core.Logic.{inr}
use native.Mathlib.Omega.{arith}
use lib.ListN.{length, get_or}
use Rattle.limits.specs.Limits.{slot_count}
use Rattle.shapes.specs.Layout.{links_in, heads_in}
use Rattle.search.proofs.Queue.{partly_turn, partly_end, takes_none}
use Rattle.shapes.proofs.Parts.{link_at, head_at, corners_long, heads_long}
use Rattle.marking.proofs.Corners.{point_first, point_all, point_end, point_below, point_falls, point_turn, point_part, point_next, slot_state}
use Rattle.marking.proofs.reach.Ways.take_point.Goals as goal

pub loop-next-init : goal.loop-next-init
loop-next-init c =
    let a = c.args in
    let p = c.requires in
    let T = p.3 in
    let b : a.v < length (heads_in a.self.now.regions a.self.now.shapes.now) = omega (arith, heads_long a.self.now.regions a.self.now.shapes.now T.faces.long) in
    let e : c.from-next.result ≡ get_or (heads_in a.self.now.regions a.self.now.shapes.now) a.v 0 = c.from-next.ensures ∙ rw c.heads_at-heads.ensures (head_at a.self.now.regions a.self.now.shapes.now T.faces.long a.v p.2) in
    rw e (point_first (T.chains refl) a.v b, record { takes = takes_none p.4; left = λ q t. inr (point_all (T.chains refl) a.v b q t) }, record { level = refl; queue = refl })

pub take_closed-requires : goal.take_closed-requires
take_closed-requires c =
    let l = c.loop-next in
    let p = c.requires in
    let a = c.args in
    let k = l.invariant.1.takes in
    let e : l.next ≡ suc (l.next - 1) = omega arith in
    (p.0, omega (arith, k.long, slot_state p.3 a.location p.1 (l.next - 1) (omega (arith, point_below l.invariant.0 (l.next - 1) e, corners_long a.self.now.regions a.self.now.shapes.now p.3.faces.long))), p.3.heights_long ∙ sym k.long, k.fits)

pub overflow_add-links : goal.overflow_add-links
overflow_add-links c =
    let l = c.loop-next in
    let p = c.requires in
    let a = c.args in
    let e : l.next ≡ suc (l.next - 1) = omega arith in
    omega (arith, p.3.faces.regions, p.3.faces.long, c.links_at-links.ensures, point_below l.invariant.0 (l.next - 1) e, corners_long a.self.now.regions a.self.now.shapes.now p.3.faces.long)

pub offset_bounds-self-links : goal.offset_bounds-self-links
offset_bounds-self-links c =
    let l = c.loop-next in
    let p = c.requires in
    let a = c.args in
    let e : l.next ≡ suc (l.next - 1) = omega arith in
    omega (arith, p.3.faces.regions, p.3.faces.long, c.links_at-links.ensures, point_below l.invariant.0 (l.next - 1) e, corners_long a.self.now.regions a.self.now.shapes.now p.3.faces.long)

pub bounds-self-links : goal.bounds-self-links
bounds-self-links c =
    let l = c.loop-next in
    let p = c.requires in
    let a = c.args in
    let e : l.next ≡ suc (l.next - 1) = omega arith in
    omega (arith, p.3.faces.regions, p.3.faces.long, c.links_at-links.ensures, point_below l.invariant.0 (l.next - 1) e, corners_long a.self.now.regions a.self.now.shapes.now p.3.faces.long)

pub loop-next-smaller : goal.loop-next-smaller
loop-next-smaller c =
    let l = c.loop-next in
    let p = c.requires in
    let a = c.args in
    let e : l.next ≡ suc (l.next - 1) = omega arith in
    let b : l.next - 1 < slot_count * a.self.now.regions = omega (arith, point_below l.invariant.0 (l.next - 1) e, corners_long a.self.now.regions a.self.now.shapes.now p.3.faces.long) in
    let w : c.from-next-in-loop-next.result ≡ get_or (links_in a.self.now.regions a.self.now.shapes.now) (l.next - 1) 0 = c.from-next-in-loop-next.ensures ∙ rw c.links_at-links.ensures (link_at a.self.now.regions a.self.now.shapes.now p.3.faces.long (l.next - 1) b) in
    omega (arith, point_falls l.invariant.0 (l.next - 1) e)

pub loop-next-preserved : goal.loop-next-preserved
loop-next-preserved c =
    let l = c.loop-next in
    let p = c.requires in
    let a = c.args in
    let e : l.next ≡ suc (l.next - 1) = omega arith in
    let b : l.next - 1 < slot_count * a.self.now.regions = omega (arith, point_below l.invariant.0 (l.next - 1) e, corners_long a.self.now.regions a.self.now.shapes.now p.3.faces.long) in
    let w : c.from-next-in-loop-next.result ≡ get_or (links_in a.self.now.regions a.self.now.shapes.now) (l.next - 1) 0 = c.from-next-in-loop-next.ensures ∙ rw c.links_at-links.ensures (link_at a.self.now.regions a.self.now.shapes.now p.3.faces.long (l.next - 1) b) in
    rw w (
      point_turn l.invariant.0 (l.next - 1) e,
      partly_turn l.invariant.1 c.take_closed.ensures.takes (point_part l.invariant.0 (l.next - 1) e) (point_next l.invariant.0 (l.next - 1) e),
      record { level = c.take_closed.ensures.same.level ∙ l.invariant.2.level; queue = c.take_closed.ensures.same.queue ∙ l.invariant.2.queue },
    )

pub returns : goal.returns
returns c =
    let i = c.loop-next.invariant in
    record { takes = partly_end i.1 (point_end i.0 (omega arith)); same = i.2 }
