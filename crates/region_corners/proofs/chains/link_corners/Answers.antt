-- `chains::link_corners` meets its contract. The invariant: the chains lead through the slots passed.
use native.Mathlib.Omega.{arith}
use lib.ListN.{length-set}
use Rattle.region_corners.proofs.Linking.{linking_start, linking_head, linking_next, linking_end}
use Rattle.region_corners.proofs.chains.link_corners.Goals as goal

pub loop-slot-init : goal.loop-slot-init
loop-slot-init c =
    linking_start c.fill.new.self c.corners_at-corners.ensures c.links_at-links.ensures c.heads_at-heads.ensures
    c.requires c.shapes-1.given.0 (c.fill.ensures.after (λ y e. e))

pub bounds-shapes-head : goal.bounds-shapes-head
bounds-shapes-head c = linking_head c.loop-slot.invariant (omega arith) _ c.from.ensures

pub bounds-shapes-head-in-loop-slot : goal.bounds-shapes-head-in-loop-slot
bounds-shapes-head-in-loop-slot c = simp length-set (linking_head c.loop-slot.invariant (omega arith) _ c.from.ensures)

pub loop-slot-preserved : goal.loop-slot-preserved
loop-slot-preserved c = linking_next c.loop-slot.invariant (omega arith) _ c.from.ensures

pub returns : goal.returns
returns c =
    linking_end c.fill.new.self c.corners_at-corners.ensures c.links_at-links.ensures
    c.heads_at-heads.ensures c.requires c.shapes-1.given.0 c.loop-slot.invariant (omega arith)
