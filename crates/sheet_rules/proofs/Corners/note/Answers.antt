-- `Corners::note` meets its contract. The invariant: the corners in the slots passed are noted.
use Prim.Native.Nat.{◌<◌}
use native.Mathlib.Omega.{arith}
use mathlib.Core.Path.{◌≡◌, sym, ◌∙◌}
use Rattle.limits.specs.Limits.{slot_count}
use Rattle.sheet_rules.proofs.Notes.{slots_long, slots_at, point_below, noted_out, part_first, part_more, part_end}
use Rattle.sheet_rules.proofs.Corners.note.Goals as goal

pub returns-then-not-is_in : goal.returns-then-not-is_in
returns-then-not-is_in c = noted_out (sym c.is_in.ensures ∙ c.if-not-is_in.true) c.requires.flags

pub loop-v-init : goal.loop-v-init
loop-v-init c = part_first c.requires.flags

pub loop-v-preserved : goal.loop-v-preserved
loop-v-preserved c =
    let i = c.loop-v.v-index in
    let h : i < slot_count = omega (arith, slots_long c.args.self.now.points c.args.i c.requires.below, c.loop-v-test.true) in
    rw (c.from.ensures ∙ slots_at c.args.self.now.points c.args.i c.requires.below i h) (part_more i c.loop-v.invariant (point_below c.args.self.now.points c.args.i c.requires.below i h))

pub returns : goal.returns
returns c =
    let e : c.loop-v.v-index ≡ slot_count = omega (arith, slots_long c.args.self.now.points c.args.i c.requires.below, c.loop-v-test.false, c.loop-v.auto) in
    part_end (sym c.is_in.ensures ∙ c.if-not-is_in.false) (rw e at c.loop-v.invariant)
