-- After i turns the first i are laid.
use native.Mathlib.Omega.{arith}
use mathlib.Core.Path.{◌≡◌, ap, ◌∙◌}
use mathlib.Core.List.{[]}
use Prim.Native.Nat.{ℕ}
use lib.ListN.{length}
use Rattle.model.specs.Each.{gather}
use Rattle.plan_writer.proofs.Laid.{single, all_singles, spelled_same, room_same, laid_none, laid_next, room_next}
use Rattle.plan_writer.proofs.put_numbers.Goals as goal

pub loop-v-init : goal.loop-v-init
loop-v-init c = laid_none (single c.args.values.now) _ _

pub put-end-requires : goal.put-end-requires
put-end-requires c =
    let vs = c.args.values.now in
    room_next [] (single vs) (length vs) _ (room_same _ (gather (length vs) (single vs)) vs c.requires (all_singles vs)) c.loop-v.invariant c.loop-v-test.true

pub loop-v-preserved : goal.loop-v-preserved
loop-v-preserved c = laid_next [] (single c.args.values.now) _ c.loop-v.invariant c.put-end.ensures

pub returns : goal.returns
returns c =
    let vs = c.args.values.now in
    let e : c.loop-v.v-index ≡ length vs = omega arith in
    spelled_same c.loop-v.invariant (ap (λ (k : ℕ). gather k (single vs)) e ∙ all_singles vs)
