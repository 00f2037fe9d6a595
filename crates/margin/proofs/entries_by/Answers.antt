-- `margin::entries_by` meets its contract. The invariant: the entries by the start and the edges from e on are counted, and each edge has
-- at most max_values.
use native.Mathlib.Omega.{arith}
use Prim.Native.Nat.{◌-◌}
use mathlib.Core.Path.{◌≡◌, sym, ◌∙◌}
use Rattle.margin.proofs.Entries.{no_edges, all_edges, one_edge}
use Rattle.margin.proofs.entries_by.Goals as goal

pub loop-e-init : goal.loop-e-init
loop-e-init c = rw c.from-e.ensures (c.by_start-count.ensures.0 ∙ sym (no_edges c.args.plan.now.model c.args.l), omega (arith, c.by_start-count.ensures.1))

pub loop-e-preserved : goal.loop-e-preserved
loop-e-preserved c =
    let v = c.loop-e in (
      one_edge c.args.plan.now.model c.args.l (v.e - 1) v.e v.count c.with_edge-count.result
          (omega arith) (omega (arith, v.auto.e, c.from-e.ensures)) v.invariant.0 c.with_edge-count.ensures.0,
      omega (arith, v.invariant, c.with_edge-count.ensures.1),
    )

pub returns : goal.returns
returns c =
    let v = c.loop-e in
    let z : v.e ≡ 0 = omega arith in
    v.invariant.0 ∙ rw z (all_edges c.args.plan.now.model c.args.l)
