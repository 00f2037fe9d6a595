-- `margin::margin` meets its contract. The invariant: the entries of the locations below l are counted, at most max_values for each.
use native.Mathlib.Omega.{arith}
use Prim.Native.Nat.{◌+◌, ◌*◌}
use mathlib.Core.Path.{◌≡◌, refl, ap, ap₂, ◌∙◌}
use Rattle.robust.specs.Margin.{half_entries, margin}
use Rattle.graph.specs.Plan.{automaton_of}
use Rattle.margin.proofs.Entries.{one_location}
use Rattle.margin.proofs.margin.Goals as goal

pub loop-l-init : goal.loop-l-init
unfolding half_entries
loop-l-init c = (refl, omega arith)

pub loop-l-preserved : goal.loop-l-preserved
loop-l-preserved c =
    let v = c.loop-l in (
      ap₂ ◌+◌ v.invariant.0 c.entries_of-count.ensures.0 ∙ one_location (automaton_of c.args.plan.now.model) v.l,
      omega (arith, v.invariant, c.entries_of-count.ensures.1),
    )

pub returns : goal.returns
unfolding margin half_entries automaton_of
returns c =
    let v = c.loop-l in
    let z : v.l ≡ c.args.plan.now.model.locations = omega arith in
    ap₂ (λ k n. 2 * k + n) (v.invariant.0 ∙ ap (half_entries (automaton_of c.args.plan.now.model)) z) c.from.ensures
