-- A clock that is left unreset decides.
use native.Mathlib.Omega.{arith}
use mathlib.Core.Path.{◌≡◌, sym, ap, ◌∙◌}
use mathlib.Core.Bool.{Bool, false, ◌||◌}
use Prim.Native.Nat.{ℕ}
use Rattle.model.specs.Each.{some_below}
use Rattle.model.proofs.Each.{some_none, some_more}
use Rattle.edge_walks.specs.Cycle.{unreset_at, unreset}
use Rattle.edge_walks.proofs.ClosedWalks.{flagged_cycle}
use Rattle.edge_walks.proofs.Opens.{some_so}
use Rattle.edge_walks.proofs.leaves_unreset.Goals as goal

pub loop-x-init : goal.loop-x-init
loop-x-init c = sym (some_none (unreset_at c.args.m.now))

pub returns-then-has_cycle : goal.returns-then-has_cycle
unfolding unreset
returns-then-has_cycle c =
    some_so c.args.m.now.clocks c.loop-x.x (unreset_at c.args.m.now) (omega arith)
    (sym (c.has_cycle.ensures ∙ flagged_cycle c.counted_edges.ensures) ∙ c.if-has_cycle.true)

pub loop-x-preserved : goal.loop-x-preserved
loop-x-preserved c =
    let none : unreset_at c.args.m.now c.loop-x.x ≡ false = sym (c.has_cycle.ensures ∙ flagged_cycle c.counted_edges.ensures) ∙ c.if-has_cycle.false in
    sym (ap (λ (b : Bool). b || false) (sym none) ∙ some_more (unreset_at c.args.m.now) c.loop-x.x false (sym c.loop-x.invariant))

pub returns : goal.returns
unfolding unreset
returns c =
    let all : c.loop-x.x ≡ c.args.m.now.clocks = omega arith in
    sym c.loop-x.invariant ∙ ap (λ (n : ℕ). some_below n (unreset_at c.args.m.now)) all
