-- `successors::list_leaving` meets its contract. The invariant: the edges below e are tried.
use mathlib.Core.Path.{◌≡◌, sym, ap, ◌∙◌}
use native.Mathlib.Omega.{arith}
use Rattle.model.specs.Model.{source_of}
use Rattle.successors.proofs.Leaving.{listed_in, listed_out, listed_end}
use Rattle.successors.proofs.list_leaving.Goals.{then-from-l, else-from-l}
use Rattle.successors.proofs.list_leaving.Goals as goal

pub loop-e-preserved : goal.loop-e-preserved
loop-e-preserved c =
    let o = c.loop-e in
    let s : c.from-in-loop-e.result ≡ source_of c.args.plan.now.model o.e = c.from-in-loop-e.ensures ∙ ap (source_of c.args.plan.now.model) c.from.ensures in
    elim c.if-from-l.branch [
      | then-from-l w ↦ rw (w.edges-is, w.n-is) (listed_in c.args.plan.now.model c.args.l o.invariant (omega arith) c.requires (sym s ∙ w.if-from-l.true))
      | else-from-l w ↦ rw (w.edges-is, w.n-is) (listed_out c.args.plan.now.model c.args.l o.invariant (omega arith) (λ q. w.if-from-l.false (s ∙ q)))
    ]

pub returns : goal.returns
returns c = listed_end c.args.plan.now.model c.args.l c.loop-e.invariant (omega arith)
