-- `least_time::steps::take_jumps` meets its contract. The invariant: what is left is led to by the edges from e on.
use native.Mathlib.Omega.{arith}
use mathlib.Core.Path.{refl, sym, ◌∙◌}
use Rattle.search.proofs.Queue.{partly_first, takes_same, between_turn, between_end}
use Rattle.graph.proofs.Numbers.{next_to}
use Rattle.least_time.proofs.Leading.{jump_some, jump_all}
use Rattle.least_time.proofs.steps.take_jumps.Goals as goal

pub loop-e-init : goal.loop-e-init
loop-e-init c = (record { level = refl; queue = refl }, partly_first c.requires.queue.2)

pub jump_step-requires : goal.jump_step-requires
jump_step-requires c = (omega (arith, c.from-e-end.ensures), c.requires.state)

pub take_next-requires : goal.take_next-requires
take_next-requires c =
    let A = c.loop-e.invariant.1.takes in (
      c.requires.queue.1,
      λ q e. omega (arith, (next_to c.args.space.now.plan.now.model _ q (sym c.jump_step.ensures ∙ e)).1, A.long, c.requires.queue.0),
      A.fits,
    )

pub loop-e-preserved : goal.loop-e-preserved
loop-e-preserved c =
    let i = c.loop-e.invariant in
    let t = c.take_next.ensures in
    let j = c.jump_step.ensures in (
      record { level = t.same.level ∙ i.0.level; queue = t.same.queue ∙ i.0.queue },
      between_turn i.1 (omega arith) (omega (arith, c.from-e-end.ensures)) (takes_same t.takes (λ q d. sym j ∙ d) (λ q d. j ∙ d)),
    )

pub returns : goal.returns
returns c =
    let i = c.loop-e.invariant in
    let m = c.args.space.now.plan.now.model in
    record { takes = takes_same (between_end i.1 (omega (arith, c.from-e-end.ensures))) (jump_some m c.args.p) (jump_all m c.args.p); same = i.0 }
