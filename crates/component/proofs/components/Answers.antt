-- At the end no node is new and the stack is empty, so all are finished.
use mathlib.Core.Path.{◌≡◌, refl, ap, ◌∙◌}
use native.Mathlib.Omega.{arith}
use lib.ListN.{length, replicate}
use Rattle.std.proofs.lemmas.List.{get_or-replicate, length-replicate}
use Rattle.std.proofs.Common.{rules}
use Rattle.component.specs.Stack.{at}
use Rattle.component.proofs.Ends.{pass_first, all_done, marks_right}
use Rattle.component.proofs.components.Goals as goal

pub explore_all-requires : goal.explore_all-requires
explore_all-requires c =
    let pre = c.requires in
    let e : c.fill.new.self ≡ replicate (length c.args.mark.now) 0 = search rules in
    record {
      pass = pass_first pre.graph_lists (ap length e ∙ length-replicate _ 0 ∙ pre.mark_len.0) pre.mark_len.1 pre.mark_len.2 pre.mark_len.3 (λ s l. ap (λ m. at m s) e ∙ get_or-replicate _ s 0 0 (omega (arith, pre.mark_len.0)));
      top = refl;
      segs = refl;
      depth = refl;
    }

pub settle-requires : goal.settle-requires
settle-requires c =
    let I = c.explore_all.ensures.idle in
    (c.requires.graph_lists.small, I.pass.marks, all_done I.pass c.explore_all.ensures.reached)

pub returns : goal.returns
returns c =
    marks_right c.explore_all.ensures.idle.pass c.explore_all.ensures.reached _
    (λ s l. search (rules, c.settle.ensures))
