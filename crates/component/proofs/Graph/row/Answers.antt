-- A node's successors are a part of targets.
use mathlib.Core.Path.{refl}
use Rattle.component.proofs.GraphLaws.{row_within, row_of, flow_below}
use Rattle.component.proofs.Graph.row.Goals as goal

pub slice_bounds-result-end : goal.slice_bounds-result-end
slice_bounds-result-end c = (row_within _ _ _ c.args.self.now.lists c.args.v c.requires).1

pub returns : goal.returns
returns c =
    let R = row_of _ _ _ c.args.self.now.lists c.args.v c.requires _ refl in
    record { row = R; below = λ k l. flow_below _ _ _ c.args.self.now.lists c.args.v _ (R.only k l) }
