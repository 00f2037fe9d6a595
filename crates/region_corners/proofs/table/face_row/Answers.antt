-- `table::face_row` meets its contract: the row stands between two starts.
use native.Mathlib.Omega.{arith}
use Prim.Native.Nat.{ℕ, ◌+◌}
use mathlib.Core.Path.{◌≡◌, ap, ◌∙◌}
use mathlib.Core.List.{List}
use lib.ListN.{length, get_or}
use Rattle.region_corners.specs.Faces.{face_rows, starts}
use Rattle.region_corners.proofs.Rows.{row_end, row_within, row_part, faces_long}
use Rattle.region_corners.proofs.table.face_row.Goals as goal
use Rattle.region_corners.proofs.table.face_row.Goals.{After-from-to}

-- where the row begins and where it ends
begin : (c : After-from-to) → c.from-from.result ≡ get_or (starts 0 face_rows) c.args.c 0
begin c = c.from-from.ensures ∙ ap (λ (m : List ℕ). get_or m c.args.c 0) c.start_list-starts.ensures

stop : (c : After-from-to) → c.from-to.result ≡ get_or (starts 0 face_rows) (c.args.c + 1) 0
stop c = c.from-to.ensures ∙ ap (λ (m : List ℕ). get_or m (c.args.c + 1) 0) c.start_list-starts.ensures

pub slice_bounds-result-count : goal.slice_bounds-result-count
slice_bounds-result-count c =
    let s = (goal.at.slice_bounds-result-count c).After-from-to in
    omega (arith, begin s, stop s, row_end c.args.c c.requires)

pub slice_bounds-result-start : goal.slice_bounds-result-start
slice_bounds-result-start c =
    let s = (goal.at.slice_bounds-result-start c).After-from-to in
    omega (arith, begin s, stop s, row_end c.args.c c.requires)

pub slice_bounds-result-end : goal.slice_bounds-result-end
slice_bounds-result-end c =
    let s = (goal.at.slice_bounds-result-end c).After-from-to in
    omega (arith, stop s, row_within c.args.c c.requires, faces_long, ap length c.face_list-list.ensures)

pub returns : goal.returns
returns c =
    let s = (goal.at.returns c).After-from-to in
    rw c.face_list-list.ensures (row_part c.args.c c.requires _ _ (begin s) (stop s))
