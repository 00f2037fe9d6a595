-- `tables::fill_steps_and_faces` meets its contract.
use Rattle.graph.proofs.States.{clocks_of, ceiling_of}
use Rattle.tables.proofs.Lent.{regions_are}
use Rattle.tables.proofs.fill_steps_and_faces.Goals as goal

pub fill_faces-requires : goal.fill_faces-requires
fill_faces-requires c =
    let m = c.args.space.now.plan.now.model in
    let ok = c.args.space.now.plan.now.lawful in
    (clocks_of m ok, ceiling_of m ok, c.args.space.now.listed, c.fill_index.ensures, rw (← regions_are m ok) c.requires.by_region)
