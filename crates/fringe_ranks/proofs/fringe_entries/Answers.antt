-- `fringe_ranks::fringe_entries` meets its contract. The invariant: the fringe states below height h have their ranks.
use native.Mathlib.Omega.{arith}
use Rattle.fringe_ranks.proofs.Ranks.{heights_room, entries_are}
use Rattle.fringe_ranks.proofs.fringe_entries.Goals as goal

pub link_heights-requires : goal.link_heights-requires
link_heights-requires c =
    let (A, R) = c.requires in
    heights_room A R.heads_long R.links_long

pub returns : goal.returns
returns c =
    let e = entries_are c.requires.0 c.loop-h.invariant (omega (arith, c.link_heights.auto.heads, c.requires.1.heads_long)) in
    record { value = e.0; upper_bound = e.1 }
