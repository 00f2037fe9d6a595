-- `ranks::closed` meets its contract: the table is computed from the definition, all of it.
use Rattle.theory.specs.Below.{tab}
use Rattle.limits.specs.Limits.{rank_code_count}
use Rattle.region_steps.specs.Codes.{code_of, closed_ranks, closed_code}
use Rattle.region_steps.proofs.Codes.{closed_below}
use Rattle.theory.proofs.Below.{tab_at}
use Rattle.region_steps.proofs.ranks.closed.Goals as goal

pub returns : goal.returns
unfolding tab code_of closed_ranks
returns c =
    let e = tab_at rank_code_count closed_code c.args.c c.requires in
    record { value = e; upper_bound = rw e (closed_below c.args.c c.requires) }
