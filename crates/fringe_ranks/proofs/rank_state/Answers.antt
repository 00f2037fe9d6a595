-- `fringe_ranks::rank_state` meets its contract. The steps of a fringe state lead to lower states, which have their ranks.
use native.Mathlib.Omega.{arith}
use Rattle.graph.proofs.States.{states_limit}
use Rattle.fringe_ranks.proofs.Later.{later_is}
use Rattle.fringe_ranks.proofs.Ranks.{flag_some, rank_set, rank_few}
use Rattle.fringe_ranks.proofs.rank_state.Goals as goal

pub overflow_cast-ranks : goal.overflow_cast-ranks
overflow_cast-ranks c =
    let a = c.args in
    let (A, b, l, R) = c.requires in
    let i = flag_some A a.p b c.if-flags-p-eq0.false in
    let t = later_is a.space.now.plan.now.model a.p _ A.fringe.long c.time_step-later.result c.time_step-later.ensures in
    let w = c.most_jumps-rank in
    omega (arith, rank_few A a.ranks.now a.p i R _ w.result t w.ensures, states_limit a.space.now.plan.now.model A.lawful)

pub overflow_add-rank : goal.overflow_add-rank
overflow_add-rank c =
    let a = c.args in
    let (A, b, l, R) = c.requires in
    let i = flag_some A a.p b c.if-flags-p-eq0.false in
    let t = later_is a.space.now.plan.now.model a.p _ A.fringe.long c.time_step-later.result c.time_step-later.ensures in
    let w = c.most_jumps-rank in
    omega (arith, rank_few A a.ranks.now a.p i R _ w.result t w.ensures, states_limit a.space.now.plan.now.model A.lawful)

pub returns : goal.returns
returns c =
    let a = c.args in
    let (A, b, l, R) = c.requires in
    let i = flag_some A a.p b c.if-flags-p-eq0.false in
    let t = later_is a.space.now.plan.now.model a.p _ A.fringe.long c.time_step-later.result c.time_step-later.ensures in
    let w = c.most_jumps-rank in
    rank_set A a.ranks.now a.p i R _ w.result a.c c.max.result t w.ensures c.max.ensures
