-- `search::guide::flag_state` meets its contract, by the ways out.
use mathlib.Core.Path.{sym, ◌∙◌}
use native.Mathlib.Omega.{arith}
use Rattle.search.proofs.Flags.{tried_some, found_some}
use Rattle.search.proofs.guide.flag_state.Goals as goal

pub returns-then-is_some : goal.returns-then-is_some
returns-then-is_some g c =
    let h = found_some c.least.result c.least.ensures (sym c.is_some.ensures ∙ c.if-is_some.true) in
    tried_some c.from-y.ensures (omega arith) c.least.ensures.is h
