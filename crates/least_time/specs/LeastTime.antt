-- 02 (e): the least time to a location of a model.
use Rattle.std.specs.Prelude.{ℕ}
use Rattle.theory.specs.Soonest.{time_to}
use Rattle.model.specs.declared.Model.{Model}
use Rattle.graph.specs.Plan.{automaton_of}

-- "the least time from start to a named location, with perfect clocks"; the number of states where no run gets there
abbrev pub least_time : Model → ℕ → ℕ
least_time m l = time_to (automaton_of m) m.locations l
