-- What the walk along the flags goes by.
use Rattle.std.specs.Prelude.{◌≡◌, ℕ, ◌*◌, ◌/◌, ◌≤◌, length, get_or}
use Rattle.marking.specs.Tables.{RegionTables}
use Rattle.trail_states.specs.declared.next.Trail.{Trail}

-- the tables fit the states, and there is a kind for each location
pub record Fits (t : Trail) : Type 0 where
  pub tables : RegionTables t.ways.touch t.ways.steps.nodes t.ways.regions t.ways.shapes.now t.ways.heights.now
  pub kinds : t.ways.steps.nodes ≤ length t.kind.now * t.ways.regions

abbrev pub forbidden_at : Trail → ℕ → Type 0
forbidden_at t p = get_or t.kind.now (p / t.ways.regions) 0 ≡ 1
