-- How many bytes a model has at most. 01: "A number is one to three groups of seven bits ..., one per byte".
use Rattle.std.specs.Prelude.{ℕ, ◌+◌, ◌*◌}
use Rattle.limits.specs.Limits.{max_clocks, max_locations, max_edges}

abbrev number_bytes : ℕ
number_bytes = 3

-- mark, clocks, ceiling, locations, edges, start
abbrev pub header_bytes : ℕ
header_bytes = 6 * number_bytes

-- kind and stay fields
abbrev pub location_bytes : ℕ
location_bytes = (1 + max_clocks) * number_bytes

-- from, to, mask, lows and highs
abbrev pub edge_bytes : ℕ
edge_bytes = (3 + 2 * max_clocks) * number_bytes

abbrev pub max_model_bytes : ℕ
max_model_bytes = header_bytes + max_locations * location_bytes + max_edges * edge_bytes
