-- Worked examples of the shortest plan, by computing.
use Prim.Native.Nat.{ℕ}
use mathlib.Core.Path.{◌≡◌, refl}
use mathlib.Core.List.{List, [], ◌∷◌}
use Rattle.number.specs.Number.{read_number, spell, spell_all}
use Rattle.stay_limits.specs.Stay.{last_exit}
use Rattle.model.specs.Each.{each, gather}
use Rattle.stay_fields.specs.Resolve.{resolved}
use Rattle.parser.specs.Parse.{field_at, kind_at, invariant_at, ends_at, guard_at, parse_body, parse_counts, parse_model}
use Rattle.edge_walks.specs.Opening.{opens_alone}
use Rattle.edge_walks.specs.Cycle.{mark_edge, round_of, survivors, has_cycle, unreset}
use Rattle.plan_reader.specs.Accept.{read_model}
use Rattle.canonical.specs.Canonical.{numbers_of, plan_numbers, shortest_plan}

-- the loop plan
plan : List ℕ
plan =
    1 ∷ 2 ∷ 2 ∷ 4 ∷ 4 ∷ 0
    ∷ 0 ∷ 0 ∷ 0
    ∷ 0 ∷ 0 ∷ 0
    ∷ 0 ∷ 0 ∷ 0
    ∷ 1 ∷ 0 ∷ 0
    ∷ 0 ∷ 1 ∷ 2 ∷ 1 ∷ 1 ∷ 1 ∷ 1
    ∷ 1 ∷ 2 ∷ 1 ∷ 0 ∷ 2 ∷ 0 ∷ 2
    ∷ 2 ∷ 1 ∷ 2 ∷ 0 ∷ 2 ∷ 2 ∷ 2
    ∷ 2 ∷ 3 ∷ 0 ∷ 0 ∷ 0 ∷ 2 ∷ 2 ∷ []

-- one edge leaves the first location, with high end 1; none leaves the second
exit : ℕ → ℕ → ℕ → List ℕ
exit mark s t = mark ∷ 1 ∷ 3 ∷ 2 ∷ 1 ∷ 0 ∷ 0 ∷ s ∷ 0 ∷ t ∷ 0 ∷ 1 ∷ 0 ∷ 0 ∷ 1 ∷ []

-- a stay field of M+1 becomes 0; padding goes; a limit below the ceiling stays; the loop plan is its own shortest form; a limit of 1 and M+1, where the
-- edge decides in mark 2 and not in mark 1
shortest :
    (shortest_plan (read_model (1 ∷ 1 ∷ 1 ∷ 1 ∷ 0 ∷ 0 ∷ 0 ∷ 2 ∷ [])) ≡ 1 ∷ 1 ∷ 1 ∷ 1 ∷ 0 ∷ 0 ∷ 0 ∷ 0 ∷ [])
    × (shortest_plan (read_model (129 ∷ 128 ∷ 0 ∷ 1 ∷ 1 ∷ 129 ∷ 0 ∷ 0 ∷ 0 ∷ 0 ∷ 0 ∷ [])) ≡ 1 ∷ 1 ∷ 1 ∷ 1 ∷ 0 ∷ 0 ∷ 0 ∷ 0 ∷ [])
    × (shortest_plan (read_model (1 ∷ 1 ∷ 2 ∷ 1 ∷ 0 ∷ 0 ∷ 1 ∷ 2 ∷ [])) ≡ 1 ∷ 1 ∷ 2 ∷ 1 ∷ 0 ∷ 0 ∷ 1 ∷ 2 ∷ [])
    × (shortest_plan (read_model plan) ≡ plan)
    × (shortest_plan (read_model (exit 1 2 4)) ≡ exit 1 2 0) × (shortest_plan (read_model (exit 1 4 4)) ≡ exit 1 0 0)
    × (shortest_plan (read_model (exit 2 2 4)) ≡ exit 2 0 0) × (shortest_plan (read_model (exit 2 4 4)) ≡ exit 2 4 0)
unfolding plan exit last_exit shortest_plan plan_numbers numbers_of gather spell_all spell read_model parse_model parse_counts parse_body each kind_at invariant_at ends_at guard_at resolved field_at read_number unreset opens_alone has_cycle survivors round_of mark_edge
shortest = (refl, refl, refl, refl, refl, refl, refl, refl)
