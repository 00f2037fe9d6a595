-- Worked examples of the definitions, by computing.
use Prim.Native.Nat.{ℕ}
use mathlib.Core.Path.{◌≡◌, refl}
use mathlib.Core.List.{List, [], ◌∷◌, map}
use lib.ListN.{take}
use Rattle.number.specs.Number.{read_number}
use Rattle.stay_limits.specs.Stay.{last_exit}
use Rattle.model.specs.Each.{each}
use Rattle.stay_fields.specs.Resolve.{resolved}
use Rattle.parser.specs.Parse.{field_at, kind_at, invariant_at, ends_at, guard_at, parse_body, parse_counts, parse_model}
use Rattle.edge_walks.specs.Opening.{opens_alone}
use Rattle.edge_walks.specs.Cycle.{mark_edge, round_of, survivors, has_cycle, unreset}
use Rattle.plan_reader.specs.Accept.{read_model}

-- the loop plan
plan : List ℕ
plan =
    1 ∷ 2 ∷ 2 ∷ 4 ∷ 4 ∷ 0
    ∷ 0 ∷ 0 ∷ 0
    ∷ 0 ∷ 0 ∷ 0
    ∷ 0 ∷ 0 ∷ 0
    ∷ 1 ∷ 0 ∷ 0
    ∷ 0 ∷ 1 ∷ 2 ∷ 1 ∷ 1 ∷ 1 ∷ 1
    ∷ 1 ∷ 2 ∷ 1 ∷ 0 ∷ 2 ∷ 0 ∷ 2
    ∷ 2 ∷ 1 ∷ 2 ∷ 0 ∷ 2 ∷ 2 ∷ 2
    ∷ 2 ∷ 3 ∷ 0 ∷ 0 ∷ 0 ∷ 2 ∷ 2 ∷ []

cases : List (List ℕ)
cases =
    -- "model 1,1,1,1,0,0,0,0", and the loop plan: accepted
    (1 ∷ 1 ∷ 1 ∷ 1 ∷ 0 ∷ 0 ∷ 0 ∷ 0 ∷ [])
    ∷ plan
    -- the bytes end too soon: 1; a third byte with its top bit set: 2
    ∷ (1 ∷ 1 ∷ 1 ∷ 1 ∷ 0 ∷ 0 ∷ 0 ∷ [])
    ∷ (1 ∷ 129 ∷ 128 ∷ 128 ∷ [])
    -- ceiling 4: accepted; ceiling 5: 3
    ∷ (1 ∷ 1 ∷ 4 ∷ 1 ∷ 0 ∷ 0 ∷ 0 ∷ 0 ∷ [])
    ∷ (1 ∷ 1 ∷ 5 ∷ 1 ∷ 0 ∷ 0 ∷ 0 ∷ 0 ∷ [])
    -- s = M+1: accepted; s = M+2: 4
    ∷ (1 ∷ 1 ∷ 1 ∷ 1 ∷ 0 ∷ 0 ∷ 0 ∷ 2 ∷ [])
    ∷ (1 ∷ 1 ∷ 1 ∷ 1 ∷ 0 ∷ 0 ∷ 0 ∷ 3 ∷ [])
    -- low 1 above high 0: 5
    ∷ (1 ∷ 1 ∷ 1 ∷ 1 ∷ 1 ∷ 0 ∷ 0 ∷ 0 ∷ 0 ∷ 0 ∷ 1 ∷ 1 ∷ 0 ∷ [])
    -- a byte remains: 6
    ∷ (1 ∷ 1 ∷ 1 ∷ 1 ∷ 0 ∷ 0 ∷ 0 ∷ 0 ∷ 0 ∷ [])
    -- an edge from a location to itself that resets nothing: 7
    ∷ (1 ∷ 1 ∷ 1 ∷ 1 ∷ 1 ∷ 0 ∷ 0 ∷ 0 ∷ 0 ∷ 0 ∷ 0 ∷ 0 ∷ 1 ∷ [])
    -- mark 2: accepted; marks 0 and 3: 3
    ∷ (2 ∷ 1 ∷ 1 ∷ 1 ∷ 0 ∷ 0 ∷ 0 ∷ 0 ∷ [])
    ∷ (0 ∷ 1 ∷ 1 ∷ 1 ∷ 0 ∷ 0 ∷ 0 ∷ 0 ∷ [])
    ∷ (3 ∷ 1 ∷ 1 ∷ 1 ∷ 0 ∷ 0 ∷ 0 ∷ 0 ∷ []) ∷ []

-- two edges leave the first location, one of which never opens; none leaves the second; each stay field is blank but the third's, M+1
blanks : ℕ → List ℕ
blanks mark =
    mark ∷ 2 ∷ 3 ∷ 3 ∷ 3 ∷ 0
    ∷ 0 ∷ 0 ∷ 0
    ∷ 0 ∷ 0 ∷ 0
    ∷ 0 ∷ 4 ∷ 0
    ∷ 0 ∷ 1 ∷ 0 ∷ 0 ∷ 1 ∷ 0 ∷ 2
    ∷ 0 ∷ 1 ∷ 0 ∷ 2 ∷ 2 ∷ 0 ∷ 0
    ∷ 2 ∷ 2 ∷ 3 ∷ 0 ∷ 0 ∷ 0 ∷ 1 ∷ []

limits : List ℕ → List ℕ
limits bs = take 9 (read_model bs).model.invariant

-- the refusals; then the plan's limits and lows, three places to a location or an edge: each stay field is 0, which means the ceiling
answers :
    (map (λ (bs : List ℕ). (read_model bs).refusal) cases ≡ 0 ∷ 0 ∷ 1 ∷ 2 ∷ 0 ∷ 3 ∷ 0 ∷ 4 ∷ 5 ∷ 6 ∷ 7 ∷ 0 ∷ 3 ∷ 3 ∷ [])
    × (take 12 (read_model plan).model.invariant ≡ 2 ∷ 2 ∷ 0 ∷ 2 ∷ 2 ∷ 0 ∷ 2 ∷ 2 ∷ 0 ∷ 2 ∷ 2 ∷ 0 ∷ [])
    × (take 12 (read_model plan).model.lower ≡ 1 ∷ 1 ∷ 0 ∷ 0 ∷ 0 ∷ 0 ∷ 0 ∷ 2 ∷ 0 ∷ 0 ∷ 2 ∷ 0 ∷ [])
unfolding cases plan last_exit read_model parse_model parse_counts parse_body each kind_at invariant_at ends_at guard_at resolved field_at read_number unreset opens_alone has_cycle survivors round_of mark_edge
answers = (refl, refl, refl)

-- mark 1 means the ceiling; mark 2 the greatest high end clock by clock, of edges that never open and of loops too, and the ceiling where none leaves
blanked :
    (limits (blanks 1) ≡ 3 ∷ 3 ∷ 0 ∷ 3 ∷ 3 ∷ 0 ∷ 3 ∷ 3 ∷ 0 ∷ [])
    × (limits (blanks 2) ≡ 2 ∷ 2 ∷ 0 ∷ 3 ∷ 3 ∷ 0 ∷ 3 ∷ 1 ∷ 0 ∷ [])
    × ((read_model (blanks 1)).mark ≡ 1) × ((read_model (blanks 2)).mark ≡ 2) × ((read_model (blanks 3)).mark ≡ 0)
unfolding blanks limits last_exit read_model parse_model parse_counts parse_body each kind_at invariant_at ends_at guard_at resolved field_at read_number unreset opens_alone has_cycle survivors round_of mark_edge
blanked = (refl, refl, refl, refl, refl)

-- 02: which walks count. A link from a location to itself, by its low end, where the stay limit is 1
link : ℕ → List ℕ
link low = 1 ∷ 1 ∷ 2 ∷ 1 ∷ 1 ∷ 0 ∷ 0 ∷ 2 ∷ 0 ∷ 0 ∷ 0 ∷ low ∷ 2 ∷ []

-- the same with three clocks, the middle one's limit 1
link3 : ℕ → List ℕ
link3 low = 1 ∷ 3 ∷ 2 ∷ 1 ∷ 1 ∷ 0 ∷ 0 ∷ 0 ∷ 2 ∷ 0 ∷ 0 ∷ 0 ∷ 0 ∷ 0 ∷ 2 ∷ low ∷ 2 ∷ 0 ∷ 2 ∷ []

-- there and back, by the mask of both edges: the first has low 2 for clock 0, and where it enters the limit of clock 0 is 1
pair : ℕ → List ℕ
pair mask =
    1 ∷ 2 ∷ 2 ∷ 2 ∷ 2 ∷ 0
    ∷ 0 ∷ 0 ∷ 0
    ∷ 0 ∷ 2 ∷ 0
    ∷ 0 ∷ 1 ∷ mask ∷ 2 ∷ 2 ∷ 0 ∷ 2
    ∷ 1 ∷ 0 ∷ mask ∷ 0 ∷ 2 ∷ 0 ∷ 2 ∷ []

-- there and back, by the mark: the first has low 2, and the blank limit where it enters is the ceiling, 2, or the greatest high end, 1
by_mark : ℕ → List ℕ
by_mark mark =
    mark ∷ 1 ∷ 2 ∷ 2 ∷ 2 ∷ 0
    ∷ 0 ∷ 0
    ∷ 0 ∷ 0
    ∷ 0 ∷ 1 ∷ 0 ∷ 2 ∷ 2
    ∷ 1 ∷ 0 ∷ 0 ∷ 0 ∷ 1 ∷ []

-- links that count though nobody walks them: one wants x = 1 and y = 0, which never come together; at one no edge leads to the location
never : List (List ℕ)
never =
    (1 ∷ 2 ∷ 1 ∷ 1 ∷ 1 ∷ 0 ∷ 0 ∷ 0 ∷ 0 ∷ 0 ∷ 0 ∷ 0 ∷ 1 ∷ 1 ∷ 0 ∷ 0 ∷ [])
    ∷ (1 ∷ 1 ∷ 1 ∷ 2 ∷ 1 ∷ 0 ∷ 0 ∷ 0 ∷ 0 ∷ 0 ∷ 1 ∷ 1 ∷ 0 ∷ 0 ∷ 1 ∷ []) ∷ []

counted :
    (map (λ (low : ℕ). (read_model (link low)).refusal) (1 ∷ 2 ∷ []) ≡ 7 ∷ 0 ∷ [])
    × (map (λ (low : ℕ). (read_model (link3 low)).refusal) (1 ∷ 2 ∷ []) ≡ 7 ∷ 0 ∷ [])
    × (map (λ (mask : ℕ). (read_model (pair mask)).refusal) (1 ∷ 0 ∷ []) ≡ 7 ∷ 0 ∷ [])
    × (map (λ (mark : ℕ). (read_model (by_mark mark)).refusal) (1 ∷ 2 ∷ []) ≡ 7 ∷ 0 ∷ [])
    × (map (λ (bs : List ℕ). (read_model bs).refusal) never ≡ 7 ∷ 7 ∷ [])
unfolding link link3 pair by_mark never last_exit read_model parse_model parse_counts parse_body each kind_at invariant_at ends_at guard_at resolved field_at read_number unreset opens_alone has_cycle survivors round_of mark_edge
counted = (refl, refl, refl, refl, refl)
