-- Answers of trails on 01's bench, by computing.
use Prim.Native.Nat.{ℕ, suc, ◌+◌}
use mathlib.Core.Path.{◌≡◌, refl}
use mathlib.Core.List.{List, [], ◌∷◌, ◌++◌, map}
use lib.ListN.{get_or, take, drop}
use Rattle.theory.specs.Below.{tab}
use Rattle.theory.specs.Lists.{same}
use Rattle.theory.specs.Region.{regions, lawful, fits, attains, corners, has_corner, face, shares}
use Rattle.theory.specs.RegionGraph.{allowed, guard_holds}
use Rattle.theory.specs.Labels.{opens}
use Rattle.theory.specs.StateGraph.{region_count, location_of, region_of, same_region, index_in, number_of, allowed_state, state_at, time_from, jump_from, step_from, beside, system_of, labelled_of}
use Rattle.number.specs.Number.{read_number, spell}
use Rattle.number.specs.Shortest.{read_spelled}
use Rattle.evidence_number.specs.Evidence.{read_evidence}
use Rattle.trail_numbers.specs.Numbers.{label_at, numbers_at}
use Rattle.model.specs.Each.{each}
use Rattle.stay_fields.specs.Resolve.{resolved}
use Rattle.parser.specs.Parse.{field_at, kind_at, invariant_at, ends_at, guard_at, parse_body, parse_counts, parse_model}
use Rattle.graph.specs.Plan.{automaton_of}
use Rattle.replay.specs.Trail.{run, flow_to, walk_step, closed_walk, face_step_to, touch_step_to, trail_step, trail_answer}

-- the answers for a plan and evidence whose first number, 2, is one byte
abbrev answers : List ℕ → List (List ℕ) → List ℕ
answers plan evidence = map (λ bs. trail_answer (parse_model plan).model bs 1) evidence

-- "model 1,1,1,1,0,0,0,0 ...; with kind 1, trail 2,0"
line : ℕ → List ℕ
line kind = 1 ∷ 1 ∷ 1 ∷ 1 ∷ 0 ∷ 0 ∷ kind ∷ 0 ∷ []

-- the loop plan
loop : List ℕ
loop =
    1 ∷ 2 ∷ 2 ∷ 4 ∷ 4 ∷ 0
    ∷ 0 ∷ 0 ∷ 0
    ∷ 0 ∷ 0 ∷ 0
    ∷ 0 ∷ 0 ∷ 0
    ∷ 1 ∷ 0 ∷ 0
    ∷ 0 ∷ 1 ∷ 2 ∷ 1 ∷ 1 ∷ 1 ∷ 1
    ∷ 1 ∷ 2 ∷ 1 ∷ 0 ∷ 2 ∷ 0 ∷ 2
    ∷ 2 ∷ 1 ∷ 2 ∷ 0 ∷ 2 ∷ 2 ∷ 2
    ∷ 2 ∷ 3 ∷ 0 ∷ 0 ∷ 0 ∷ 2 ∷ 2 ∷ []

-- "a passing trail, perhaps not ours"
trail : List ℕ
trail =
    2 ∷ 8 ∷ 0 ∷ 0 ∷ 1 ∷ 0 ∷ 0 ∷ 1 ∷ 1
    ∷ 3 ∷ 0 ∷ 1 ∷ 0 ∷ 1 ∷ 10 ∷ 0 ∷ 0 ∷ 1 ∷ 2 ∷ 0 ∷ 0 ∷ 0 ∷ 0 ∷ 0 ∷ 0 ∷ 1 ∷ 1
    ∷ 2 ∷ 0 ∷ 2 ∷ 0 ∷ 0 ∷ 1 ∷ 3 ∷ []

cases : List (List ℕ)
cases =
    -- it passes; "its first 33 bytes: 1"; "its last number 2 instead: 14, since that jump replays"; a byte remains: 6
    trail
    ∷ take 33 trail
    ∷ (take 33 trail ++ (2 ∷ []))
    ∷ (trail ++ (0 ∷ []))
    -- a kind whose third byte has its top bit set: 2; kind 4, an edge that the plan lacks, time past the ceiling: 13
    ∷ (2 ∷ 1 ∷ 128 ∷ 128 ∷ 128 ∷ [])
    ∷ (2 ∷ 1 ∷ 4 ∷ [])
    ∷ (2 ∷ 1 ∷ 1 ∷ 4 ∷ [])
    ∷ (2 ∷ 5 ∷ 0 ∷ 0 ∷ 0 ∷ 0 ∷ 0 ∷ [])
    -- after one time step a face with whole part 256, a region itself, a face
    ∷ (2 ∷ 2 ∷ 0 ∷ 2 ∷ 128 ∷ 2 ∷ 0 ∷ 0 ∷ 0 ∷ [])
    ∷ (2 ∷ 2 ∷ 0 ∷ 2 ∷ 0 ∷ 0 ∷ 1 ∷ 1 ∷ [])
    ∷ (2 ∷ 2 ∷ 0 ∷ 2 ∷ 0 ∷ 0 ∷ 0 ∷ 0 ∷ [])
    -- a touch that shares no corner is bad at its last number; then the count is missing, 0 is bad
    ∷ (2 ∷ 1 ∷ 3 ∷ 2 ∷ 2 ∷ 0 ∷ 0 ∷ [])
    ∷ (2 ∷ 1 ∷ 3 ∷ 0 ∷ 0 ∷ 0 ∷ 0 ∷ [])
    ∷ (2 ∷ 1 ∷ 3 ∷ 0 ∷ 0 ∷ 0 ∷ 0 ∷ 0 ∷ [])
    -- a walk with a bad edge, with a face: 13 at once; one that breaks off: 1; one that doesn't close: 13
    ∷ (2 ∷ 1 ∷ 3 ∷ 0 ∷ 0 ∷ 0 ∷ 0 ∷ 5 ∷ 1 ∷ 9 ∷ [])
    ∷ (2 ∷ 1 ∷ 3 ∷ 0 ∷ 0 ∷ 0 ∷ 0 ∷ 5 ∷ 2 ∷ [])
    ∷ (2 ∷ 1 ∷ 3 ∷ 0 ∷ 0 ∷ 0 ∷ 0 ∷ 5 ∷ 0 ∷ [])
    ∷ (2 ∷ 1 ∷ 3 ∷ 0 ∷ 0 ∷ 0 ∷ 0 ∷ 1 ∷ 0 ∷ []) ∷ []

-- the trail with one number padded, all of which are below 128
padded : ℕ → List ℕ
padded i = take i trail ++ ((get_or trail i 0 + 128) ∷ 0 ∷ drop (suc i) trail)

-- its count, the first kind, an edge, a region's first and last number, the walk's count, a kind and an edge in the walk, the last edge; in bytes that
-- remain; a kind 4; a region that then breaks off
unpadded_only : List (List ℕ)
unpadded_only =
    map padded (1 ∷ 2 ∷ 5 ∷ 10 ∷ 13 ∷ 14 ∷ 17 ∷ 18 ∷ 33 ∷ [])
    ++ ((trail ++ (128 ∷ 0 ∷ []))
    ∷ (2 ∷ 1 ∷ 132 ∷ 0 ∷ [])
    ∷ (2 ∷ 1 ∷ 2 ∷ 137 ∷ 0 ∷ []) ∷ [])

bench :
    (answers (line 1) ((2 ∷ 0 ∷ []) ∷ []) ≡ 0 ∷ [])
    × (answers (line 0) ((2 ∷ 0 ∷ []) ∷ (2 ∷ 1 ∷ 3 ∷ 1 ∷ 0 ∷ []) ∷ []) ≡ 14 ∷ 13 ∷ [])
    × (answers loop cases ≡ 0 ∷ 1 ∷ 14 ∷ 6 ∷ 2 ∷ 13 ∷ 13 ∷ 13 ∷ 13 ∷ 13 ∷ 14 ∷ 13 ∷ 1 ∷ 13 ∷ 13 ∷ 13 ∷ 1 ∷ 13 ∷ [])
    × (answers loop unpadded_only ≡ 15 ∷ 15 ∷ 15 ∷ 15 ∷ 15 ∷ 15 ∷ 15 ∷ 15 ∷ 15 ∷ 6 ∷ 15 ∷ 15 ∷ [])
unfolding line loop trail cases padded unpadded_only trail_answer trail_step run flow_to label_at walk_step closed_walk numbers_at face_step_to touch_step_to read_evidence read_spelled read_number spell parse_model parse_counts parse_body each kind_at invariant_at ends_at guard_at resolved field_at automaton_of tab system_of labelled_of opens step_from time_from jump_from state_at beside allowed_state number_of index_in same_region region_of location_of region_count regions allowed guard_holds lawful fits attains face shares corners has_corner same
bench = (refl, refl, refl, refl)
