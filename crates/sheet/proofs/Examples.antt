-- 01's case and a few more, computed.
use mathlib.Core.Path.{◌≡◌, refl}
use mathlib.Core.List.{List, [], ◌∷◌, map}
use Prim.Native.Nat.{ℕ}
use Rattle.theory.specs.Below.{any, all, tab}
use Rattle.theory.specs.Lists.{same}
use Rattle.theory.specs.Region.{fits, attains, lawful, corners, has_corner, face, shares, regions}
use Rattle.theory.specs.RegionGraph.{allowed, guard_holds}
use Rattle.theory.specs.StateGraph.{region_count, location_of, region_of, same_region, index_in, number_of, allowed_state, state_at, time_from, jump_from, step_from, beside, flow_test, system_of}
use Rattle.theory.specs.Sheet.{keeps}
use Rattle.number.specs.Number.{read_number, spell}
use Rattle.number.specs.Shortest.{read_spelled}
use Rattle.evidence_number.specs.Evidence.{read_evidence}
use Rattle.model.specs.Each.{each}
use Rattle.stay_fields.specs.Resolve.{resolved}
use Rattle.parser.specs.Parse.{field_at, kind_at, invariant_at, ends_at, guard_at, parse_body, parse_counts, parse_model}
use Rattle.graph.specs.Plan.{automaton_of}
use Rattle.sheet_numbers.specs.Numbers.{number_keeps, numbers_from}
use Rattle.sheet.specs.Answer.{sheet_refusal, sheet_answer}

-- the answers to sheets of a model, both as bytes; a sheet's numbers begin after its first byte
abbrev answers : List ℕ → List (List ℕ) → List ℕ
answers model sheets = map (λ bs. sheet_answer (parse_model model).model bs 1) sheets

cases :
    -- "model 1,1,1,1,0,0,0,0 has sheet 1,5,3,1"
    (answers (1 ∷ 1 ∷ 1 ∷ 1 ∷ 0 ∷ 0 ∷ 0 ∷ 0 ∷ [])
    ((1 ∷ 5 ∷ 3 ∷ 1 ∷ [])
    -- padded: its first number, its last; and above 2S-1 as well; after a number above it; in bytes that remain, which are not read
    ∷ (1 ∷ 133 ∷ 128 ∷ 0 ∷ 3 ∷ 1 ∷ [])
    ∷ (1 ∷ 5 ∷ 3 ∷ 129 ∷ 0 ∷ [])
    ∷ (1 ∷ 137 ∷ 0 ∷ [])
    ∷ (1 ∷ 9 ∷ 131 ∷ 0 ∷ [])
    ∷ (1 ∷ 5 ∷ 3 ∷ 1 ∷ 128 ∷ 0 ∷ [])
    -- the bytes end too soon
    ∷ (1 ∷ 5 ∷ 3 ∷ [])
    -- a third byte with its top bit set
    ∷ (1 ∷ 5 ∷ 131 ∷ 128 ∷ 128 ∷ [])
    -- above 2S-1, which is 5; 65,541, cut to 16 bits, would be 5
    ∷ (1 ∷ 7 ∷ 3 ∷ 1 ∷ [])
    ∷ (1 ∷ 133 ∷ 128 ∷ 4 ∷ 3 ∷ 1 ∷ [])
    -- a byte remains
    ∷ (1 ∷ 5 ∷ 3 ∷ 1 ∷ 0 ∷ [])
    -- the start is out; a time step leads out; one raises the height
    ∷ (1 ∷ 4 ∷ 3 ∷ 1 ∷ [])
    ∷ (1 ∷ 5 ∷ 3 ∷ 0 ∷ [])
    ∷ (1 ∷ 3 ∷ 5 ∷ 1 ∷ []) ∷ [])
    ≡ 0 ∷ 15 ∷ 15 ∷ 15 ∷ 11 ∷ 6 ∷ 1 ∷ 2 ∷ 11 ∷ 11 ∷ 6 ∷ 12 ∷ 12 ∷ 12 ∷ [])
    -- with kind 1 no sheet passes
    × (answers (1 ∷ 1 ∷ 1 ∷ 1 ∷ 0 ∷ 0 ∷ 1 ∷ 0 ∷ [])
    ((1 ∷ 5 ∷ 3 ∷ 1 ∷ []) ∷ [])
    ≡ 12 ∷ [])
    -- with the stay limit 0 the start alone is allowed
    × (answers (1 ∷ 1 ∷ 1 ∷ 1 ∷ 0 ∷ 0 ∷ 0 ∷ 1 ∷ [])
    ((1 ∷ 1 ∷ 0 ∷ 0 ∷ [])
    ∷ (1 ∷ 1 ∷ 2 ∷ 0 ∷ []) ∷ [])
    ≡ 0 ∷ 11 ∷ [])
    -- two locations and an edge that opens at 1 and resets nothing: of the second location, the point 1 is in
    × (answers (1 ∷ 1 ∷ 1 ∷ 2 ∷ 1 ∷ 0 ∷ 0 ∷ 0 ∷ 0 ∷ 0 ∷ 0 ∷ 1 ∷ 0 ∷ 1 ∷ 1 ∷ [])
    ((1 ∷ 7 ∷ 5 ∷ 3 ∷ 4 ∷ 2 ∷ 1 ∷ [])
    -- the point 0 shares no corner with it, so time may keep its height
    ∷ (1 ∷ 7 ∷ 5 ∷ 3 ∷ 2 ∷ 2 ∷ 1 ∷ [])
    -- what lies between shares one; if that is in, so must its face 0 be
    ∷ (1 ∷ 7 ∷ 5 ∷ 3 ∷ 0 ∷ 0 ∷ 1 ∷ [])
    ∷ (1 ∷ 7 ∷ 5 ∷ 3 ∷ 4 ∷ 3 ∷ 1 ∷ []) ∷ [])
    ≡ 0 ∷ 0 ∷ 12 ∷ 12 ∷ [])
unfolding sheet_refusal numbers_from number_keeps read_evidence read_spelled read_number spell keeps all any tab same system_of automaton_of flow_test beside step_from time_from jump_from state_at number_of index_in same_region allowed_state location_of region_of region_count allowed guard_holds regions lawful fits attains face shares has_corner corners parse_model parse_counts parse_body each kind_at invariant_at ends_at guard_at resolved field_at
cases = (refl, refl, refl, refl)
