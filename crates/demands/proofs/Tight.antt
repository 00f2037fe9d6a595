-- The bound (K+1)e < D is tight: a plan that is accepted, a sheet that passes for it, and a widened run of K = 7 jumps with (K+1)e = D that enters a
-- forbidden location.
use mathlib.Core.Path.{◌≡◌, refl}
use mathlib.Core.Bool.{false, true≢false}
use mathlib.Core.List.Memᴰ
use mathlib.Core.List.{List, [], ◌∷◌}
use Prim.Native.Nat.{ℕ, ◌+◌, ◌*◌, ◌≤◌, ◌<◌}
use native.Mathlib.Omega.{arith}
use lib.ListN.{length}
use Rattle.theory.specs.Below.{tab, any, all}
use Rattle.theory.specs.Lists.{same}
use Rattle.theory.specs.Pointwise.{Each}
use Rattle.theory.specs.Automaton.{Edge, Automaton, Upto, AtLeast, Run}
use Rattle.theory.specs.Region.{regions, lawful, fits, attains, corners, has_corner, face, shares}
use Rattle.theory.specs.RegionGraph.{allowed, guard_holds}
use Rattle.theory.specs.StateGraph.{region_count, location_of, region_of, same_region, index_in, number_of, allowed_state, state_at, time_from, jump_from, step_from, beside, flow_test, system_of}
use Rattle.theory.specs.Sheet.{keeps}
use Rattle.number.specs.Number.{read_number, spell}
use Rattle.number.specs.Shortest.{read_spelled}
use Rattle.model.specs.Each.{each}
use Rattle.stay_fields.specs.Resolve.{resolved}
use Rattle.parser.specs.Parse.{field_at, kind_at, invariant_at, ends_at, guard_at, parse_body, parse_counts, parse_model}
use Rattle.edge_walks.specs.Opening.{opens_alone}
use Rattle.edge_walks.specs.Cycle.{mark_edge, round_of, survivors, has_cycle, unreset}
use Rattle.plan_reader.specs.Accept.{read_model}
use Rattle.graph.specs.Plan.{edge_of, automaton_of}
use Rattle.evidence_number.specs.Evidence.{read_evidence}
use Rattle.sheet_numbers.specs.Numbers.{number_keeps, numbers_from}
use Rattle.sheet.specs.Answer.{sheet_refusal}
use Rattle.evidence.specs.Evidence.{of_kind, checked}
use Rattle.call.specs.Call.{model_of}
use Rattle.demands.specs.Tight.{stairs, stairs_sheet}
use Rattle.evidence.specs.Evidence as evidence

pub stairs_accepted : (read_model stairs).refusal ≡ 0
unfolding stairs stairs_sheet checked of_kind sheet_refusal numbers_from number_keeps keeps read_evidence read_spelled read_number spell read_model parse_model parse_counts parse_body each kind_at invariant_at ends_at guard_at resolved field_at mark_edge round_of survivors has_cycle opens_alone unreset automaton_of tab any all system_of flow_test step_from time_from jump_from state_at beside allowed_state number_of index_in same_region region_of location_of region_count regions allowed guard_holds lawful fits attains face shares corners has_corner same
stairs_accepted = refl

pub stairs_pass : checked (model_of stairs) stairs_sheet ≡ evidence.Sheet
unfolding stairs stairs_sheet checked of_kind sheet_refusal numbers_from number_keeps keeps read_evidence read_spelled read_number spell read_model parse_model parse_counts parse_body each kind_at invariant_at ends_at guard_at resolved field_at mark_edge round_of survivors has_cycle opens_alone unreset automaton_of tab any all system_of flow_test step_from time_from jump_from state_at beside allowed_state number_of index_in same_region region_of location_of region_count regions allowed guard_holds lawful fits attains face shares corners has_corner same
stairs_pass = refl

-- ---- the run: N = D = 8, e = 1, and an eighth of a unit of waiting before each jump

abbrev plan : Automaton
plan = automaton_of (model_of stairs)

abbrev rung : ℕ → Edge
rung = edge_of (model_of stairs)

two_high : {x y c d : ℕ} → x * 8 ≤ (c * 8 + 1) * 8 → y * 8 ≤ (d * 8 + 1) * 8 → Upto 8 1 8 (x ∷ y ∷ []) (c ∷ d ∷ [])
two_high h k = Each.more h (Each.more k Each.none)

two_low : {x y c d : ℕ} → c * 8 * 8 ≤ x * 8 + 1 * 8 → d * 8 * 8 ≤ y * 8 + 1 * 8 → AtLeast 8 1 8 (x ∷ y ∷ []) (c ∷ d ∷ [])
two_low h k = Each.more h (Each.more k Each.none)

at_0 : Run plan 8 1 8 [] 0 (0 ∷ 0 ∷ []) 0
unfolding stairs read_number read_model parse_model parse_counts parse_body each kind_at invariant_at ends_at guard_at resolved field_at mark_edge round_of survivors has_cycle opens_alone unreset automaton_of tab
at_0 = Run.begin (two_high (omega arith) (omega arith))

at_1 : Run plan 8 1 8 (rung 0 ∷ []) 1 (0 ∷ 1 ∷ []) 1
unfolding stairs read_number read_model parse_model parse_counts parse_body each kind_at invariant_at ends_at guard_at resolved field_at mark_edge round_of survivors has_cycle opens_alone unreset automaton_of tab
at_1 = Run.step at_0 1 (rung 0) record {
  drawn = Memᴰ.head refl;
  here = refl;
  stays = two_high (omega arith) (omega arith);
  low = two_low (omega arith) (omega arith);
  high = two_high (omega arith) (omega arith);
  enters = two_high (omega arith) (omega arith);
}

at_2 : Run plan 8 1 8 (rung 1 ∷ rung 0 ∷ []) 2 (0 ∷ 2 ∷ []) 2
unfolding stairs read_number read_model parse_model parse_counts parse_body each kind_at invariant_at ends_at guard_at resolved field_at mark_edge round_of survivors has_cycle opens_alone unreset automaton_of tab
at_2 = Run.step at_1 1 (rung 1) record {
  drawn = Memᴰ.tail (Memᴰ.head refl);
  here = refl;
  stays = two_high (omega arith) (omega arith);
  low = two_low (omega arith) (omega arith);
  high = two_high (omega arith) (omega arith);
  enters = two_high (omega arith) (omega arith);
}

at_3 : Run plan 8 1 8 (rung 2 ∷ rung 1 ∷ rung 0 ∷ []) 3 (0 ∷ 3 ∷ []) 3
unfolding stairs read_number read_model parse_model parse_counts parse_body each kind_at invariant_at ends_at guard_at resolved field_at mark_edge round_of survivors has_cycle opens_alone unreset automaton_of tab
at_3 = Run.step at_2 1 (rung 2) record {
  drawn = Memᴰ.tail (Memᴰ.tail (Memᴰ.head refl));
  here = refl;
  stays = two_high (omega arith) (omega arith);
  low = two_low (omega arith) (omega arith);
  high = two_high (omega arith) (omega arith);
  enters = two_high (omega arith) (omega arith);
}

at_4 : Run plan 8 1 8 (rung 3 ∷ rung 2 ∷ rung 1 ∷ rung 0 ∷ []) 4 (0 ∷ 4 ∷ []) 4
unfolding stairs read_number read_model parse_model parse_counts parse_body each kind_at invariant_at ends_at guard_at resolved field_at mark_edge round_of survivors has_cycle opens_alone unreset automaton_of tab
at_4 = Run.step at_3 1 (rung 3) record {
  drawn = Memᴰ.tail (Memᴰ.tail (Memᴰ.tail (Memᴰ.head refl)));
  here = refl;
  stays = two_high (omega arith) (omega arith);
  low = two_low (omega arith) (omega arith);
  high = two_high (omega arith) (omega arith);
  enters = two_high (omega arith) (omega arith);
}

at_5 : Run plan 8 1 8 (rung 4 ∷ rung 3 ∷ rung 2 ∷ rung 1 ∷ rung 0 ∷ []) 5 (0 ∷ 5 ∷ []) 5
unfolding stairs read_number read_model parse_model parse_counts parse_body each kind_at invariant_at ends_at guard_at resolved field_at mark_edge round_of survivors has_cycle opens_alone unreset automaton_of tab
at_5 = Run.step at_4 1 (rung 4) record {
  drawn = Memᴰ.tail (Memᴰ.tail (Memᴰ.tail (Memᴰ.tail (Memᴰ.head refl))));
  here = refl;
  stays = two_high (omega arith) (omega arith);
  low = two_low (omega arith) (omega arith);
  high = two_high (omega arith) (omega arith);
  enters = two_high (omega arith) (omega arith);
}

at_6 : Run plan 8 1 8 (rung 5 ∷ rung 4 ∷ rung 3 ∷ rung 2 ∷ rung 1 ∷ rung 0 ∷ []) 6 (0 ∷ 6 ∷ []) 6
unfolding stairs read_number read_model parse_model parse_counts parse_body each kind_at invariant_at ends_at guard_at resolved field_at mark_edge round_of survivors has_cycle opens_alone unreset automaton_of tab
at_6 = Run.step at_5 1 (rung 5) record {
  drawn = Memᴰ.tail (Memᴰ.tail (Memᴰ.tail (Memᴰ.tail (Memᴰ.tail (Memᴰ.head refl)))));
  here = refl;
  stays = two_high (omega arith) (omega arith);
  low = two_low (omega arith) (omega arith);
  high = two_high (omega arith) (omega arith);
  enters = two_high (omega arith) (omega arith);
}

at_7 : Run plan 8 1 8 (rung 6 ∷ rung 5 ∷ rung 4 ∷ rung 3 ∷ rung 2 ∷ rung 1 ∷ rung 0 ∷ []) 7 (1 ∷ 7 ∷ []) 7
unfolding stairs read_number read_model parse_model parse_counts parse_body each kind_at invariant_at ends_at guard_at resolved field_at mark_edge round_of survivors has_cycle opens_alone unreset automaton_of tab
at_7 = Run.step at_6 1 (rung 6) record {
  drawn = Memᴰ.tail (Memᴰ.tail (Memᴰ.tail (Memᴰ.tail (Memᴰ.tail (Memᴰ.tail (Memᴰ.head refl))))));
  here = refl;
  stays = two_high (omega arith) (omega arith);
  low = two_low (omega arith) (omega arith);
  high = two_high (omega arith) (omega arith);
  enters = two_high (omega arith) (omega arith);
}

-- 7 jumps, (7 + 1) * 1 = 8, and location 7 is forbidden: with ≤ for < a passing sheet would not cover the run
pub not_covered : ((K e D N : ℕ) → (K + 1) * e ≤ D → 0 < N
    → (gs : List Edge) (l : ℕ) (v : List ℕ) (t : ℕ) → length gs ≤ K → Run plan N e D gs l v t → plan.forbidden l ≡ false) → ⊥
unfolding stairs read_number read_model parse_model parse_counts parse_body each kind_at invariant_at ends_at guard_at resolved field_at mark_edge round_of survivors has_cycle opens_alone unreset automaton_of tab
not_covered h = true≢false (h 7 1 8 8 (omega arith) (omega arith) _ 7 _ 7 (omega arith) at_7)
