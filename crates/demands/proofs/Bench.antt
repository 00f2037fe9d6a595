-- All cases that 01 marks P hold of the definitions, and so do those of 02 (b) on padded evidence, (d) on rounds, (e) on least times, (f) on links that
-- never open, (g) on joint resets and (h) on room: computed, in one test.
use mathlib.Core.Path.{◌≡◌, refl}
use mathlib.Core.Bool.{true}
use Rattle.theory.specs.Below.{tab, any, all, count, least, top}
use Rattle.theory.specs.Lists.{every, same}
use Rattle.theory.specs.Region.{regions, lawful, fits, attains, corners, has_corner, face, shares}
use Rattle.theory.specs.RegionGraph.{allowed, guard_holds}
use Rattle.theory.specs.StateGraph.{region_count, location_of, region_of, same_region, index_in, number_of, allowed_state, state_at, time_from, jump_from, step_from, beside, flow_test, system_of, labelled_of}
use Rattle.theory.specs.Walk.{exact, within, dist, greedy}
use Rattle.theory.specs.System.{reach, on_closed_walk}
use Rattle.theory.specs.Marked.{step, marks, unsafe}
use Rattle.theory.specs.Levels.{distance_to, mark}
use Rattle.theory.specs.Rounds.{rounds}
use Rattle.theory.specs.Soonest.{later, soonest, time_to}
use Rattle.theory.specs.Height.{under, chain, height}
use Rattle.theory.specs.Sheet.{keeps, number, our_sheet}
use Rattle.theory.specs.Trail.{trail_steps, trail_states}
use Rattle.theory.specs.Labels.{opens, leads, least_label}
use Rattle.theory.specs.Replay.{our_move, moves_along, our_moves}
use Rattle.theory.specs.WithoutTouch.{with_touch, labelled_with_touch}
use Rattle.number.specs.Number.{read_number, spell, spell_all}
use Rattle.number.specs.Shortest.{read_spelled}
use Rattle.model.specs.Each.{each}
use Rattle.stay_fields.specs.Resolve.{resolved}
use Rattle.parser.specs.Parse.{field_at, kind_at, invariant_at, ends_at, guard_at, parse_body, parse_counts, parse_model}
use Rattle.edge_walks.specs.Opening.{opens_alone}
use Rattle.edge_walks.specs.Cycle.{mark_edge, round_of, survivors, has_cycle, unreset}
use Rattle.edge_walks.specs.Joint.{lacks_joint_reset}
use Rattle.plan_reader.specs.Accept.{read_model}
use Rattle.graph.specs.Plan.{automaton_of}
use Rattle.evidence_number.specs.Evidence.{read_evidence}
use Rattle.sheet_numbers.specs.Numbers.{number_keeps, numbers_from}
use Rattle.sheet.specs.Answer.{sheet_refusal}
use Rattle.trail_numbers.specs.Numbers.{label_at, numbers_at}
use Rattle.replay.specs.Spelling.{move_numbers, moves_numbers, trail_numbers}
use Rattle.replay.specs.Trail.{run, flow_to, walk_step, closed_walk, face_step_to, touch_step_to, trail_step, trail_answer}
use Rattle.evidence.specs.Evidence.{of_kind, checked}
use Rattle.evidence.specs.Ours.{our_sheet_numbers, our_trail_numbers, our_evidence}
use Rattle.number.specs.Answer.{answer}
use Rattle.call.specs.Call.{enough, refusal}
use Rattle.call.specs.Joint.{joint_refusal}
use Rattle.op_judge.specs.Judge.{count_of, verdict, judged}
use Rattle.op_judge_joint.specs.JudgeJoint.{joint_judged}
use Rattle.evidence_writer.specs.Written.{evidence_by}
use Rattle.op_check.specs.Check.{evidence_answer, check_answer}
use Rattle.op_room.specs.Room.{sheet_limit, room_for, room_answer}
use Rattle.op_soonest.specs.Sounding.{unreached, soonest_refusal, soonest_answer}
use Rattle.demands.specs.Bench.{same_points, holds, bench, padded_bench, rounds_bench, soonest_bench, opening_bench, joint_bench, room_bench}

pub bench-holds : (every holds bench ≡ true) × (every holds padded_bench ≡ true) × (every holds rounds_bench ≡ true) × (every holds soonest_bench ≡ true)
    × (every holds opening_bench ≡ true) × (every holds joint_bench ≡ true) × (every holds room_bench ≡ true)
unfolding holds bench padded_bench rounds_bench soonest_bench opening_bench joint_bench room_bench room_answer room_for sheet_limit judged count_of verdict joint_judged joint_refusal lacks_joint_reset with_touch labelled_with_touch evidence_by our_move least_label move_numbers soonest_answer soonest_refusal unreached time_to soonest later leads rounds mark distance_to count same_points same regions lawful fits attains corners has_corner face shares allowed guard_holds region_count location_of region_of same_region index_in number_of allowed_state state_at time_from jump_from step_from beside flow_test system_of labelled_of tab any all least top exact within dist greedy reach on_closed_walk step marks unsafe under chain height keeps number our_sheet trail_steps trail_states opens moves_along our_moves read_evidence read_spelled read_number spell spell_all each field_at kind_at invariant_at ends_at guard_at resolved parse_body parse_counts parse_model mark_edge round_of survivors has_cycle opens_alone unreset read_model automaton_of number_keeps numbers_from sheet_refusal moves_numbers trail_numbers run flow_to label_at walk_step closed_walk numbers_at face_step_to touch_step_to trail_step trail_answer of_kind checked our_sheet_numbers our_trail_numbers our_evidence answer enough refusal evidence_answer check_answer
bench-holds = (refl, refl, refl, refl, refl, refl, refl)
