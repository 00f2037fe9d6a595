-- The plans on 01's bench: all cases marked P as one list, each with the test that it stands for, by the definitions that the contracts cite.
use Rattle.std.specs.Prelude.{ℕ, ◌+◌, ◌*◌, Bool, true, false, ◌&&◌, List, [], ◌∷◌, length, take, replicate, eqb}
use Rattle.theory.specs.Below.{count}
use Rattle.theory.specs.Lists.{same}
use Rattle.theory.specs.Region.{Region, clock, regions, lawful, corners, successor}
use Rattle.theory.specs.StateGraph.{same_region}
use Rattle.theory.specs.Marked.{marks}
use Rattle.theory.specs.Rounds.{rounds}
use Rattle.graph.specs.Plan.{system_of_model}
use Rattle.evidence.specs.Ours.{our_evidence}
use Rattle.call.specs.Call.{model_of}
use Rattle.op_check.specs.Check.{check_answer}
use Rattle.op_judge.specs.Judge.{judged}
use Rattle.op_judge_joint.specs.JudgeJoint.{joint_judged}
use Rattle.op_room.specs.Room.{room_answer}
use Rattle.op_soonest.specs.Sounding.{soonest_answer}
use Rattle.evidence_writer.specs.Written.{evidence_by}

pub data Case : Type 0 where
  -- so many clocks, a ceiling: so many regions
  count_is : ℕ → ℕ → ℕ → Case
  -- a region: its corners
  corners_are : Region → List (List ℕ) → Case
  -- so many clocks, a ceiling, a region: its time successor, lawful
  time_gives : ℕ → ℕ → Region → Region → Case
  -- a model, evidence: the number and the values that the check returns
  check_gives : List ℕ → List ℕ → ℕ → List ℕ → Case
  -- a model: our evidence
  ours_is : List ℕ → List ℕ → Case
  -- a model: so many rounds, so many marked states
  rounds_are : List ℕ → ℕ → ℕ → Case
  -- a model, a location: the number and the values that the call for the least time returns
  soonest_gives : List ℕ → ℕ → ℕ → List ℕ → Case
  -- a model: the number and the values that the judge returns, and those of the quicker one
  judge_gives : List ℕ → ℕ → List ℕ → Case
  joint_gives : List ℕ → ℕ → List ℕ → Case
  -- a model: our evidence without touch
  joint_is : List ℕ → List ℕ → Case
  -- a model: the number and the values that the call for its room returns
  room_gives : List ℕ → ℕ → List ℕ → Case

-- points in the same order
unfoldable pub same_points : List (List ℕ) → List (List ℕ) → Bool
same_points [] [] = true
same_points [] (q ∷ qs) = false
same_points (p ∷ ps) [] = false
same_points (p ∷ ps) (q ∷ qs) = same p q && same_points ps qs

-- "lends buffers of 4,000 numbers"
abbrev pub buffers : List ℕ
buffers = 4000 ∷ 4000 ∷ 4000 ∷ 4000 ∷ []

unfoldable pub holds : Case → Bool
holds (count_is n M k) = eqb (length (regions n M)) k
holds (corners_are xs ps) = same_points (corners xs) ps
holds (time_gives n M xs ys) = same_region (successor xs) ys && lawful n M ys
holds (check_gives model shown r vs) =
    eqb (check_answer model shown buffers).number r && same (check_answer model shown buffers).values vs
holds (ours_is model shown) = same (our_evidence (model_of model)) shown
holds (rounds_are model r n) =
    let Y = system_of_model (model_of model) in
    eqb (rounds Y) r && eqb (count Y.size (marks Y)) n
holds (soonest_gives model l r vs) =
    eqb (soonest_answer model l buffers).number r && same (soonest_answer model l buffers).values vs
holds (judge_gives model r vs) = eqb (judged model buffers).number r && same (judged model buffers).values vs
holds (joint_gives model r vs) = eqb (joint_judged model buffers).number r && same (joint_judged model buffers).values vs
holds (joint_is model shown) = same (evidence_by false (model_of model)) shown
holds (room_gives model r vs) = eqb (room_answer model).number r && same (room_answer model).values vs

-- "model 1,1,1,1,0,0,0,0", with its kind
abbrev pub tiny : ℕ → List ℕ
tiny kind = 1 ∷ 1 ∷ 1 ∷ 1 ∷ 0 ∷ 0 ∷ kind ∷ 0 ∷ []

-- the same with a stay limit of 0
abbrev pub still : List ℕ
still = 1 ∷ 1 ∷ 1 ∷ 1 ∷ 0 ∷ 0 ∷ 0 ∷ 1 ∷ []

-- one location at ceiling 2, and an edge that resets its clock at any time
abbrev pub poll : List ℕ
poll = 1 ∷ 1 ∷ 2 ∷ 1 ∷ 1 ∷ 0 ∷ 0 ∷ 0 ∷ 0 ∷ 0 ∷ 1 ∷ 0 ∷ 2 ∷ []

-- "Loop plan"
abbrev pub loop_bytes : List ℕ
loop_bytes =
    1 ∷ 2 ∷ 2 ∷ 4 ∷ 4 ∷ 0
    ∷ 0 ∷ 0 ∷ 0
    ∷ 0 ∷ 0 ∷ 0
    ∷ 0 ∷ 0 ∷ 0
    ∷ 1 ∷ 0 ∷ 0
    ∷ 0 ∷ 1 ∷ 2 ∷ 1 ∷ 1 ∷ 1 ∷ 1
    ∷ 1 ∷ 2 ∷ 1 ∷ 0 ∷ 2 ∷ 0 ∷ 2
    ∷ 2 ∷ 1 ∷ 2 ∷ 0 ∷ 2 ∷ 2 ∷ 2
    ∷ 2 ∷ 3 ∷ 0 ∷ 0 ∷ 0 ∷ 2 ∷ 2 ∷ []

-- "a passing trail, perhaps not ours"
abbrev pub loop_trail : List ℕ
loop_trail =
    2 ∷ 8 ∷ 0 ∷ 0 ∷ 1 ∷ 0 ∷ 0 ∷ 1 ∷ 1
    ∷ 3 ∷ 0 ∷ 1 ∷ 0 ∷ 1 ∷ 10 ∷ 0 ∷ 0 ∷ 1 ∷ 2 ∷ 0 ∷ 0 ∷ 0 ∷ 0 ∷ 0 ∷ 0 ∷ 1 ∷ 1
    ∷ 2 ∷ 0 ∷ 2 ∷ 0 ∷ 0 ∷ 1 ∷ 3 ∷ []

unfoldable pub bench : List Case
bench =
    -- "P: counts 3 (n=1, M=1), 33 (2, 2), 51 (3, 1), 1,977 (3, 4)."
    count_is 1 1 3
    ∷ count_is 2 2 33
    ∷ count_is 3 1 51
    ∷ count_is 3 4 1977
    -- "P: corners of w 0 0, r 2 1 are (0,0), (1,0), (1,1)."
    ∷ corners_are (clock 0 2 ∷ clock 0 1 ∷ []) ((0 ∷ 0 ∷ []) ∷ (1 ∷ 0 ∷ []) ∷ (1 ∷ 1 ∷ []) ∷ [])
    -- "P, both at ceiling 2: time from w 1 0, r 0 0 gives w 1 0, r 1 1. P: from w 0 1, r 1 2 gives w 0 2, r 1 0."
    ∷ time_gives 2 2 (clock 1 0 ∷ clock 0 0 ∷ []) (clock 1 1 ∷ clock 0 1 ∷ [])
    ∷ time_gives 2 2 (clock 0 1 ∷ clock 1 2 ∷ []) (clock 0 1 ∷ clock 2 0 ∷ [])
    -- "P: model 1,1,1,1,0,0,0,0 has sheet 1,5,3,1; with kind 1, trail 2,0."
    ∷ ours_is (tiny 0) (1 ∷ 5 ∷ 3 ∷ 1 ∷ [])
    ∷ check_gives (tiny 0) (1 ∷ 5 ∷ 3 ∷ 1 ∷ []) 0 (1 ∷ [])
    ∷ ours_is (tiny 1) (2 ∷ 0 ∷ [])
    ∷ check_gives (tiny 1) (2 ∷ 0 ∷ []) 0 (2 ∷ [])
    -- "P: a passing trail, perhaps not ours: 2,8,0,0,1,0,..", "P: its first 33 bytes: 1."
    ∷ check_gives loop_bytes loop_trail 0 (2 ∷ [])
    ∷ check_gives loop_bytes (take 33 loop_trail) 1 []
    ∷ []

-- 02 (b): "15 when an evidence number isn't in shortest form, tested just after 2 for that number"
unfoldable pub padded_bench : List Case
padded_bench =
    -- before 10, 11 and 13 of the same number; a region's numbers singly
    check_gives (tiny 0) (131 ∷ 0 ∷ []) 15 []
    ∷ check_gives (tiny 0) (1 ∷ 137 ∷ 0 ∷ []) 15 []
    ∷ check_gives (tiny 0) (2 ∷ 1 ∷ 132 ∷ 0 ∷ []) 15 []
    ∷ check_gives (tiny 0) (2 ∷ 1 ∷ 2 ∷ 137 ∷ 0 ∷ []) 15 []
    -- after 1 and 2 of the same number, and after 11 and 13 of an earlier one
    ∷ check_gives (tiny 0) (129 ∷ []) 1 []
    ∷ check_gives (tiny 0) (129 ∷ 128 ∷ 128 ∷ []) 2 []
    ∷ check_gives (tiny 0) (1 ∷ 9 ∷ 131 ∷ 0 ∷ []) 11 []
    ∷ check_gives (tiny 0) (2 ∷ 1 ∷ 4 ∷ 128 ∷ 0 ∷ []) 13 []
    -- bytes that remain are not read
    ∷ check_gives (tiny 0) (1 ∷ 5 ∷ 3 ∷ 1 ∷ 128 ∷ 0 ∷ []) 6 []
    -- "models may still be padded"
    ∷ check_gives (129 ∷ 0 ∷ 1 ∷ 1 ∷ 1 ∷ 0 ∷ 0 ∷ 1 ∷ 0 ∷ []) (2 ∷ 0 ∷ []) 0 (2 ∷ [])
    ∷ []

-- 02 (d): "at most as many rounds as there are marked states". The last round, which adds nothing, counts; the bound is met where each round goes over
-- one state.
unfoldable pub rounds_bench : List Case
rounds_bench =
    rounds_are (tiny 0) 3 3
    ∷ rounds_are still 1 1
    ∷ rounds_are poll 4 5
    ∷ []

-- two locations at ceiling 2, and an edge that opens at 2 into one with a stay limit of 1; its reset mask
abbrev pub entry : ℕ → List ℕ
entry mask = 1 ∷ 1 ∷ 2 ∷ 2 ∷ 1 ∷ 0 ∷ 0 ∷ 0 ∷ 0 ∷ 2 ∷ 0 ∷ 1 ∷ mask ∷ 2 ∷ 2 ∷ []

-- location 3 at 1 by one jump, at once by three
abbrev pub detour : List ℕ
detour =
    1 ∷ 1 ∷ 1 ∷ 4 ∷ 4 ∷ 0
    ∷ 0 ∷ 0
    ∷ 0 ∷ 0
    ∷ 0 ∷ 0
    ∷ 0 ∷ 0
    ∷ 0 ∷ 3 ∷ 0 ∷ 1 ∷ 1
    ∷ 0 ∷ 1 ∷ 0 ∷ 0 ∷ 0
    ∷ 1 ∷ 2 ∷ 0 ∷ 0 ∷ 0
    ∷ 2 ∷ 3 ∷ 0 ∷ 0 ∷ 0 ∷ []

-- 02 (e): "The start location gives 0."; "16 when the location number is L or more, or no run gets there"
unfoldable pub soonest_bench : List Case
soonest_bench =
    soonest_gives (tiny 1) 0 0 (0 ∷ [])
    ∷ soonest_gives (tiny 0) 1 16 []
    ∷ soonest_gives (tiny 0) 4294967296 16 []
    -- a stay limit is held on entry, after the resets
    ∷ soonest_gives (entry 0) 1 16 []
    ∷ soonest_gives (entry 1) 1 0 (2 ∷ [])
    -- the least time, not the fewest jumps
    ∷ soonest_gives detour 3 0 (0 ∷ [])
    ∷ []

-- one location with stay limit 1, and a link back to it that resets nothing and wants the clock at its low end or above
abbrev pub link : ℕ → List ℕ
link low = 1 ∷ 1 ∷ 2 ∷ 1 ∷ 1 ∷ 0 ∷ 0 ∷ 2 ∷ 0 ∷ 0 ∷ 0 ∷ low ∷ 2 ∷ []

-- the loop plan with such a link at location 3, where clock 0 has stay limit 1: it wants 2
abbrev pub linked_loop : List ℕ
linked_loop =
    1 ∷ 2 ∷ 2 ∷ 4 ∷ 5 ∷ 0
    ∷ 0 ∷ 0 ∷ 0
    ∷ 0 ∷ 0 ∷ 0
    ∷ 0 ∷ 0 ∷ 0
    ∷ 1 ∷ 2 ∷ 0
    ∷ 0 ∷ 1 ∷ 2 ∷ 1 ∷ 1 ∷ 1 ∷ 1
    ∷ 1 ∷ 2 ∷ 1 ∷ 0 ∷ 2 ∷ 0 ∷ 2
    ∷ 2 ∷ 1 ∷ 2 ∷ 0 ∷ 2 ∷ 2 ∷ 2
    ∷ 2 ∷ 3 ∷ 0 ∷ 0 ∷ 0 ∷ 2 ∷ 2
    ∷ 3 ∷ 3 ∷ 0 ∷ 2 ∷ 2 ∷ 0 ∷ 2 ∷ []

-- 02 (f): "Models refused only for walks that no longer count are judged now, and the evidence wish holds for them too."
unfoldable pub opening_bench : List Case
opening_bench =
    -- the low end just beyond the stay limit, and just within it
    ours_is (link 2) (1 ∷ 5 ∷ 3 ∷ 1 ∷ 0 ∷ 0 ∷ [])
    ∷ check_gives (link 2) (1 ∷ 5 ∷ 3 ∷ 1 ∷ 0 ∷ 0 ∷ []) 0 (1 ∷ [])
    ∷ check_gives (link 1) (1 ∷ 5 ∷ 3 ∷ 1 ∷ 0 ∷ 0 ∷ []) 7 []
    -- the loop plan's trail passes as without the link
    ∷ check_gives linked_loop loop_trail 0 (2 ∷ [])
    ∷ []

-- one clock, two locations, the second forbidden: a loop that resets at 2, and an edge that opens at 2
abbrev pub longer : List ℕ
longer = 1 ∷ 1 ∷ 2 ∷ 2 ∷ 2 ∷ 0 ∷ 0 ∷ 0 ∷ 1 ∷ 0 ∷ 0 ∷ 0 ∷ 1 ∷ 2 ∷ 2 ∷ 0 ∷ 1 ∷ 0 ∷ 2 ∷ 2 ∷ []

-- two clocks, two locations, a loop of two edges with these reset masks
abbrev pub pair : ℕ → ℕ → List ℕ
pair there back = 1 ∷ 2 ∷ 1 ∷ 2 ∷ 2 ∷ 0 ∷ 0 ∷ 0 ∷ 0 ∷ 1 ∷ 0 ∷ 0 ∷ 0 ∷ 1 ∷ there ∷ 0 ∷ 1 ∷ 0 ∷ 1 ∷ 1 ∷ 0 ∷ back ∷ 0 ∷ 1 ∷ 0 ∷ 1 ∷ []

-- 02 (g): "17 when a counted closed walk has no such edge", though its edges reset every clock together; "a trail here has no touch and is the fewest-step one
-- without it"
unfoldable pub joint_bench : List Case
joint_bench =
    joint_gives (tiny 0) 0 (0 ∷ 3 ∷ 3 ∷ [])
    ∷ joint_is (tiny 0) (1 ∷ 5 ∷ 3 ∷ 1 ∷ [])
    ∷ judge_gives longer 0 (1 ∷ 10 ∷ 4 ∷ [])
    ∷ joint_gives longer 0 (1 ∷ 10 ∷ 5 ∷ [])
    ∷ joint_is longer (2 ∷ 5 ∷ 0 ∷ 0 ∷ 0 ∷ 0 ∷ 1 ∷ 1 ∷ [])
    ∷ joint_gives (pair 1 2) 17 []
    ∷ []

-- so many clocks, a ceiling, so many ordinary locations without a limit or an edge
abbrev pub plain : ℕ → ℕ → ℕ → List ℕ
plain n M L = 1 ∷ n ∷ M ∷ L ∷ 0 ∷ 0 ∷ replicate (L * (n + 1)) 0

-- 02 (h): "S and scratch are exact; the sheet limit is the sum of the longest shortest-form spelling of 2S-1 over S numbers, plus one; the step limit is S-1"
unfoldable pub room_bench : List Case
room_bench =
    room_gives (tiny 0) 0 (3 ∷ 3 ∷ 4 ∷ 2 ∷ [])
    -- the verdict plays no part
    ∷ room_gives (tiny 1) 0 (3 ∷ 3 ∷ 4 ∷ 2 ∷ [])
    ∷ room_gives loop_bytes 0 (132 ∷ 132 ∷ 265 ∷ 131 ∷ [])
    -- as near as plans come to where 2S-1 takes a byte more, which is after S = 64 and S = 8,192
    ∷ room_gives (plain 1 4 7) 0 (63 ∷ 63 ∷ 64 ∷ 62 ∷ [])
    ∷ room_gives (plain 2 2 2) 0 (66 ∷ 66 ∷ 133 ∷ 65 ∷ [])
    ∷ room_gives (plain 1 4 8) 0 (72 ∷ 72 ∷ 145 ∷ 71 ∷ [])
    ∷ room_gives (plain 3 4 4) 0 (7908 ∷ 7908 ∷ 15817 ∷ 7907 ∷ [])
    ∷ room_gives (plain 3 4 5) 0 (9885 ∷ 9885 ∷ 29656 ∷ 9884 ∷ [])
    -- nothing is lent, so no plan is too large
    ∷ room_gives (plain 3 4 8) 0 (15816 ∷ 15816 ∷ 47449 ∷ 15815 ∷ [])
    -- "A refused model gets its number from 1 to 7 instead"
    ∷ room_gives [] 1 []
    ∷ room_gives (link 1) 7 []
    ∷ []
