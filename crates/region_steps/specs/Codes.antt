-- The code of a region: a number that the region itself gives, so that a table by codes finds a region with no search.
use Rattle.std.specs.Prelude.{ℕ, ◌+◌, ◌*◌, ◌/◌, ◌%◌, [], ◌∷◌}
use Rattle.theory.specs.Region.{clock, reset_clocks, close_up}
use Rattle.limits.specs.Limits.{max_clocks, whole_base, rank_base, rank_code_count}
use Rattle.region.specs.View.{view, struct_of, mask_bits}
use Rattle.region.specs.declared.Region.{Region}

-- its two parts: the whole parts as digits, and below them the ranks
abbrev pub whole_code : Region → ℕ
whole_code g = ((g.w1 * whole_base + g.w2) * whole_base + g.w3) * rank_code_count

abbrev pub rank_code : Region → ℕ
rank_code g = (g.r1 * rank_base + g.r2) * rank_base + g.r3

-- both
unfoldable pub code_of : Region → ℕ
code_of g =
    ((g.w1 * whole_base + g.w2) * whole_base + g.w3) * rank_code_count + g.r1 * (rank_base * rank_base) + g.r2 * rank_base + g.r3

-- the code of the region after a reset
abbrev pub reset_code : Region → ℕ → ℕ
reset_code g mask = code_of (struct_of (close_up (reset_clocks (mask_bits max_clocks mask) (view max_clocks g))))

-- "remaining ranks close up": the code of three ranks closed up, and the same by their code
unfoldable pub closed_ranks : ℕ → ℕ → ℕ → ℕ
closed_ranks r1 r2 r3 = code_of (struct_of (close_up (clock 0 r1 ∷ clock 0 r2 ∷ clock 0 r3 ∷ [])))

abbrev pub closed_code : ℕ → ℕ
closed_code c = closed_ranks (c / (rank_base * rank_base)) (c / rank_base % rank_base) (c % rank_base)
