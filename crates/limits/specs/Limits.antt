-- The limits of a plan (01, "Bytes of a model"), and the numbers that follow from them; beside each in src/lib.rt stands the constant of the code.
use Rattle.std.specs.Prelude.{ℕ, ◌+◌, ◌-◌, ◌*◌, ◌^◌, ◌≤◌}

-- "clocks n, 1..3; ceiling M, 1..4; locations L, 1..8; edges E, 0..24"
abbrev pub max_clocks : ℕ
max_clocks = 3

abbrev pub max_ceiling : ℕ
max_ceiling = 4

abbrev pub max_locations : ℕ
max_locations = 8

abbrev pub max_edges : ℕ
max_edges = 24

-- a plan's mark: 1 as in 01, 2 as in 02
abbrev pub newest_mark : ℕ
newest_mark = 2

abbrev pub KnownMark : ℕ → Type 0
KnownMark mark = (1 ≤ mark) × (mark ≤ newest_mark)

-- the largest number that a `Word` holds
abbrev pub max_word : ℕ
max_word = 65535

-- ---- what follows

-- "n=3: (M+1)³+3M(M+1)²+9M²(M+1)+13M³", the largest count of three clocks
abbrev pub count_of_three : ℕ → ℕ
count_of_three M = (M + 1) * (M + 1) * (M + 1) + 3 * M * ((M + 1) * (M + 1)) + 9 * (M * M) * (M + 1) + 13 * (M * M * M)

abbrev pub max_regions : ℕ
max_regions = count_of_three max_ceiling

abbrev pub max_states : ℕ
max_states = max_locations * max_regions

-- a time step from each state, and along each edge a jump from each region
abbrev pub max_steps : ℕ
max_steps = max_states + max_edges * max_regions

-- a slot for each corner that a region can have: the thresholds from n + 1 down to 1
abbrev pub slot_count : ℕ
slot_count = max_clocks + 1

-- whole points: coordinates up to one more than the ceiling
abbrev pub point_base : ℕ
point_base = max_ceiling + 2

abbrev pub point_count : ℕ
point_count = point_base * point_base * point_base

-- codes of regions: whole parts up to the ceiling, ranks up to the number of clocks
abbrev pub whole_base : ℕ
whole_base = max_ceiling + 1

abbrev pub rank_base : ℕ
rank_base = max_clocks + 1

abbrev pub rank_code_count : ℕ
rank_code_count = rank_base * rank_base * rank_base

abbrev pub code_count : ℕ
code_count = whole_base * whole_base * whole_base * rank_code_count

-- the faces of one region: some, not all, of its corners, and not none
abbrev pub max_faces : ℕ
max_faces = 2 ^ slot_count - 2

-- added to a level, and above every level: a level is at most one more than the number of states
abbrev pub level_flag : ℕ
level_flag = max_states + 2

-- ---- a small plan: at most as many regions as three clocks have at ceiling 2

abbrev pub small_regions : ℕ
small_regions = count_of_three 2

abbrev pub small_states : ℕ
small_states = max_locations * small_regions

abbrev pub small_steps : ℕ
small_steps = small_states + max_edges * small_regions

-- ---- an edge in one number of eight digits: a low and a high for each clock, the reset mask, the target

abbrev pub digit_base : ℕ
digit_base = 16

abbrev pub two_digits : ℕ
two_digits = digit_base * digit_base

abbrev pub three_digits : ℕ
three_digits = digit_base * digit_base * digit_base
