-- The cases of 01's bench on regions, and a few more, computed.
use mathlib.Core.Path.{◌≡◌, refl}
use mathlib.Core.List.{[], ◌∷◌}
use mathlib.Core.Bool.{true, false}
use native.Mathlib.Omega.{arith}
use lib.ListN.{length}
use Rattle.theory.specs.Lists.{same}
use Rattle.theory.specs.Automaton.{Slight}
use Rattle.theory.specs.Region.{clock, regions, lawful, fits, corners, has_corner, face, shares, successor, reset_clocks, close_up}

-- "counts 3 (n=1, M=1), 33 (2, 2), 51 (3, 1), 1,977 (3, 4)"
count_1_1 : length (regions 1 1) ≡ 3
unfolding regions lawful fits
count_1_1 = refl

count_2_2 : length (regions 2 2) ≡ 33
unfolding regions lawful fits
count_2_2 = refl

count_3_1 : length (regions 3 1) ≡ 51
unfolding regions lawful fits
count_3_1 = refl

count_3_4 : length (regions 3 4) ≡ 1977
unfolding regions lawful fits
count_3_4 = refl

-- "corners of w 0 0, r 2 1 are (0,0), (1,0), (1,1)"
corners_0_0_2_1 : corners (clock 0 2 ∷ clock 0 1 ∷ []) ≡ (0 ∷ 0 ∷ []) ∷ (1 ∷ 0 ∷ []) ∷ (1 ∷ 1 ∷ []) ∷ []
unfolding corners
corners_0_0_2_1 = refl

-- "time from w 1 0, r 0 0 gives w 1 0, r 1 1", at ceiling 2
time_rises : successor (clock 1 0 ∷ clock 0 0 ∷ []) ≡ clock 1 1 ∷ clock 0 1 ∷ []
time_rises = refl

time_rises_lawful : lawful 2 2 (clock 1 1 ∷ clock 0 1 ∷ []) ≡ true
unfolding lawful fits
time_rises_lawful = refl

-- "from w 0 1, r 1 2 gives w 0 2, r 1 0"
time_carries : successor (clock 0 1 ∷ clock 1 2 ∷ []) ≡ clock 0 1 ∷ clock 2 0 ∷ []
time_carries = refl

time_carries_lawful : lawful 2 2 (clock 0 1 ∷ clock 2 0 ∷ []) ≡ true
unfolding lawful fits
time_carries_lawful = refl

-- none past the ceiling
time_stops : lawful 2 2 (successor (clock 0 1 ∷ clock 2 0 ∷ [])) ≡ false
unfolding lawful fits
time_stops = refl

-- a rank is missing; a clock at the ceiling has a fraction
gap : lawful 2 2 (clock 0 2 ∷ clock 0 0 ∷ []) ≡ false
unfolding lawful fits
gap = refl

fraction_at_ceiling : lawful 2 2 (clock 2 1 ∷ clock 0 0 ∷ []) ≡ false
unfolding lawful fits
fraction_at_ceiling = refl

-- ranks close up
closes_up : close_up (reset_clocks (true ∷ []) (clock 1 1 ∷ clock 0 2 ∷ clock 0 3 ∷ [])) ≡ clock 0 0 ∷ clock 0 1 ∷ clock 0 2 ∷ []
closes_up = refl

-- two edges of the unit triangle share a corner, and neither is in the other; each is a face of the triangle
triangle_edge : face (clock 0 2 ∷ clock 0 1 ∷ []) (clock 0 1 ∷ clock 0 0 ∷ []) ≡ true
unfolding face has_corner corners same
triangle_edge = refl

edges_share : shares (clock 0 1 ∷ clock 0 0 ∷ []) (clock 1 0 ∷ clock 0 1 ∷ []) ≡ true
unfolding shares has_corner corners same
edges_share = refl

edges_no_face : face (clock 0 1 ∷ clock 0 0 ∷ []) (clock 1 0 ∷ clock 0 1 ∷ []) ≡ false
unfolding face has_corner corners same
edges_no_face = refl

not_own_face : face (clock 0 1 ∷ []) (clock 0 1 ∷ []) ≡ false
unfolding face has_corner corners same
not_own_face = refl

-- "K = 9, D = 100: e = 9 is covered, e = 10 isn't"
slight_9 : Slight 9 9 100
slight_9 = omega arith

slight_10 : ¬ Slight 9 10 100
slight_10 = omega arith
