-- The struct of the code, read as a region of the theory (a list of clocks), and back.
use Rattle.std.specs.Prelude.{ℕ, zero, suc, ◌≤◌, ◌/◌, ◌%◌, ◌≡◌, Bool, true, cond, List, [], ◌∷◌, eqb, take, get_or, replicate, Option, Some, None}
use Rattle.theory.specs.Region.{Clock, clock, fits, lawful, successor}
use Rattle.limits.specs.Limits.{max_clocks, max_ceiling}
use Rattle.region.specs.declared.Region.{Region}
use Rattle.region.specs.declared.Point.{Point}

-- the first n clocks of the struct
abbrev pub view : ℕ → Region → List Clock
view n g = take n (clock g.w1 g.r1 ∷ clock g.w2 g.r2 ∷ clock g.w3 g.r3 ∷ [])

abbrev pub nth : List Clock → ℕ → Clock
nth xs i = get_or xs i (clock 0 0)

-- the struct of at most three clocks: what is missing is 0
abbrev pub struct_of : List Clock → Region
struct_of xs =
    record {
      w1 = (nth xs 0).whole;
      w2 = (nth xs 1).whole;
      w3 = (nth xs 2).whole;
      r1 = (nth xs 0).rank;
      r2 = (nth xs 1).rank;
      r3 = (nth xs 2).rank;
    }

-- the clocks past n are 0
pub record Padded (n : ℕ) (g : Region) : Type 0 where
  pub same : struct_of (view n g) ≡ g

-- whole parts up to the largest ceiling, ranks up to the largest number of clocks
pub record Small (g : Region) : Type 0 where
  pub w1 : g.w1 ≤ max_ceiling
  pub w2 : g.w2 ≤ max_ceiling
  pub w3 : g.w3 ≤ max_ceiling
  pub r1 : g.r1 ≤ max_clocks
  pub r2 : g.r2 ≤ max_clocks
  pub r3 : g.r3 ≤ max_clocks

abbrev pub point_list : Point → List ℕ
point_list p = p.x1 ∷ p.x2 ∷ p.x3 ∷ []

-- the time successor of n clocks: "There is none past the ceiling."
unfoldable pub time_of : ℕ → ℕ → List Clock → Option (List Clock)
time_of n M xs = cond (fits (successor xs) (replicate n M)) (Some (successor xs)) None

abbrev pub later_of : Option (List Clock) → Option Region
later_of (Some xs) = Some (struct_of xs)
later_of None = None

-- "reset mask, 0..2^n-1, bit i for clock i counted from 0"
abbrev pub mask_bits : ℕ → ℕ → List Bool
mask_bits zero m = []
mask_bits (suc n) m = eqb (m % 2) 1 ∷ mask_bits n (m / 2)

-- a region of n clocks at ceiling M, as the struct has it
pub record Known (n M : ℕ) (g : Region) : Type 0 where
  pub padded : Padded n g
  pub lawful : lawful n M (view n g) ≡ true
