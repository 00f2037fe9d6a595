-- The packed form of a region: w1 w2 w3 r1 r2 r3 read as the digits of one decimal number, so that ascending numbers are ascending regions.
use Rattle.std.specs.Prelude.{ℕ, ◌+◌, ◌*◌, ◌^◌, ◌/◌, ◌%◌, List, [], ◌∷◌}
use Rattle.theory.specs.Region.{Clock}
use Rattle.theory.specs.Enumeration.{key}
use Rattle.limits.specs.Limits.{max_clocks}
use Rattle.region.specs.View.{view, struct_of}
use Rattle.region.specs.declared.Region.{Region}

abbrev pub decimal : ℕ → List ℕ → ℕ
decimal a [] = a
decimal a (d ∷ ds) = decimal (a * 10 + d) ds

-- six digits
abbrev pub packed_bound : ℕ
packed_bound = 10 ^ 6

abbrev pub pack : Region → ℕ
pack g = decimal 0 (key (view max_clocks g))

-- a region of at most as many clocks as the struct has, missing clocks being 0
abbrev pub pack_clocks : List Clock → ℕ
pack_clocks xs = pack (struct_of xs)

abbrev pub unpack : ℕ → Region
unpack p =
    record { w1 = p / 100000; w2 = p / 10000 % 10; w3 = p / 1000 % 10; r1 = p / 100 % 10; r2 = p / 10 % 10; r3 = p % 10 }
