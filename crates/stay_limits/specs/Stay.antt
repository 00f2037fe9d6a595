-- What a blank stay field stands for, by the mark of its plan. Edges are told by where they come from and by their high end for one clock.
use Rattle.std.specs.Prelude.{ℕ, zero, suc, ◌+◌, ◌-◌, ◌*◌, ◌≤◌, max, List, Option, None, Some, cond, get_or, eqb}
use Rattle.limits.specs.Limits.{max_clocks, max_ceiling}

-- one more than a limit, or 0 for the ceiling, as in 01: "0 means the ceiling, any other s means limit s-1"
abbrev pub resolve : ℕ → ℕ → ℕ
resolve M s = cond (eqb s 0) M (s - 1)

-- one more than a limit, or 0 for none
abbrev pub one_more : Option ℕ → ℕ
one_more None = 0
one_more (Some h) = h + 1

-- 02: "the greatest high end for that clock among the edges leaving the location". One more than that, of the first k edges; 0 where none of them leaves.
unfoldable pub last_exit : (ℕ → ℕ) → (ℕ → ℕ) → ℕ → ℕ → ℕ
last_exit source high l zero = 0
last_exit source high l (suc e) = cond (eqb (source e) l) (max (last_exit source high l e) (high e + 1)) (last_exit source high l e)

-- "Mark 1 keeps its meaning"; in mark 2, the greatest high end "or the ceiling where no edge leaves"
abbrev pub blank_limit : ℕ → ℕ → (ℕ → ℕ) → (ℕ → ℕ) → ℕ → ℕ → ℕ
blank_limit mark M source high l edges = cond (eqb mark 1) M (resolve M (last_exit source high l edges))

-- ---- the edges in arrays

-- the location that an edge is drawn from
abbrev pub source_in : List ℕ → ℕ → ℕ
source_in source e = get_or source e 0

-- the high end of an edge for a clock
abbrev pub high_in : List ℕ → ℕ → ℕ → ℕ
high_in upper x e = get_or upper (max_clocks * e + x) 0

abbrev pub Highs : List ℕ → Type 0
Highs upper = (i : ℕ) → get_or upper i 0 ≤ max_ceiling
