-- Limits by the number of a location or an edge and of a clock.
use Rattle.std.specs.Prelude.{ℕ, ◌/◌, ◌%◌, ◌^◌, min, cond, get_or, eqb}
use Rattle.model.specs.declared.Model.{Model}
use Rattle.model.specs.Model.{slot, source_of, target_of}

abbrev pub stay_limit : Model → ℕ → ℕ → ℕ
stay_limit m l x = get_or m.invariant (slot l x) 0

-- what a jump along edge e leaves on clock x at most: 0 where it resets it, else the lowest of its high and both stay limits
unfoldable pub entry_limit : Model → ℕ → ℕ → ℕ
entry_limit m e x =
    cond (eqb (get_or m.reset e 0 / 2 ^ x % 2) 1) 0
    (min (get_or m.upper (slot e x) 0) (min (stay_limit m (source_of m e) x) (stay_limit m (target_of m e) x)))
