-- A number made of two, such as a state's of its location and region: its quotient and its remainder.
use mathlib.Core.Path.{◌≡◌, ◌∙◌}
use Prim.Native.Nat.{ℕ, ◌+◌, ◌*◌, ◌/◌, ◌%◌, ◌<◌}
use native.Mathlib.Nat.{div-eq_of_lt, mul-add-div_right, mul-add-mod_self_right, mod-eq_of_lt}
use native.Mathlib.Omega.{arith}

pub pair_left : (l R i : ℕ) → i < R → (l * R + i) / R ≡ l
pair_left l R i h = let z : 0 < R = omega arith in mul-add-div_right z l i ∙ omega (arith, div-eq_of_lt h)

pub pair_right : (l R i : ℕ) → i < R → (l * R + i) % R ≡ i
pair_right l R i h = mul-add-mod_self_right l R i ∙ mod-eq_of_lt h
