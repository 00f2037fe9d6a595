-- The sheet limit that is computed is the paper's, while 2S fits three groups.
use Prim.Native.Nat.{ℕ, ◌+◌, ◌-◌, ◌*◌, ◌^◌, ◌≤◌, ◌<◌}
use native.Mathlib.Nat.{mul-le-mul_left}
use native.Mathlib.Omega.{arith}
use mathlib.Core.Path.{◌≡◌, refl, sym, ap, ◌∙◌}
use mathlib.Core.Logic.{◌↔◌}
use lib.ListN.{length}
use Rattle.number.specs.Number.{spell}
use Rattle.number.proofs.Spelling.{spell_few, spell_grows}
use Rattle.number.proofs.Shortest.{spell_is_shortest, shortest_length}
use Rattle.op_room.specs.Room.{LongestForm, SheetLimit, sheet_limit}

-- how long a shortest form is at most
pub longest_form : (top : ℕ) → top < 2 ^ 21 → LongestForm top (length (spell top))
longest_form top h = record {
  met = (spell top, spell_is_shortest top h, refl);
  longest = λ g v below s. omega (arith, shortest_length s, spell_grows v top below);
}

pub limit_law : (s limit : ℕ) → 2 * s ≤ 2 ^ 21 → SheetLimit s limit ↔ (limit ≡ sheet_limit s)
unfolding sheet_limit
limit_law s limit h = (
  λ l. let (g, short, e) = l.each.met in l.sum ∙ ap (λ (k : ℕ). s * k + 1) (sym e ∙ shortest_length short),
  λ e. record { bytes = length (spell (2 * s - 1)); each = longest_form (2 * s - 1) (omega arith); sum = e },
)

-- and no number of a sheet takes more than three bytes
pub product_few : (s k v : ℕ) → k ≡ length (spell v) → s * k ≤ 3 * s
product_few s k v e = omega (arith, mul-le-mul_left s (spell_few v), ap (λ (n : ℕ). s * n) e)

pub limit_few : (s : ℕ) → sheet_limit s ≤ 3 * s + 1
unfolding sheet_limit
limit_few s = omega (arith, product_few s _ (2 * s - 1) refl)
