-- Lists whose rows ascend: the row of a node stands in the list, and holds nodes.
use mathlib.Core.Path.{◌≡◌}
use mathlib.Core.Bool.{Bool}
use mathlib.Core.List.{List}
use Prim.Native.Nat.{ℕ, zero, suc, ◌+◌, ◌-◌, ◌≤◌, ◌<◌}
use native.Mathlib.Omega.{arith}
use native.Mathlib.Numerals.{add-one}
use lib.ListN.{length, get_or}
use Rattle.theory.specs.Adjacency.{Rows, Holds}

-- numbers that do not fall from one to the next are at most the last
pub at_most_last : (f : ℕ → ℕ) (n : ℕ) → ((p : ℕ) → p < n → f p ≤ f (suc p)) → (p : ℕ) → p ≤ n → f p ≤ f n
at_most_last f n h p b = from (n - p) p (omega arith)
  where
    from : (k p : ℕ) → p + k ≡ n → f p ≤ f n
    from zero p e = let z : p ≡ n = omega arith in rw z (omega arith)
    from (suc k) p e = omega (arith, h p (omega arith), from k (suc p) (omega arith))

module _ {first targets : List ℕ} {n : ℕ} (H : Rows first targets n) where
  row_ends : (p : ℕ) → p < n → get_or first (p + 1) 0 ≤ get_or first n 0
  row_ends p b = at_most_last (λ p. get_or first p 0) n (λ p l. rw (← add-one p) (H.ascends p l)) (p + 1) (omega arith)

  pub rows_length : (p : ℕ) → p < n → get_or first (p + 1) 0 ≤ length targets
  rows_length p b = omega (arith, row_ends p b, H.ends)

  pub rows_below : (p i : ℕ) → p < n → i < get_or first (p + 1) 0 → get_or targets i 0 < n
  rows_below p i b l = H.below i (omega (arith, row_ends p b))

-- lists that hold a relation have that shape
pub holds_rows : {first targets : List ℕ} {n : ℕ} {r : ℕ → ℕ → Bool} → Holds first targets n r → Rows first targets n
holds_rows H = record {
  long = omega (arith, H.long);
  ascends = λ p b. rw (add-one p) (H.ascends p b);
  ends = H.ends;
  below = H.below;
}
