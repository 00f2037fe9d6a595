-- The rules of a state, by the ways through their test.
use mathlib.Core.Path.{◌≡◌, refl, sym, ap, ◌∙◌}
use mathlib.Core.Bool.{Bool, true, false, true≢false, false≢true}
use mathlib.Core.Logic.{◌↔◌}
use mathlib.Core.List.{List}
use Prim.Native.Nat.{ℕ, ◌+◌, ◌-◌, ◌*◌, ◌%◌, ◌≤◌, ◌<◌}
use native.Mathlib.Omega.{arith}
use native.Mathlib.Numerals.{add-one}
use native.Mathlib.Nat.{zero-add, mul-le-mul_right}
use lib.ListN.{length, get_or}
use borrow.Author.Tests.{eqb-true}
use Rattle.std.specs.Bool.{MatchBool}
use Rattle.std.specs.List.{All, between, AllWithin, HoldsAt, range_with_len}
use Rattle.std.proofs.lemmas.List.Elements.{All-from_get_or}
use Rattle.std.proofs.lemmas.List.Edits.{length-between, get_or-between}
use Rattle.std.proofs.lemmas.List.FromFn.{length-range_with_len, get_or-range_with_len}
use Rattle.theory.specs.Adjacency.{Adjacent, Rows}
use Rattle.theory.specs.Sheet.{in_of}
use Rattle.theory.proofs.Rows.{rows_length, rows_below}

-- ---- a test that is told

pub told : {P : Type 0} → P → (true ≡ true) ↔ P
told p = (λ _. p, λ _. refl)

pub denied : {P : Type 0} → (P → ⊥) → (false ≡ true) ↔ P
denied n = (λ e. absurd (false≢true e), λ p. absurd (n p))

pub refuted : {b : Bool} {P : Type 0} → (b ≡ true) ↔ P → b ≡ false → P → ⊥
refuted {b} t e p = true≢false (sym (t.1 p) ∙ e)

pub upheld : {b : Bool} {P : Type 0} → (b ≡ true) ↔ P → b ≡ true → P
upheld {b} t e = t.0 e

-- a test that is equal to another
pub shuts : {b d : Bool} → b ≡ d → b ≡ false → d ≡ true → ⊥
shuts {b} e n t = true≢false (sym t ∙ sym e ∙ n)

pub opens : {b d : Bool} → b ≡ d → b ≡ true → d ≡ true
opens {b} e n = sym e ∙ n

pub in_odd : (sheet : List ℕ) (p : ℕ) → in_of sheet p ≡ true → get_or sheet p 0 % 2 ≡ 1
in_odd sheet p e = eqb-true (get_or sheet p 0 % 2) 1 e

-- the states of location l, of R regions each, stand below S
pub location_room : (l L R S : ℕ) → S ≡ L * R → l < L → l * R + R ≤ S
location_room l L R S e h = omega (arith, mul-le-mul_right R (let k : l + 1 ≤ L = omega arith in k))

-- ---- rows: those of p are a part of the list, which an iterator goes over

-- the numbers of row p
abbrev pub row : List ℕ → List ℕ → ℕ → List ℕ
row first targets p = between (get_or first p 0) (get_or first (p + 1) 0) targets

module _ {first targets : List ℕ} {n : ℕ} (H : Rows first targets n) (p : ℕ) (b : p < n) where
  abbrev from : ℕ
  from = get_or first p 0

  abbrev to : ℕ
  to = get_or first (p + 1) 0

  -- how long it is, and what stands in it
  row_long : length (row first targets p) ≡ to - from
  row_long = length-between targets from to (rows_length H p b)

  row_at : (k : ℕ) → k < length (row first targets p) → get_or (row first targets p) k 0 ≡ get_or targets (from + k) 0
  row_at k h = get_or-between targets from to k 0 (omega (arith, row_long))

  -- nodes
  pub row_below : All (λ q. q < n) (row first targets p)
  row_below = All-from_get_or (λ q. q < n) (row first targets p) 0 λ k h. rw (row_at k h) (rows_below H p (from + k) b (omega (arith, row_long)))

  -- a test that holds of all its numbers, told by its first failure or by none
  pub row_all : (r : Bool) (P No : ℕ → Type 0) → ((q : ℕ) → No q → P q → ⊥)
      → MatchBool r (AllWithin P (row first targets p) 0 (length (row first targets p)))
      ((k : ℕ) × (k < length (row first targets p)) × HoldsAt No (row first targets p) k)
      → (r ≡ true) ↔ ((q : ℕ) → Adjacent first targets p q → P q)
  row_all true P No n A = told λ q a.
      let i : from + (a.place - from) ≡ a.place = omega (arith, a.after) in
      let before : a.place < to = rw (add-one p) a.before in
      let k : a.place - from < length (row first targets p) = omega (arith, row_long, a.after) in
      rw (row_at (a.place - from) k ∙ ap (λ (j : ℕ). get_or targets j 0) i ∙ a.is) at (A (a.place - from) 0 (omega arith) k)
  row_all false P No n (k, l, h) = denied λ f.
      n (get_or (row first targets p) k 0) (h 0)
      (f _ (record { place = from + k; after = omega arith; before = let t : from + k < to = omega (arith, row_long) in rw (← add-one p) t; is = sym (row_at k l) }))

-- ---- a test of each number below n, told by its first failure or by none
module _ (P No : ℕ → Type 0) (apart : (k : ℕ) → No k → P k → ⊥) (n : ℕ) where
  range_at : (k : ℕ) → k < n → get_or (range_with_len 0 n) k 0 ≡ k
  range_at k h = get_or-range_with_len 0 n k 0 h ∙ zero-add k

  pub range_all : (r : Bool)
      → MatchBool r (AllWithin P (range_with_len 0 n) 0 (length (range_with_len 0 n)))
      ((k : ℕ) × (k < length (range_with_len 0 n)) × HoldsAt No (range_with_len 0 n) k)
      → (r ≡ true) ↔ ((k : ℕ) → k < n → P k)
  range_all true A = told λ k h. rw (range_at k h) at (A k 0 (omega arith) (omega (arith, length-range_with_len 0 n)))
  range_all false (k, l, h) = denied λ f.
      let b : k < n = omega (arith, length-range_with_len 0 n) in
      apart k (rw (range_at k b) at (h 0)) (f k b)
