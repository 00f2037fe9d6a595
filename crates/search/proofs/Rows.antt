-- What stands in a part of a list; the successors of a node by its row; place after place.
use mathlib.Core.Path.{◌≡◌, sym, ap, subst, ◌∙◌}
use mathlib.Core.List.{List}
use Prim.Native.Nat.{ℕ, ◌+◌, ◌-◌, ◌≤◌, ◌<◌}
use native.Mathlib.Omega.{arith}
use native.Mathlib.Numerals.{add-one}
use native.Mathlib.Decide.{ℕ_discrete}
use lib.ListN.{length, get_or, drop, length-take, length-drop}
use mathlib.Core.Bool.{true}
use Rattle.std.specs.Prelude.{slice_range}
use Rattle.std.specs.List.{list_any}
use lib.Dec.{eqb}
use borrow.Author.Tests.{eqb-true, eq-eqb}
use Rattle.std.proofs.lemmas.List.Folds.{list_any_at, Any-from_list_any}
use Rattle.std.proofs.lemmas.List.{get_or-take, get_or-drop, get_or_default}
use Rattle.theory.specs.Adjacency.{Adjacent, Rows}
use Rattle.theory.proofs.Rows.{rows_length, rows_below}
use Rattle.search.specs.Queue.{InList, LeadsFrom, row_of}

-- what stands in a part of a list
module _ (l : List ℕ) (a b : ℕ) (e : b ≤ length l) where
  pub part_long : length (slice_range l a b) ≡ b - a
  part_long = simp (length-take, length-drop) (omega arith)

  pub part_at : (i : ℕ) → i < length (slice_range l a b) → get_or (slice_range l a b) i 0 ≡ get_or l (a + i) 0
  part_at i h = get_or-take (b - a) (drop a l) i 0 (omega (arith, part_long)) ∙ get_or-drop a l i 0

  module _ (Lead : ℕ → ℕ → Type 0) (q : ℕ) where
    pub part_in : LeadsFrom Lead (slice_range l a b) 0 (length (slice_range l a b)) q → LeadsFrom Lead l a b q
    part_in t = record {
      place = a + t.place;
      after = omega arith;
      before = omega (arith, t.before, part_long);
      is = subst (λ (v : ℕ). Lead v q) (part_at t.place t.before) t.is;
    }

    pub part_out : LeadsFrom Lead l a b q → LeadsFrom Lead (slice_range l a b) 0 (length (slice_range l a b)) q
    part_out t =
        let h : t.place - a < length (slice_range l a b) = omega (arith, t.after, t.before, part_long) in
        let d : a + (t.place - a) ≡ t.place = omega (arith, t.after) in
        record {
          place = t.place - a;
          after = omega arith;
          before = h;
          is = subst (λ (v : ℕ). Lead v q) (sym (part_at (t.place - a) h ∙ ap (λ (i : ℕ). get_or l i 0) d)) t.is;
        }

-- the successors of p are what stands in its row
module _ {first targets : List ℕ} {n : ℕ} (H : Rows first targets n) {p : ℕ} (b : p < n) where
  pub row_in : (q : ℕ) → InList (row_of first targets p) 0 0 (length (row_of first targets p)) q → Adjacent first targets p q
  row_in q t =
      let s = part_in targets (get_or first p 0) (get_or first (p + 1) 0) (rows_length H p b) (λ v z. 0 + v ≡ z) q t in
      record { place = s.place; after = s.after; before = rw (← add-one p) s.before; is = omega (arith, s.is) }

  pub row_out : (q : ℕ) → Adjacent first targets p q → InList (row_of first targets p) 0 0 (length (row_of first targets p)) q
  row_out q t =
      part_out targets (get_or first p 0) (get_or first (p + 1) 0) (rows_length H p b) (λ v z. 0 + v ≡ z) q
      (record { place = t.place; after = t.after; before = rw (add-one p) t.before; is = omega (arith, t.is) })

  pub row_below : (i : ℕ) → i < length (row_of first targets p) → get_or (row_of first targets p) i 0 < n
  row_below i h =
      let e = rows_length H p b in
      rw (part_at targets (get_or first p 0) (get_or first (p + 1) 0) e i h)
      (rows_below H p (get_or first p 0 + i) b (omega (arith, part_long targets (get_or first p 0) (get_or first (p + 1) 0) e)))

-- one place more
pub from_more : {lo i : ℕ} {P : ℕ → Type 0} → ((j : ℕ) → lo ≤ j → j < i → P j) → P i → (j : ℕ) → lo ≤ j → j < i + 1 → P j
from_more {lo} {i} {P} h n j a b = by (ℕ_discrete j i)
  where
    by : Dec (j ≡ i) → P j
    by (yes e) = subst (λ (k : ℕ). P k) (sym e) n
    by (no e) = h j a (omega arith)

-- the default does not matter within a list
get_or_at : (row : List ℕ) (k x : ℕ) → k < length row → get_or row k x ≡ x → get_or row k 0 ≡ x
get_or_at row k x h e = get_or_default row k 0 x h ∙ e

-- a test for a number in a row
module _ (row : List ℕ) (q : ℕ) where
  pub listed_any : list_any (λ t. eqb t q) row ≡ true → InList row 0 0 (length row) q
  listed_any e =
      let (k, x, h, d, t) = Any-from_list_any (λ t. eqb t q) row e in
      record { place = k; after = omega arith; before = h; is = omega (arith, get_or_at row k x h d, eqb-true x q t) }

  pub any_listed : InList row 0 0 (length row) q → list_any (λ t. eqb t q) row ≡ true
  any_listed t = list_any_at (λ t. eqb t q) row t.place 0 t.before (eq-eqb (get_or row t.place 0) q (omega (arith, t.is)))
