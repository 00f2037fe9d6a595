-- The edges that leave a location: the loop that lists them, which they are, and how many.
use Prim.Native.Nat.{ℕ, zero, suc, ◌+◌, ◌≤◌, ◌<◌}
use native.Mathlib.Nat.{zero-add, add-zero}
use native.Mathlib.Omega.{arith}
use mathlib.Core.Path.{◌≡◌, refl, sym, ap, ◌∙◌}
use mathlib.Core.Bool.{Bool, true, false, cond}
use mathlib.Core.List.{List, ◌∷◌}
use lib.ListN.{length, get_or, take, drop, set}
use lib.Seq.{take_at}
use lib.Dec.{eqb}
use borrow.Author.Tests.{eq-eqb, ne_eqb, eqb-true}
use Rattle.theory.proofs.Lists.{from-length}
use Rattle.theory.specs.Below.{bit, count}
use Rattle.theory.specs.Lists.{keep, from}
use Rattle.theory.proofs.Sorted.{keep_law, from_law, at_in, in_at}
use Rattle.region_table.proofs.Selection.{Filled, filled_in, filled_out, filled_end}
use Rattle.model.specs.declared.Model.{Model}
use Rattle.model.specs.Model.{source_of}
use Rattle.successors.specs.Flow.{leaving}

from_at : (k c e : ℕ) → e < c → get_or (from k c) e 0 ≡ k + e
from_at k zero e h = absurd (omega arith)
from_at k (suc c) zero h = sym (add-zero k)
from_at k (suc c) (suc e) h = from_at (suc k) c e (omega arith) ∙ omega arith

keep-count : (f g : ℕ → Bool) (k c : ℕ) → ((i : ℕ) → f (k + i) ≡ g i) → length (keep f (from k c)) ≡ count c g
unfolding count
keep-count f g k zero h = refl
keep-count f g k (suc c) h =
    by (f k) (ap f (sym (add-zero k)) ∙ h 0) (keep-count f (λ i. g (suc i)) (suc k) c (λ i. ap f (omega arith) ∙ h (suc i)))
  where
    by : (b : Bool) → b ≡ g 0 → length (keep f (from (suc k) c)) ≡ count c (λ i. g (suc i))
        → length (cond b (k ∷ keep f (from (suc k) c)) (keep f (from (suc k) c))) ≡ bit (g 0) + count c (λ i. g (suc i))
    by true e q = rw (← e) (omega arith)
    by false e q = rw (← e) (omega arith)

module _ (m : Model) (l : ℕ) where
  -- does an edge leave l?
  abbrev pub Leaves : ℕ → Bool
  Leaves e = eqb (source_of m e) l

  pub leaving-count : length (leaving m l) ≡ count m.edges Leaves
  unfolding leaving
  leaving-count = keep-count Leaves Leaves 0 m.edges (λ i. ap Leaves (zero-add i))

  pub leaving_at : (k : ℕ) → k < length (leaving m l) → (get_or (leaving m l) k 0 < m.edges) × (source_of m (get_or (leaving m l) k 0) ≡ l)
  unfolding leaving
  leaving_at k h =
      let (a, b) = (keep_law Leaves (get_or (leaving m l) k 0) (from 0 m.edges)).0 (at_in 0 (leaving m l) k h) in
      let (c, d) = (from_law 0 m.edges (get_or (leaving m l) k 0)).0 a in
      (omega arith, eqb-true (source_of m (get_or (leaving m l) k 0)) l b)

  pub at_leaving : (e : ℕ) → e < m.edges → source_of m e ≡ l → (k : ℕ) × (k < length (leaving m l)) × (get_or (leaving m l) k 0 ≡ e)
  unfolding leaving
  at_leaving e h s =
      in_at 0 ((keep_law Leaves e (from 0 m.edges)).1
      ((from_law 0 m.edges e).1 (omega arith, omega arith), eq-eqb (source_of m e) l s))

  -- ---- the loop: the edges below e are tried, and the n of them that leave l stand at the front

  abbrev pub Listed : List ℕ → List ℕ → ℕ → ℕ → Type 0
  Listed edges₀ edges e n = Filled Leaves (from 0 m.edges) edges₀ edges e n

  module _ {edges₀ edges : List ℕ} {e n : ℕ} (f : Listed edges₀ edges e n) (h : e < m.edges) where
    pub listed_in : m.edges ≤ length edges₀ → source_of m e ≡ l → Listed edges₀ (set edges n e) (e + 1) (n + 1)
    listed_in r s =
        let b = from-length 0 m.edges in
        let a : get_or (from 0 m.edges) e 0 ≡ e = from_at 0 m.edges e h ∙ zero-add e in
        rw a at (filled_in Leaves (from 0 m.edges) edges₀ edges e n f (omega arith) (omega arith) (rw a (eq-eqb (source_of m e) l s)))

    pub listed_out : (source_of m e ≡ l → ⊥) → Listed edges₀ edges (e + 1) n
    listed_out s =
        let b = from-length 0 m.edges in
        let a : get_or (from 0 m.edges) e 0 ≡ e = from_at 0 m.edges e h ∙ zero-add e in
        filled_out Leaves (from 0 m.edges) edges₀ edges e n f (omega arith) (rw a (ne_eqb (source_of m e) l s))

  pub listed_end : {edges₀ edges : List ℕ} {e n : ℕ} → Listed edges₀ edges e n → m.edges ≤ e
      → (n ≤ m.edges) × (take n edges ≡ leaving m l)
  unfolding leaving
  listed_end {edges₀} {edges} {e} {n} f h =
      let b = from-length 0 m.edges in
      let (c, d) = filled_end Leaves (from 0 m.edges) edges₀ edges e n f (omega arith) in
      (omega (arith, f.few, f.within), rw d (take_at (leaving m l) (drop n edges₀) n (sym c)))
