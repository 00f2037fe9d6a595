-- The invariants of the loops over the successors of a node and over the segments: what a turn adds, what the whole gives.
use mathlib.Core.Path.{◌≡◌, ap, subst, ◌∙◌}
use mathlib.Core.Bool.{true}
use mathlib.Core.Logic.{◌⊎◌, inl, inr, ⊎_elim}
use mathlib.Core.List.{List}
use Prim.Native.Nat.{ℕ, suc, ◌+◌, ◌-◌, ◌≤◌, ◌<◌}
use native.Mathlib.Omega.{arith}
use borrow.Author.Count.{below_more}
use lib.ListN.{length}
use Rattle.theory.specs.System.{System}
use Rattle.component.specs.Graph.{graph_of}
use Rattle.component.specs.Stack.{at}
use Rattle.component.specs.Marks.{GraphLists}
use Rattle.component.specs.Scan.{RowOf, Cursor, NewPlace, LowAt, Low, height_in, MostAt, MostFrom, Most}
use Rattle.component.proofs.GraphLaws.{flow_is, flow_below}

-- ---- a new successor

pub new_more : {first targets : List ℕ} {m : ℕ → ℕ} {v i : ℕ} → Cursor first targets m v i → i < at first (suc v) → (m (at targets i) ≡ 0 → ⊥)
    → Cursor first targets m v (i + 1)
new_more {first} {targets} {m} {v} {i} I l f =
    record {
      from = omega (arith, I.from);
      to = omega arith;
      old = λ j k o. below_more (λ j. at first v ≤ j → m (at targets j) ≡ 0 → ⊥) i (λ x y z. I.old x z y) (λ z. f) j o k;
    }

pub new_none : {first targets : List ℕ} {m : ℕ → ℕ} {v i : ℕ} (n : ℕ) → NewPlace first targets m v i → at first (suc v) ≤ i
    → (t : ℕ) → (graph_of first targets n).flow v t ≡ true → m t ≡ 0 → ⊥
new_none {first} {targets} {m} {v} n I l t e z =
    let A = (flow_is first targets n v t e).1 in
    I.cursor.old A.place A.after (omega (arith, A.before)) (ap m A.is ∙ z)

-- ---- all successors: the lowest place

-- of the first k of a row
pub record LowTo (Y : System) (mark row : List ℕ) (v top k low : ℕ) : Type 0 where
  pub least : (j p : ℕ) → j < k → at mark (at row j) ≡ suc p → low ≤ p
  pub some : low < top → (t : ℕ) × (Y.flow v t ≡ true) × (at mark t ≡ suc low)

pub low_more : {Y : System} {mark row : List ℕ} {v top k low r : ℕ} → RowOf Y v row → k < length row → LowTo Y mark row v top k low
    → LowAt (at mark) (at row k) low r → LowTo Y mark row v top (k + 1) r
low_more {Y} {mark} {row} {v} {top} {k} {low} {r} R l I A =
    record {
      least =
          λ j p o.
          below_more (λ j. at mark (at row j) ≡ suc p → r ≤ p) k (λ j o e. omega (arith, A.less, I.least j p o e)) (A.least p) j o;
      some =
          λ o.
          ⊎_elim (λ e. let (t, d, q) = I.some (omega arith) in (t, d, omega arith)) (λ q. (at row k, R.only k l, q))
          A.some;
    }

pub low_all : {Y : System} {mark row : List ℕ} {v top k low : ℕ} → RowOf Y v row → length row ≤ k → LowTo Y mark row v top k low
    → Low Y (at mark) v top low
low_all {mark} R l I = record { some = I.some; least = λ t p d e. let (j, o, q) = R.all t d in I.least j p (omega arith) (ap (at mark) q ∙ e) }

-- ---- all successors: the largest height

pub record MostTo (Y : System) (n : ℕ) (mark row : List ℕ) (v h k r : ℕ) : Type 0 where
  pub above : (j : ℕ) → j < k → n < at mark (at row j) → height_in n (at mark (at row j)) < r
  pub more : h ≤ r
  pub found : (r ≡ h) ⊎ ((t : ℕ) × (Y.flow v t ≡ true) × (n < at mark t) × (r ≡ suc (height_in n (at mark t))))

pub most_more : {Y : System} {n : ℕ} {mark row : List ℕ} {v h k r r' : ℕ} → RowOf Y v row → k < length row → MostTo Y n mark row v h k r
    → MostAt (at mark) n (at row k) r r' → MostTo Y n mark row v h (k + 1) r'
most_more {Y} {n} {mark} {row} {k} {r'} R l I A =
    record {
      above =
          below_more (λ j. n < at mark (at row j) → height_in n (at mark (at row j)) < r') k
          (λ j o d. omega (arith, A.more, I.above j o d)) A.above;
      more = omega (arith, I.more, A.more);
      found =
          ⊎_elim
          (λ e. ⊎_elim (λ o. inl (e ∙ o)) (λ (t, d, k, o). inr (t, d, k, e ∙ o)) I.found)
          (λ (q, o). inr (at row k, R.only k l, q, o))
          A.found;
    }

pub most_all : {Y : System} {n : ℕ} {mark row : List ℕ} {v h k r : ℕ} → RowOf Y v row → length row ≤ k → MostTo Y n mark row v h k r
    → MostFrom Y n (at mark) v h r
most_all {Y} {n} {mark} {row} {r} R l I =
    record {
      more = I.more;
      above = λ t d. let (j, o, q) = R.all t d in subst (λ x. n < at mark x → height_in n (at mark x) < r) q (I.above j (omega arith));
      found = I.found;
    }

-- ---- merging

pub record MergedTo (sg : ℕ → ℕ) (segs w r : ℕ) : Type 0 where
  pub some : 0 < r
  pub fewer : r ≤ segs
  pub over : (k : ℕ) → r ≤ k → k < segs → w < sg k

-- ---- settling

pub record SettledTo (m m' : ℕ → ℕ) (n s : ℕ) : Type 0 where
  pub within : s ≤ n
  pub done : (j : ℕ) → j < s → m' j ≡ m j - (n + 1)
  pub rest : (j : ℕ) → s ≤ j → m' j ≡ m j

-- where the heights of finished nodes are below n, the largest is at most n
pub most_le : {first targets : List ℕ} {m st : ℕ → ℕ} {n a top h : ℕ} → GraphLists first targets n → ((t : ℕ) → t < n → n < m t → height_in n (m t) < n)
    → Most (graph_of first targets n) n m st a top h → h ≤ n
most_le {first} {targets} {st} {n} H f M =
    ⊎_elim (λ z. omega arith) (λ (p, t, k, l, e, d, z). omega (arith, f t (flow_below first targets n H (st p) t e) d)) M.found
