-- The fringe of a sheet on numbered states: `Fringe` and `IsFringeEntries` are what is computed, and the most jumps of walks through it are ranks.
use mathlib.Core.Path.{◌≡◌, refl, ap}
use mathlib.Core.Logic.{◌↔◌, ◌⊎◌, inl, inr}
use mathlib.Core.Bool.{Bool, true, false, cond}
use Prim.Native.Nat.{ℕ, zero, suc, ◌+◌, ◌≤◌, ◌<◌}
use native.Mathlib.Nat.{zero-add, le_antisymm}
use native.Mathlib.Omega.{arith}
use Rattle.theory.specs.Below.{top}
use Rattle.theory.specs.System.{System, Laws}
use Rattle.theory.specs.Labels.{LabelledSystem, LabelledLaws, Leads, label_kind}
use Rattle.theory.specs.Sheet.{SheetRules}
use Rattle.theory.proofs.Below.{either, not↔, test↔, and↔, any↔, top_ge, top_ext, top_at}
use Rattle.robust.specs.Fringe.{Fringe, FringeWalk, IsFringeEntries, Ranks, fringe, jumps_from, fringe_entries}

-- ---- the tests

module _ (Y : System) (L : Laws Y) (is_in : ℕ → Bool) where
  fringe_test : (q : ℕ) → (fringe Y is_in q ≡ true) ↔ ((is_in q ≡ false) × ((p : ℕ) × (p < Y.size) × ((is_in p ≡ true) × (Y.near p q ≡ true))))
  unfolding fringe
  fringe_test q = and↔ (not↔ (is_in q)) (any↔ Y.size λ p. and↔ (test↔ (is_in p)) (test↔ (Y.near p q)))

  pub fringe_below : {q : ℕ} → Fringe Y is_in q → (q < Y.size) × (Y.allowed q ≡ true)
  fringe_below {q} f = let a = (L.near_joins f.beside q f.near).1 in (L.allowed_below q a, a)

  pub fringe_law : (q : ℕ) → (fringe Y is_in q ≡ true) ↔ Fringe Y is_in q
  fringe_law q = (
    λ e. let (o, (p, b, (i, n))) = (fringe_test q).0 e in record { out = o; beside = p; beside_in = i; near = n },
    λ f.
        let b = L.allowed_below f.beside (L.near_joins f.beside q f.near).0 in
        (fringe_test q).1 (f.out, (f.beside, b, (f.beside_in, f.near))),
  )

-- ---- walks through the fringe

pub first : {P : LabelledSystem} {is_in : ℕ → Bool} {p k : ℕ} → FringeWalk P is_in p k → Fringe P.system is_in p
first (FringeWalk.stop i) = i
first (FringeWalk.rest i d w) = i
first (FringeWalk.take e i d w) = i

pub entries_unique : {P : LabelledSystem} {is_in : ℕ → Bool} {c d : ℕ} → IsFringeEntries P is_in c → IsFringeEntries P is_in d → c ≡ d
entries_unique (IsFringeEntries.none n) (IsFringeEntries.none n') = refl
entries_unique (IsFringeEntries.none n) (IsFringeEntries.most {p = p} w h) = absurd (n p (first w))
entries_unique (IsFringeEntries.most {p = p} w h) (IsFringeEntries.none n) = absurd (n p (first w))
entries_unique (IsFringeEntries.most {p = p} {k = k} w h) (IsFringeEntries.most {p = p'} {k = k'} w' h') =
    ap suc (le_antisymm (h' p k w) (h p' k' w'))

-- No walk takes more jumps than the rank of its first state, so ranks below d show that d is enough.
pub walk_rank : {P : LabelledSystem} {is_in : ℕ → Bool} {rank : ℕ → ℕ} {d p k : ℕ} → Ranks P is_in rank d → FringeWalk P is_in p k → k ≤ rank p
walk_rank R (FringeWalk.stop i) = omega arith
walk_rank {p = p} R (FringeWalk.rest {q = q} i x w) = omega (arith, walk_rank R w, R.time p q i (first w) x)
walk_rank {p = p} R (FringeWalk.take {q = q} e i x w) = omega (arith, walk_rank R w, R.jump e p q i (first w) x)

pub entries_ranks : {P : LabelledSystem} {is_in : ℕ → Bool} {rank : ℕ → ℕ} {c d : ℕ} → Laws P.system → Ranks P is_in rank d
    → IsFringeEntries P is_in c → c ≤ d
entries_ranks L R (IsFringeEntries.none n) = omega arith
entries_ranks {P} {is_in} L R (IsFringeEntries.most {p = p} w n) =
    omega (arith, walk_rank R w, R.few p (fringe_below P.system L is_in (first w)).0 (first w))

-- ---- ranks of the fringe of a sheet

module _ (P : LabelledSystem) (M : LabelledLaws P) (is_in : ℕ → Bool) (h : ℕ → ℕ) (K : SheetRules P.system is_in h) where
  abbrev Y : System
  Y = P.system

  abbrev on : ℕ → ℕ → ℕ → ℕ
  on f p x = let q = P.next x p in cond (fringe Y is_in q) (label_kind x + jumps_from P is_in f q) 0

  abbrev entries : ℕ → ℕ
  entries p = cond (fringe Y is_in p) (suc (jumps_from P is_in Y.size p)) 0

  leads_lower : (x p q : ℕ) → Fringe Y is_in p → Leads P x p q → h q < h p
  leads_lower x p q f (b, e, c) =
      let below = (fringe_below Y M.laws is_in f).0 in
      let flow : Y.flow p q ≡ true = rw e at (M.next_flow x p b below (rw e c)) in
      K.lower f.beside p q f.beside_in f.out f.near flow

  stable : (f p : ℕ) → Fringe Y is_in p → h p < f → jumps_from P is_in f p ≡ jumps_from P is_in (suc f) p
  unfolding jumps_from
  stable zero p i l = absurd (omega arith)
  stable (suc f) p i l = top_ext P.labels (on f p) (on (suc f) p) (λ x b. each x (stable f (P.next x p)) b (either (fringe Y is_in (P.next x p))))
    where
      each : (x : ℕ) → (Fringe Y is_in (P.next x p) → h (P.next x p) < f → jumps_from P is_in f (P.next x p) ≡ jumps_from P is_in (suc f) (P.next x p))
          → x < P.labels → (fringe Y is_in (P.next x p) ≡ true) ⊎ (fringe Y is_in (P.next x p) ≡ false) → on f p x ≡ on (suc f) p x
      each x ih b (inl t) =
          let j = (fringe_law Y M.laws is_in (P.next x p)).0 t in
          let down = leads_lower x p (P.next x p) i (b, refl, (fringe_below Y M.laws is_in j).0) in
          rw t (ap (λ n. label_kind x + n) (ih j (omega arith)))
      each x ih b (inr t) = rw t

  falls : (x p q : ℕ) → Fringe Y is_in p → Fringe Y is_in q → Leads P x p q → h p < Y.size
      → label_kind x + jumps_from P is_in Y.size q ≤ jumps_from P is_in Y.size p
  unfolding jumps_from
  falls x p q i j (b, e, c) l =
      let t : fringe Y is_in (P.next x p) ≡ true = rw e ((fringe_law Y M.laws is_in q).1 j) in
      let here : on Y.size p x ≡ label_kind x + jumps_from P is_in Y.size q = rw t (ap (λ n. label_kind x + jumps_from P is_in Y.size n) e) in
      omega (arith, here, top_ge P.labels (on Y.size p) x b, stable Y.size p i l)

  -- The heights are ranks, since each step through the fringe lowers them,
  pub heights_ranks : (H : ℕ) → ((p : ℕ) → p < Y.size → h p ≤ H) → Ranks P is_in h (suc H)
  heights_ranks H most =
      record {
        time = λ p q i j d. omega (arith, leads_lower 0 p q i d);
        jump = λ e p q i j d. leads_lower (suc e) p q i d;
        few = λ p b i. omega (arith, most p b);
      }

  -- and so are the most jumps.
  module _ (low : (p : ℕ) → p < Y.size → h p < Y.size) where
    pub jumps_ranks : Ranks P is_in (jumps_from P is_in Y.size) (fringe_entries P is_in)
    unfolding fringe_entries label_kind
    jumps_ranks =
        record {
          time = λ p q i j d. omega (arith, falls 0 p q i j d (low p (fringe_below Y M.laws is_in i).0));
          jump = λ e p q i j d. omega (arith, falls (suc e) p q i j d (low p (fringe_below Y M.laws is_in i).0));
          few = λ p b i.
              let here : entries p ≡ suc (jumps_from P is_in Y.size p) = rw ((fringe_law Y M.laws is_in p).1 i) in
              omega (arith, here, top_ge Y.size entries p b);
        }

    -- Some walk has so many jumps, and so `fringe_entries` is one more than the most, or 0.
    pub jumps_some : (f p : ℕ) → Fringe Y is_in p → FringeWalk P is_in p (jumps_from P is_in f p)
    unfolding jumps_from label_kind
    jumps_some zero p i = FringeWalk.stop i
    jumps_some (suc f) p i = by (λ x. jumps_some f (P.next x p)) (top_at P.labels (on f p))
      where
        walk : (x : ℕ) → x < P.labels → Fringe Y is_in (P.next x p) → FringeWalk P is_in (P.next x p) (jumps_from P is_in f (P.next x p))
            → FringeWalk P is_in p (label_kind x + jumps_from P is_in f (P.next x p))
        walk zero b j w = rw zero-add (FringeWalk.rest i (b, refl, (fringe_below Y M.laws is_in j).0) w)
        walk (suc e) b j w =
            let more : 1 + jumps_from P is_in f (P.next (suc e) p) ≡ suc (jumps_from P is_in f (P.next (suc e) p)) = omega arith in
            rw more (FringeWalk.take e i (b, refl, (fringe_below Y M.laws is_in j).0) w)

        at : (x : ℕ) → x < P.labels → ((j : Fringe Y is_in (P.next x p)) → FringeWalk P is_in (P.next x p) (jumps_from P is_in f (P.next x p)))
            → (fringe Y is_in (P.next x p) ≡ true) ⊎ (fringe Y is_in (P.next x p) ≡ false) → FringeWalk P is_in p (on f p x)
        at x b ih (inl t) = let j = (fringe_law Y M.laws is_in (P.next x p)).0 t in rw t (walk x b j (ih j))
        at x b ih (inr t) = rw t (FringeWalk.stop i)

        by : ((x : ℕ) → Fringe Y is_in (P.next x p) → FringeWalk P is_in (P.next x p) (jumps_from P is_in f (P.next x p)))
            → (top P.labels (on f p) ≡ zero) ⊎ ((x : ℕ) × (x < P.labels) × (top P.labels (on f p) ≡ on f p x))
            → FringeWalk P is_in p (top P.labels (on f p))
        by ih (inl z) = rw z (FringeWalk.stop i)
        by ih (inr (x, b, q)) = rw q (at x b (ih x) (either (fringe Y is_in (P.next x p))))

    pub entries_law : IsFringeEntries P is_in (fringe_entries P is_in)
    unfolding fringe_entries
    entries_law = by (fringe_entries P is_in) refl
      where
        lower : (p : ℕ) → Fringe Y is_in p → jumps_from P is_in Y.size p < fringe_entries P is_in
        lower p i = jumps_ranks.few p (fringe_below Y M.laws is_in i).0 i

        walk : (k : ℕ) → fringe_entries P is_in ≡ suc k → (p : ℕ) → fringe_entries P is_in ≡ entries p
            → (fringe Y is_in p ≡ true) ⊎ (fringe Y is_in p ≡ false) → IsFringeEntries P is_in (suc k)
        walk k e p q (inl t) =
            let same : entries p ≡ suc (jumps_from P is_in Y.size p) = rw t in
            let here : k ≡ jumps_from P is_in Y.size p = omega arith in
            let i = (fringe_law Y M.laws is_in p).0 t in
            IsFringeEntries.most {p = p} {k = k} (rw here (jumps_some Y.size p i)) (λ q j w. omega (arith, walk_rank jumps_ranks w, lower q (first w)))
        walk k e p q (inr t) = let none : entries p ≡ 0 = rw t in absurd (omega arith)

        some : (k : ℕ) → fringe_entries P is_in ≡ suc k
            → (fringe_entries P is_in ≡ zero) ⊎ ((p : ℕ) × (p < Y.size) × (fringe_entries P is_in ≡ entries p)) → IsFringeEntries P is_in (suc k)
        some k e (inl z) = absurd (omega arith)
        some k e (inr (p, b, q)) = walk k e p q (either (fringe Y is_in p))

        by : (c : ℕ) → fringe_entries P is_in ≡ c → IsFringeEntries P is_in c
        by zero e = IsFringeEntries.none (λ p i. omega (arith, lower p i))
        by (suc k) e = some k e (top_at Y.size entries)
