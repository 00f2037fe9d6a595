-- What a level adds keeps the times; the first level, the next one and the end.
use mathlib.Core.Path.{◌≡◌, refl, sym, ap, ◌∙◌}
use mathlib.Core.Bool.{true}
use mathlib.Core.Logic.{◌⊎◌, inl, inr, ⊎_elim}
use mathlib.Core.List.{List}
use Prim.Native.Nat.{ℕ, ◌+◌, ◌≤◌, ◌<◌}
use native.Mathlib.Omega.{arith}
use native.Mathlib.Nat.{add-zero}
use native.Mathlib.Decide.{dec_lt, ℕ_discrete}
use lib.ListN.{length, get_or}
use Rattle.theory.specs.Labels.{LabelledSystem}
use Rattle.theory.specs.Soonest.{jump_step, unit_step, Timed}
use Rattle.theory.proofs.Timed.{Joined}
use Rattle.theory.proofs.TimedRuns.{timed_append}
use Rattle.search.specs.Queue.{Queued, Takes, TakesAll}
use Rattle.search.proofs.Rounds.{start_level}
use Rattle.search.proofs.Queue.{takes_none, takes_kept, takes_reached, takes_then, takes_widen}
use Rattle.least_time.specs.Times.{Times, Level, Jumped, Closes, Waited}

-- a level after more is taken in at it
level_more : {y lo hi hi' : ℕ} {T : ℕ → Type 0} {level level' queue queue' : List ℕ} → Queued level queue hi → Level (y + 1) lo hi level queue → lo ≤ hi
    → Takes y T level level' queue queue' hi hi' → Level (y + 1) lo hi' level' queue'
level_more {y} {lo} {hi} {hi'} {level = level} {level'} {queue} {queue'} F L b A = record {
  low = λ i l. rw (kept i (omega arith)) (L.low i l);
  now = λ i l h. by i l h (dec_lt i hi);
}
  where
    kept : (i : ℕ) → i < hi → get_or level' (get_or queue' i 0) 0 ≡ get_or level (get_or queue i 0) 0
    kept i h = ap (λ (p : ℕ). get_or level' p 0) (A.kept i h) ∙ takes_kept A (get_or queue i 0) (F.reached i h)

    by : (i : ℕ) → lo ≤ i → i < hi' → Dec (i < hi) → get_or level' (get_or queue' i 0) 0 ≡ y + 1
    by i l h (yes k) = kept i k ∙ L.now i l k
    by i l h (no k) = A.fresh i (omega arith) h

-- the states at or below a level: no number is above it, and those at it stand from place lo on
module _ {x lo hi : ℕ} {level queue : List ℕ} (F : Queued level queue hi) (L : Level x lo hi level queue) where
  level_place : (p : ℕ) → p < length level → 0 < get_or level p 0 → (i : ℕ) × (i < hi) × (get_or queue i 0 ≡ p)
      × (((i < lo) × (get_or level p 0 < x)) ⊎ ((lo ≤ i) × (get_or level p 0 ≡ x)))
  level_place p b h =
      let (i, l, e) = F.found p b h in
      (i, l, e, by i l e (dec_lt i lo))
    where
      by : (i : ℕ) → i < hi → get_or queue i 0 ≡ p → Dec (i < lo) → ((i < lo) × (get_or level p 0 < x)) ⊎ ((lo ≤ i) × (get_or level p 0 ≡ x))
      by i l e (yes k) = inl (k, rw e at (L.low i k))
      by i l e (no k) = let z : lo ≤ i = omega arith in inr (z, rw e at (L.now i z l))

-- ---- the loop over the places of a level, closing it under jumps

-- the places below i have their jumps reached
pub record Closing (P : LabelledSystem) (y lo : ℕ) (level level' queue queue' : List ℕ) (hi end i : ℕ) : Type 0 where
  pub takes : Takes y (Jumped P queue lo hi) level level' queue queue' hi end
  pub at : Level (y + 1) lo end level' queue'
  pub from : (k : ℕ) → lo ≤ k → k < end → Jumped P queue lo hi (get_or queue' k 0)
  pub jumps : (k q : ℕ) → lo ≤ k → k < i → jump_step P (get_or queue' k 0) q ≡ true → 0 < get_or level' q 0
  pub ends : (lo ≤ i) × (i ≤ end)

pub closing_first : {P : LabelledSystem} {y lo hi : ℕ} {level queue : List ℕ} → lo ≤ hi → Queued level queue hi → Level (y + 1) lo hi level queue
    → Closing P y lo level level queue queue hi hi lo
closing_first b F L = record {
  takes = takes_none F;
  at = L;
  from = λ k l h. Jumped.place k l h;
  jumps = λ k q l h. absurd (omega arith);
  ends = (omega arith, b);
}

module _ {P : LabelledSystem} {y lo hi end i : ℕ} {level level' queue queue' : List ℕ} (C : Closing P y lo level level' queue queue' hi end i) where
  pub closing_turn : {level'' queue'' : List ℕ} {end' : ℕ} → i < end
      → TakesAll y (λ q. jump_step P (get_or queue' i 0) q ≡ true) level' level'' queue' queue'' end end'
      → Closing P y lo level level'' queue queue'' hi end' (i + 1)
  closing_turn {level''} {queue''} {end'} h A = record {
    takes = takes_then C.takes (takes_widen A.takes onward);
    at = level_more C.takes.fits C.at (omega (arith, C.ends)) A.takes;
    from = λ k l b. from k l b (dec_lt k end);
    jumps = λ k q l b j. jumps k q l b j (ℕ_discrete k i);
    ends = (omega (arith, C.ends.0), omega (arith, A.takes.more));
  }
    where
      here : Jumped P queue lo hi (get_or queue' i 0)
      here = C.from i C.ends.0 h

      onward : (q : ℕ) → jump_step P (get_or queue' i 0) q ≡ true → Jumped P queue lo hi q
      onward q j = Jumped.jump here j

      -- a place that was there before, or a state that is taken in now
      old : (k : ℕ) → k < end → lo ≤ k → Jumped P queue lo hi (get_or queue'' k 0)
      old k b l = rw (A.takes.kept k b) (C.from k l b)

      before : (p : ℕ) → p < length level' → get_or level' p 0 ≡ y + 1 → Jumped P queue lo hi p
      before p s f =
          let (k, b, e, o) = level_place C.takes.fits C.at p s (omega arith) in
          ⊎_elim (λ (c, g). absurd (omega arith)) (λ (c, g). rw e at (C.from k c b)) o

      new : (k p : ℕ) → end ≤ k → k < end' → get_or queue'' k 0 ≡ p → Jumped P queue lo hi p
      new k p l b e =
          let f : get_or level'' p 0 ≡ y + 1 = rw e at (A.takes.fresh k l b) in
          let c : p < length level'' = rw e at (A.takes.fits.below k b) in
          ⊎_elim (λ d. before p (omega (arith, A.takes.long)) (sym d ∙ f)) (λ (z, d, j). onward p j) (A.takes.each p)

      from : (k : ℕ) → lo ≤ k → k < end' → Dec (k < end) → Jumped P queue lo hi (get_or queue'' k 0)
      from k l b (yes c) = old k c l
      from k l b (no c) = new k (get_or queue'' k 0) (omega arith) b refl

      jumps : (k q : ℕ) → lo ≤ k → k < i + 1 → jump_step P (get_or queue'' k 0) q ≡ true → Dec (k ≡ i) → 0 < get_or level'' q 0
      jumps k q l b j (yes e) = A.covers q (rw (e, A.takes.kept i h) at j)
      jumps k q l b j (no e) =
          let c : k < end = omega arith in
          takes_reached A.takes q (C.jumps k q l (omega arith) (rw (A.takes.kept k c) at j))

  pub closing_end : end ≤ i → Closes P y lo level level' queue queue' hi end
  closing_end h = record { takes = C.takes; at = C.at; jumps = λ k q l b. C.jumps k q l (omega arith) }

-- ---- the loop of levels

-- the times below y are found, and the states at y that a wait led to stand in the queue from lo up to its end
pub record Searched (P : LabelledSystem) (y lo hi : ℕ) (level queue : List ℕ) : Type 0 where
  pub fits : Queued level queue hi
  pub at : Level (y + 1) lo hi level queue
  pub ends : (y ≤ lo) × (lo ≤ hi)
  pub size : length level ≡ P.system.size
  pub started : get_or level P.system.start 0 ≡ 1
  pub some : (p t : ℕ) → get_or level p 0 ≡ t + 1 → Timed P P.system.start p t
  pub jumps : (p q : ℕ) → 0 < get_or level p 0 → get_or level p 0 ≤ y → jump_step P p q ≡ true → (0 < get_or level q 0) × (get_or level q 0 ≤ get_or level p 0)
  pub units : (p q : ℕ) → 0 < get_or level p 0 → get_or level p 0 ≤ y → unit_step P p q ≡ true → (0 < get_or level q 0) × (get_or level q 0 ≤ get_or level p 0 + 1)

-- one more jump, or one more unit
timed_jump : {P : LabelledSystem} {a p q t : ℕ} → Timed P a p t → jump_step P p q ≡ true → Timed P a q t
timed_jump w j = rw add-zero at (timed_append w (Timed.jumps j Timed.stop))

timed_unit : {P : LabelledSystem} {a p q t : ℕ} → Timed P a p t → unit_step P p q ≡ true → Timed P a q (t + 1)
timed_unit w u = timed_append w (Timed.waits u Timed.stop)

module _ {P : LabelledSystem} {y lo hi : ℕ} {level queue : List ℕ} (J : Joined P) (I : Searched P y lo hi level queue) where
  jumped_timed : {q : ℕ} → Jumped P queue lo hi q → Timed P P.system.start q y
  jumped_timed (Jumped.place i l h) = I.some (get_or queue i 0) y (I.at.now i l h)
  jumped_timed (Jumped.jump c j) = timed_jump (jumped_timed c) j

  -- a level
  module _ {f g o r : List ℕ} {e n : ℕ} (b : lo < hi) (C : Closes P y lo level f queue o hi e) (A : TakesAll (y + 1) (Waited P o lo e) f g o r e n) where
    long : length f ≡ P.system.size
    long = C.takes.long ∙ I.size

    -- times at the level, before the waits
    some_at : (p t : ℕ) → get_or f p 0 ≡ t + 1 → Timed P P.system.start p t
    some_at p t d = ⊎_elim (λ k. I.some p t (sym k ∙ d)) (λ (z, k, c). let x : y ≡ t = omega arith in rw x at (jumped_timed c)) (C.takes.each p)

    some_after : (p t : ℕ) → get_or g p 0 ≡ t + 1 → Timed P P.system.start p t
    some_after p t d =
        ⊎_elim (λ k. some_at p t (sym k ∙ d))
        (λ (z, k, c).
        let x : y + 1 ≡ t = omega arith in
        rw x at (timed_unit (some_at (get_or o c.place 0) y (C.at.now c.place c.after c.before)) c.is)) (A.takes.each p)

    -- numbers that are there stay
    kept_at : (p : ℕ) → 0 < get_or level p 0 → get_or g p 0 ≡ get_or level p 0
    kept_at p h = takes_kept A.takes p (takes_reached C.takes p h) ∙ takes_kept C.takes p h

    kept_after : (p : ℕ) → 0 < get_or f p 0 → get_or g p 0 ≡ get_or f p 0
    kept_after p h = takes_kept A.takes p h

    level_after : Level (y + 1 + 1) e n g r
    level_after = record { low = λ i l. low i l (dec_lt i lo); now = A.takes.fresh }
      where
        kept : (i : ℕ) → i < e → get_or g (get_or r i 0) 0 ≡ get_or f (get_or o i 0) 0
        kept i l = ap (λ (p : ℕ). get_or g p 0) (A.takes.kept i l) ∙ kept_after (get_or o i 0) (C.takes.fits.reached i l)

        low : (i : ℕ) → i < e → Dec (i < lo) → get_or g (get_or r i 0) 0 < y + 1 + 1
        low i l (yes k) = omega (arith, kept i l, C.at.low i k)
        low i l (no k) = omega (arith, kept i l, C.at.now i (omega arith) l)

    -- what is reached is reached in time
    most_at : (q : ℕ) → q < P.system.size → 0 < get_or f q 0 → get_or f q 0 ≤ y + 1
    most_at q c h =
        let (i, l, d, s) = level_place C.takes.fits C.at q (omega (arith, long)) h in
        ⊎_elim (λ (k, z). omega arith) (λ (k, z). omega arith) s

    most_after : (q : ℕ) → q < P.system.size → 0 < get_or g q 0 → get_or g q 0 ≤ y + 1 + 1
    most_after q c h =
        let (i, l, d, s) = level_place A.takes.fits level_after q (omega (arith, long, A.takes.long)) h in
        ⊎_elim (λ (k, z). omega arith) (λ (k, z). omega arith) s

    -- a state at y or below: at the level itself, or before it
    which : (p : ℕ) → 0 < get_or g p 0 → get_or g p 0 ≤ y + 1
        → ((0 < get_or level p 0) × (get_or level p 0 ≤ y) × (get_or g p 0 ≡ get_or level p 0)) ⊎ ((get_or f p 0 ≡ y + 1) × (get_or g p 0 ≡ y + 1))
    which p h k = ⊎_elim (λ d. by d (C.takes.each p) (dec_lt (get_or level p 0) (y + 1))) (λ (z, d, c). absurd (omega arith)) (A.takes.each p)
      where
        by : get_or g p 0 ≡ get_or f p 0 → (get_or f p 0 ≡ get_or level p 0) ⊎ ((get_or level p 0 ≡ 0) × (get_or f p 0 ≡ y + 1) × Jumped P queue lo hi p)
            → Dec (get_or level p 0 < y + 1)
            → ((0 < get_or level p 0) × (get_or level p 0 ≤ y) × (get_or g p 0 ≡ get_or level p 0)) ⊎ ((get_or f p 0 ≡ y + 1) × (get_or g p 0 ≡ y + 1))
        by d (inl c) (yes l) = inl (omega arith, omega arith, d ∙ c)
        by d (inl c) (no l) = inr (omega arith, omega arith)
        by d (inr (z, c, j)) l = inr (c, d ∙ c)

    -- its place in the queue
    place_at : (p : ℕ) → p < P.system.size → get_or f p 0 ≡ y + 1 → (i : ℕ) × (lo ≤ i) × (i < e) × (get_or o i 0 ≡ p)
    place_at p c h =
        let (i, l, d, s) = level_place C.takes.fits C.at p (omega (arith, long)) (omega arith) in
        (i, ⊎_elim (λ (k, z). absurd (omega arith)) (λ (k, z). k) s, l, d)

    jumps_after : (p q : ℕ) → 0 < get_or g p 0 → get_or g p 0 ≤ y + 1 → jump_step P p q ≡ true → (0 < get_or g q 0) × (get_or g q 0 ≤ get_or g p 0)
    jumps_after p q h k j = by (which p h k)
      where
        by : ((0 < get_or level p 0) × (get_or level p 0 ≤ y) × (get_or g p 0 ≡ get_or level p 0)) ⊎ ((get_or f p 0 ≡ y + 1) × (get_or g p 0 ≡ y + 1))
            → (0 < get_or g q 0) × (get_or g q 0 ≤ get_or g p 0)
        by (inl (a, c, d)) = let (x, z) = I.jumps p q a c j in let s = kept_at q x in (omega arith, omega arith)
        by (inr (c, d)) =
            let (pb, qb) = J.jumps p q j in
            let (i, l, t, s) = place_at p pb c in
            let x : 0 < get_or f q 0 = C.jumps i q l t (rw s j) in
            let z = kept_after q x in
            (omega arith, omega (arith, most_at q qb x))

    units_after : (p q : ℕ) → 0 < get_or g p 0 → get_or g p 0 ≤ y + 1 → unit_step P p q ≡ true → (0 < get_or g q 0) × (get_or g q 0 ≤ get_or g p 0 + 1)
    units_after p q h k u = by (which p h k)
      where
        by : ((0 < get_or level p 0) × (get_or level p 0 ≤ y) × (get_or g p 0 ≡ get_or level p 0)) ⊎ ((get_or f p 0 ≡ y + 1) × (get_or g p 0 ≡ y + 1))
            → (0 < get_or g q 0) × (get_or g q 0 ≤ get_or g p 0 + 1)
        by (inl (a, c, d)) = let (x, z) = I.units p q a c u in let s = kept_at q x in (omega arith, omega arith)
        by (inr (c, d)) =
            let (pb, qb) = J.units p q u in
            let (i, l, t, s) = place_at p pb c in
            let x : 0 < get_or g q 0 = A.covers q (record { place = i; after = l; before = t; is = rw s u }) in
            (x, omega (arith, most_after q qb x))

    pub searched_next : Searched P (y + 1) e n g r
    searched_next = record {
      fits = A.takes.fits;
      at = level_after;
      ends = (omega (arith, I.ends.0, C.takes.more), A.takes.more);
      size = A.takes.long ∙ long;
      started = let s = I.started in kept_at P.system.start (omega arith) ∙ s;
      some = some_after;
      jumps = jumps_after;
      units = units_after;
    }

  -- no state at the level: all are found
  module _ (end : hi ≤ lo) where
    below : (p : ℕ) → p < P.system.size → 0 < get_or level p 0 → get_or level p 0 ≤ y
    below p c h =
        let (i, l, d, s) = level_place I.fits I.at p (omega (arith, I.size)) h in
        ⊎_elim (λ (k, z). omega arith) (λ (k, z). absurd (omega arith)) s

    least_from : {p q t : ℕ} → 0 < get_or level p 0 → Timed P p q t → (0 < get_or level q 0) × (get_or level q 0 ≤ get_or level p 0 + t)
    least_from h Timed.stop = (h, omega arith)
    least_from {p} h (Timed.jumps {q = q} j w) =
        let (x, z) = I.jumps p q h (below p (J.jumps p q j).0 h) j in
        let (a, c) = least_from x w in
        (a, omega arith)
    least_from {p} h (Timed.waits {q = q} u w) =
        let (x, z) = I.units p q h (below p (J.units p q u).0 h) u in
        let (a, c) = least_from x w in
        (a, omega arith)

    pub searched_end : Times P level
    searched_end = record {
      some = I.some;
      least = λ p t w. let s = I.started in let (a, c) = least_from (omega arith) w in (a, omega arith);
    }

-- the first level: the start alone, at 0
module _ (P : LabelledSystem) {level level' queue queue' : List ℕ} {n : ℕ} (zero : (p : ℕ) → get_or level p 0 ≡ 0) (size : length level ≡ P.system.size)
    {start : ℕ} (is : P.system.start ≡ start) (A : TakesAll 0 (λ p. p ≡ start) level level' queue queue' 0 n) where
  first_some : (p t : ℕ) → get_or level' p 0 ≡ t + 1 → Timed P P.system.start p t
  first_some p t e = ⊎_elim (λ k. absurd (omega (arith, zero p))) (λ (z, d, c). let x : 0 ≡ t = omega arith in rw (is, c, ← x) Timed.stop) (A.takes.each p)

  pub searched_first : Searched P 0 0 n level' queue'
  searched_first = record {
    fits = A.takes.fits;
    at = record { low = λ i l. absurd (omega arith); now = A.takes.fresh };
    ends = (omega arith, omega arith);
    size = A.takes.long ∙ size;
    started = rw is (start_level (λ p q. ⊥) zero A);
    some = first_some;
    jumps = λ p q h k. absurd (below p h k (A.takes.each p));
    units = λ p q h k. absurd (below p h k (A.takes.each p));
  }
    where
      below : (p : ℕ) → 0 < get_or level' p 0 → get_or level' p 0 ≤ 0
          → (get_or level' p 0 ≡ get_or level p 0) ⊎ ((get_or level p 0 ≡ 0) × (get_or level' p 0 ≡ 0 + 1) × (p ≡ start)) → ⊥
      below p h k e = omega arith
