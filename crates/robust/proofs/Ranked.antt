-- States between what is in and what is out: some corner is in, and not all. From a state with a corner that is in, time and jump steps lead to
-- states with such a corner, and from one with all corners in to such states. So a walk that starts with some corner in and ends with one out goes
-- through states of this kind only. Where such a walk takes fewer than c jumps, no widened run with drift below 1 / (2 * c + n) leaves what is in,
-- however many jumps it has: two shifts that are good for the last c jumps give such a walk half way, from the one's point to the other's.
use mathlib.Core.Path.{◌≡◌, refl}
use mathlib.Core.List.{List, ◌∷◌}
use mathlib.Core.Logic.{◌⊎◌, inl, inr, ⊎_elim}
use mathlib.Core.Bool.{false}
use Prim.Native.Nat.{ℕ, zero, suc, ◌+◌, ◌*◌, ◌≤◌, ◌<◌}
use native.Mathlib.Nat.{zero-add, suc-add}
use native.Mathlib.Decide.{dec_le}
use native.Mathlib.Omega.{arith}
use lib.ListN.{length}
use Rattle.theory.specs.Automaton.{Automaton, Edge, Capped, Upto, elapse, reset_values, Run}
use Rattle.theory.specs.Region.{Region, raise, successor}
use Rattle.theory.specs.RegionGraph.{Allowed, Enabled, FlowClosed, after, point}
use Rattle.theory.proofs.Shift.{AllGood}
use Rattle.theory.proofs.Stay.{point_waits, point_jumps}
use Rattle.robust.specs.Robust.{RobustlySafe}
use Rattle.robust.specs.Fringe.{span}
use Rattle.robust.proofs.Clocks.{corner_is}
use Rattle.robust.proofs.Half.{halves, Moves}
use Rattle.robust.proofs.Corner.{near_corners}
use Rattle.robust.proofs.Lift.{time_onward, time_back, jump_onward, jump_back, corner_upto}
use Rattle.robust.proofs.Loop.{opens_corner}
use Rattle.robust.proofs.Entries.{Entry}
use Rattle.robust.proofs.Spot.{resets, since, spot, spots_near}
use Rattle.robust.proofs.Window.{Fine, fine_now}
use Rattle.robust.proofs.Middle.{mid, mid_upto, mid_entry, mid_moves}
use Rattle.robust.proofs.Induction.{Holds, Further, short, shift, holds_forever}

-- ---- corners that are in

-- the corners of a state, by their thresholds from 1 on
abbrev pub SomeIn : (ℕ → Region → Type 0) → ℕ → Region → Type 0
SomeIn In l xs = (k : ℕ) × In l (point (raise (suc k) xs))

abbrev pub AllIn : (ℕ → Region → Type 0) → ℕ → Region → Type 0
AllIn In l xs = (k : ℕ) → In l (point (raise (suc k) xs))

module _ {m : Automaton} {In : ℕ → Region → Type 0} (kept : Capped m) (closed : FlowClosed m In) where
  -- a step keeps a corner that is in, and all of them
  pub some_time : (l : ℕ) (xs : Region) → Allowed m l (successor xs) → SomeIn In l xs → SomeIn In l (successor xs)
  some_time l xs b (i, p) =
      let (j, d, e) = time_onward xs i in
      (j, rw e at (point_waits kept closed l d (raise (suc i) xs) p (rw e (corner_upto j b.stays))))

  pub some_jump : (l : ℕ) (xs : Region) (g : Edge) → Enabled m g l xs → Allowed m l xs → Allowed m g.target (after g xs)
      → SomeIn In l xs → SomeIn In g.target (after g xs)
  some_jump l xs g o a b (i, p) =
      let (j, e) = jump_onward g xs i in
      (j, rw e at (point_jumps kept closed l (raise (suc i) xs) g p (opens_corner i j o a b e)))

  pub all_time : (l : ℕ) (xs : Region) → Allowed m l (successor xs) → AllIn In l xs → AllIn In l (successor xs)
  all_time l xs b p j =
      let (i, d, e) = time_back xs j in
      rw e at (point_waits kept closed l d (raise (suc i) xs) (p i) (rw e (corner_upto j b.stays)))

  pub all_jump : (l : ℕ) (xs : Region) (g : Edge) → Enabled m g l xs → Allowed m l xs → Allowed m g.target (after g xs)
      → AllIn In l xs → AllIn In g.target (after g xs)
  all_jump l xs g o a b p j =
      let (i, e) = jump_back g xs j in
      rw e at (point_jumps kept closed l (raise (suc i) xs) g (p i) (opens_corner i j o a b e))

-- ---- ranks

-- Ranks of states with a corner in and a corner out: time steps between them do not raise the rank, jumps lower it, and it is below c on entry at
-- half values.
pub record Ranked (m : Automaton) (In : ℕ → Region → Type 0) (rank : ℕ → Region → ℕ) (c : ℕ) : Type 0 where
  pub closed : FlowClosed m In
  pub time : (l : ℕ) (xs : Region) → Allowed m l xs → Allowed m l (successor xs) → SomeIn In l xs
      → AllIn In l (successor xs) ⊎ (rank l (successor xs) ≤ rank l xs)
  pub jump : (l : ℕ) (xs : Region) (g : Edge) → Enabled m g l xs → Allowed m l xs → Allowed m g.target (after g xs) → SomeIn In l xs
      → AllIn In g.target (after g xs) ⊎ (rank g.target (after g xs) < rank l xs)
  pub few : (l : ℕ) (v : List ℕ) → Entry m l v → Upto 2 0 1 v (m.invariant l) → SomeIn In l (halves v)
      → AllIn In l (halves v) ⊎ (rank l (halves v) < c)

-- all corners are in, or some are and the rank is below r
abbrev Good : (ℕ → Region → Type 0) → (ℕ → Region → ℕ) → ℕ → ℕ → Region → Type 0
Good In rank r l xs = AllIn In l xs ⊎ (SomeIn In l xs × (rank l xs < r))

rank_moves : {m : Automaton} {In : ℕ → Region → Type 0} {rank : ℕ → Region → ℕ} {c : ℕ} → Capped m → Ranked m In rank c → (r : ℕ)
    → Moves m (Good In rank (suc r)) (Good In rank r)
rank_moves {m} {In} {rank} kept R r = record { rest = rest; take = take }
  where
    rest : (l : ℕ) (xs : Region) → Good In rank (suc r) l xs → Allowed m l xs → Allowed m l (successor xs) → Good In rank (suc r) l (successor xs)
    rest l xs (inl p) a b = inl (all_time kept R.closed l xs b p)
    rest l xs (inr (p, h)) a b = ⊎_elim inl (λ le. inr (some_time kept R.closed l xs b p, omega arith)) (R.time l xs a b p)

    take : (l : ℕ) (xs : Region) (g : Edge) → Good In rank (suc r) l xs → Enabled m g l xs → Allowed m l xs → Allowed m g.target (after g xs)
        → Good In rank r g.target (after g xs)
    take l xs g (inl p) o a b = inl (all_jump kept R.closed l xs g o a b p)
    take l xs g (inr (p, h)) o a b = ⊎_elim inl (λ lt. inr (some_jump kept R.closed l xs g o a b p, omega arith)) (R.jump l xs g o a b p)

-- ---- runs

-- a window of no steps, where c is 0
fine_none : {m : Automaton} {N e D l t : ℕ} {gs : List Edge} {v : List ℕ} (b s c : ℕ) (r : Run m N e D gs l v t) → c ≡ 0 → Fine b s 0 r → Fine b s c r
fine_none b s c r z g = rw z g

module _ {m : Automaton} {In : ℕ → Region → Type 0} {rank : ℕ → Region → ℕ} {c N : ℕ} (e D b : ℕ) (kept : Capped m) (R : Ranked m In rank c)
    (pos : 0 < N) (slack : e * N < b * D + D) (s s' : ℕ) (lt : s < N) (lt' : s' < N) where
  -- Where the point at the shift s is in, the state half way has a corner that is in;
  base : {l t : ℕ} {gs : List Edge} {v : List ℕ} (r : Run m N e D gs l v t) → AllGood N b s (resets r) → AllGood N b s' (resets r)
      → In l (point (spot N s t (resets r))) → Good In rank c l (halves (mid s s' r))
  base {l} r g g' p =
      let (k, q) = corner_is (halves (mid s s' r)) (near_corners (spots_near N s s' pos lt lt' (since r))).0 in
      let some : SomeIn In l (halves (mid s s' r)) = (k, rw q p) in
      ⊎_elim inl (λ h. inr (some, h))
      (R.few l (mid s s' r) (mid_entry b kept pos slack s s' r g g') (mid_upto b kept pos slack s s' r g g') some)

  -- w jumps on its rank is lower by w, or all corners are in;
  sink : (K : ℕ) → Holds m In c N e D b K → {l t : ℕ} {gs : List Edge} {v : List ℕ} (w u : ℕ) → w + u ≡ c → (r : Run m N e D gs l v t)
      → w ≤ length gs → length gs ≤ K + w → Fine b s (w + c) r → Fine b s' w r → Good In rank u l (halves (mid s s' r))
  sink K all {l} {t} {gs} {v} zero u q r le few g g' =
      let same : u ≡ c = omega arith in
      let fine : Fine b s c r = rw zero-add at g in
      rw same (base r (fine_now b s c r fine) (fine_now b s' 0 r g') (all gs l t v r (omega arith) s lt fine))
  sink K all (suc w) u q (Run.begin h) le few g g' = absurd (omega arith)
  sink K all (suc w) u q (Run.step {l = l} r d j o) le few g g' =
      let g₁ : Fine b s (suc (w + c)) (Run.step r d j o) = rw suc-add at g in
      mid_moves b kept pos slack s s' (rank_moves kept R u) r d j o (g₁.0, fine_now b s (w + c) r g₁.1) (g'.0, fine_now b s' w r g'.1)
      (sink K all {l = l} w (suc u) (omega arith) r (omega arith) (omega arith) g₁.1 g'.1)

  -- and where they are, the point at the shift s' is in.
  surface : {l t : ℕ} {gs : List Edge} {v : List ℕ} (u : ℕ) → u ≡ 0 → (r : Run m N e D gs l v t) → Good In rank u l (halves (mid s s' r))
      → In l (point (spot N s' t (resets r)))
  surface u z r (inl p) =
      let (k, q) = corner_is (halves (mid s s' r)) (near_corners (spots_near N s s' pos lt lt' (since r))).1 in
      rw q at (p k)
  surface u z r (inr (p, h)) = absurd (omega arith)

-- No run with drift below 1 / (span c + n) enters a forbidden location, however many jumps it has.
pub ranked_forever : {m : Automaton} {In : ℕ → Region → Type 0} {rank : ℕ → Region → ℕ} {c : ℕ} → Capped m → Ranked m In rank c
    → ((l : ℕ) (v : List ℕ) → In l (point v) → m.forbidden l ≡ false) → RobustlySafe m (span c + m.clocks)
ranked_forever {m} {In} {c = c} kept R clean = holds_forever c (span c) kept R.closed (omega arith) clean further
  where
    further : (e D N b : ℕ) → 0 < N → e * N < b * D + D → (span c + m.clocks) * b < N → (K : ℕ) → Holds m In c N e D b K → Further m In c N e D b K
    further e D N b pos slack enough K all gs l t v r d j o few long s lt g = by (dec_le 1 c)
      where
        next : Run m N e D (j ∷ gs) j.target (reset_values j.reset (elapse d v)) (t + d)
        next = Run.step r d j o

        -- two windows of c steps, or one step where c is 0
        by : Dec (1 ≤ c) → In j.target (point (spot N s (t + d) (resets next)))
        by (yes h) =
            let (s₁, lt₁, g₁) = shift b (span c) (c + c) next pos enough (omega arith) in
            surface e D b kept R pos slack s₁ s lt₁ lt 0 refl next
            (sink e D b kept R pos slack s₁ s lt₁ lt K all c 0 (omega arith) next (omega arith) (omega arith) g₁ g)
        by (no h) =
            let z : c ≡ 0 = omega arith in
            let (s₁, lt₁, g₁) = shift b (span c) 1 next pos enough (omega arith) in
            let back = fine_none b s₁ c r z g₁.1 in
            let now = short e D b kept R.closed pos slack r d j o s₁ (g₁.0, fine_now b s₁ c r back) (all gs l t v r few s₁ lt₁ back) in
            surface e D b kept R pos slack s₁ s lt₁ lt c z next
            (base e D b kept R pos slack s₁ s lt₁ lt next (fine_now b s₁ 1 next g₁) (fine_now b s c next g) now)
