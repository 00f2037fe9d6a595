-- Closed walks of time and jump steps: their corners move along with them, and where each closed walk of edges resets each clock, so do they.
use mathlib.Core.Path.{◌≡◌, refl, ap}
use mathlib.Core.List.{List, [], ◌∷◌}
use mathlib.Core.Logic.{◌⊎◌, inl, inr}
use mathlib.Core.Bool.{Bool, true, false, cond, false≢true}
use Prim.Native.Nat.{ℕ, zero, suc, ◌+◌, ◌*◌, ◌≤◌, ◌<◌}
use native.Mathlib.Numerals.{add-one}
use native.Mathlib.Omega.{arith}
use lib.Dec.{eqb, eqb-suc-zero}
use lib.ListN.{length, get_or, replicate, length-replicate}
use Rattle.theory.specs.Lists.{some}
use Rattle.theory.specs.Pointwise.{Each}
use Rattle.theory.specs.Automaton.{Automaton, Edge, reset_values, Opens}
use Rattle.theory.specs.Region.{Clock, Region, clock, Fits, has_rank, top_rank, raise, rise_ranks, carry, successor}
use Rattle.theory.specs.RegionGraph.{Allowed, Enabled, Flow, FlowWalk, after}
use Rattle.theory.proofs.Below.{or_cases}
use Rattle.robust.specs.Robust.{EdgeWalk, resets_clock, LoopsReset}
use Rattle.robust.proofs.Clocks.{has_top}
use Rattle.robust.proofs.Opening.{jump_opens}
use Rattle.robust.proofs.Lift.{time_onward, time_back, jump_onward, jump_back, corner_upto, corner_at_least}
use Rattle.robust.proofs.Blend.{Move, Trace, mask, flags}

-- ---- a walk by its moves, and by its edges, each of which can open alone

abbrev pub word : {m : Automaton} {l k n : ℕ} {xs ys : Region} → FlowWalk m l xs k ys n → List Move
word FlowWalk.stop = []
word (FlowWalk.move (Flow.time a b) w) = Move.rest ∷ word w
word (FlowWalk.move (Flow.jump g o a b) w) = Move.take g ∷ word w

abbrev pub taken : List Move → List Edge
taken [] = []
taken (Move.rest ∷ ms) = taken ms
taken (Move.take g ∷ ms) = g ∷ taken ms

pub walk_edges : {m : Automaton} {l k n : ℕ} {xs ys : Region} (w : FlowWalk m l xs k ys n) → EdgeWalk m l k (taken (word w))
walk_edges FlowWalk.stop = EdgeWalk.stop
walk_edges (FlowWalk.move (Flow.time a b) w) = walk_edges w
walk_edges (FlowWalk.move (Flow.jump g o a b) w) = EdgeWalk.move g o.drawn o.here (jump_opens o a b) (walk_edges w)

-- ---- it lifts to traces of corners, from each corner and to each corner

pub opens_corner : {m : Automaton} {g : Edge} {l : ℕ} {xs : Region} (i j : ℕ) → Enabled m g l xs → Allowed m l xs → Allowed m g.target (after g xs)
    → reset_values g.reset (raise (suc i) xs) ≡ raise (suc j) (after g xs) → Opens m 1 0 1 g l (raise (suc i) xs)
opens_corner i j o a b e =
    record {
      drawn = o.drawn;
      here = o.here;
      stays = corner_upto i a.stays;
      low = corner_at_least i o.low;
      high = corner_upto i o.high;
      enters = rw e (corner_upto j b.stays);
    }

pub onward : {m : Automaton} {l k n : ℕ} {xs ys : Region} (w : FlowWalk m l xs k ys n) (i : ℕ)
    → (j : ℕ) × Trace m (word w) l (raise (suc i) xs) k (raise (suc j) ys)
onward FlowWalk.stop i = (i, Trace.stop)
onward {xs = xs} (FlowWalk.move (Flow.time a b) w) i =
    let (h, d, e) = time_onward xs i in
    let (j, t) = onward w h in
    (j, Trace.rests d (rw (← e) at t))
onward {xs = xs} (FlowWalk.move (Flow.jump g o a b) w) i =
    let (h, e) = jump_onward g xs i in
    let (j, t) = onward w h in
    (j, Trace.takes g (opens_corner i h o a b e) (rw (← e) at t))

pub backward : {m : Automaton} {l k n : ℕ} {xs ys : Region} (w : FlowWalk m l xs k ys n) (j : ℕ)
    → (i : ℕ) × Trace m (word w) l (raise (suc i) xs) k (raise (suc j) ys)
backward FlowWalk.stop j = (j, Trace.stop)
backward {xs = xs} (FlowWalk.move (Flow.time a b) w) j =
    let (h, t) = backward w j in
    let (i, d, e) = time_back xs h in
    (i, Trace.rests d (rw (← e) at t))
backward {xs = xs} (FlowWalk.move (Flow.jump g o a b) w) j =
    let (h, t) = backward w j in
    let (i, e) = jump_back g xs h in
    (i, Trace.takes g (opens_corner i h o a b e) (rw (← e) at t))

-- ---- a walk without edges does not close: each time step adds to the halves below the values

abbrev part : ℕ → ℕ
part zero = 0
part (suc r) = 1

abbrev fill : Region → ℕ
fill [] = 0
fill (x ∷ xs) = 2 * x.whole + part x.rank + fill xs

part-le : (r : ℕ) → part r ≤ 1
part-le zero = omega arith
part-le (suc r) = omega arith

part_rise : (r : ℕ) → part r ≤ part (r + 1)
part_rise zero = omega arith
part_rise (suc r) = rw (add-one (suc r)) (omega arith)

fill_rise : (xs : Region) → fill xs ≤ fill (rise_ranks xs)
fill_rise [] = omega arith
fill_rise (x ∷ xs) = omega (arith, fill_rise xs, part_rise x.rank)

fill_risen : (xs : Region) → has_rank xs 0 ≡ true → fill xs < fill (rise_ranks xs)
fill_risen [] z = absurd (false≢true z)
fill_risen (x ∷ xs) z = by x.rank refl (fill_risen xs)
  where
    by : (r : ℕ) → x.rank ≡ r → (has_rank xs 0 ≡ true → fill xs < fill (rise_ranks xs)) → fill (x ∷ xs) < fill (rise_ranks (x ∷ xs))
    by zero e ih = let q : part x.rank < part (x.rank + 1) = rw e (omega arith) in omega (arith, fill_rise xs)
    by (suc r) e ih = omega (arith, ih (rw (e, eqb-suc-zero r) at z), part_rise x.rank)

abbrev twofold : Clock → ℕ
twofold x = 2 * x.whole + part x.rank

carried : (x : Clock) (b : Bool) → twofold x ≤ twofold (cond b (clock (x.whole + 1) 0) x)
carried x true = omega (arith, part-le x.rank)
carried x false = omega arith

fill-carry : (r : ℕ) (xs : Region) → fill xs ≤ fill (carry r xs)
fill-carry r [] = omega arith
fill-carry r (x ∷ xs) = omega (arith, fill-carry r xs, carried x (eqb x.rank r))

fill_carried : (r : ℕ) (xs : Region) → has_rank xs r ≡ true → fill xs < fill (carry r xs)
fill_carried r [] t = absurd (false≢true t)
fill_carried r (x ∷ xs) t = by (eqb x.rank r) refl (fill_carried r xs)
  where
    by : (b : Bool) → eqb x.rank r ≡ b → (has_rank xs r ≡ true → fill xs < fill (carry r xs)) → fill (x ∷ xs) < fill (carry r (x ∷ xs))
    by true e ih = rw e (omega (arith, fill-carry r xs, part-le x.rank))
    by false e ih = rw e (omega (arith, ih (rw e at t)))

grows : (x : Clock) (xs : Region) → fill (x ∷ xs) < fill (successor (x ∷ xs))
grows x xs = by (has_rank (x ∷ xs) 0) refl
  where
    by : (b : Bool) → has_rank (x ∷ xs) 0 ≡ b → fill (x ∷ xs) < fill (successor (x ∷ xs))
    by true z = rw z (fill_risen (x ∷ xs) z)
    by false z = rw z (fill_carried (top_rank (x ∷ xs)) (x ∷ xs) (has_top x xs))

time_grows : {m : Automaton} {l : ℕ} {xs : Region} → Allowed m l xs → 0 < m.clocks → fill xs < fill (successor xs)
time_grows {m} a some = by m.clocks a.region.capped some
  where
    by : (n : ℕ) {xs : Region} → Fits xs (replicate n m.ceiling) → 0 < n → fill xs < fill (successor xs)
    by zero f h = absurd (omega arith)
    by (suc n) (Each.more {x = x} {v = xs} f fs) h = grows x xs

pub still : {m : Automaton} {l k n : ℕ} {xs ys : Region} (w : FlowWalk m l xs k ys n) → 0 < m.clocks → taken (word w) ≡ [] → fill xs + n ≤ fill ys
still FlowWalk.stop some e = omega arith
still (FlowWalk.move (Flow.time a b) w) some e = omega (arith, still w some e, time_grows a some)
still (FlowWalk.move (Flow.jump g o a b) w) some e = absurd (omega (arith, ap length e))

-- ---- so a closed walk resets every clock

abbrev pub AllTrue : List Bool → Type 0
AllTrue [] = Unit {0}
AllTrue (f ∷ fs) = (f ≡ true) × AllTrue fs

all_true : (fs : List Bool) → ((x : ℕ) → x < length fs → get_or fs x false ≡ true) → AllTrue fs
all_true [] h = tt
all_true (f ∷ fs) h = (h 0 (omega arith), all_true fs (λ x l. h (suc x) (omega arith)))

mask-length : (bs fs : List Bool) → length (mask bs fs) ≡ length fs
mask-length bs [] = refl
mask-length [] (f ∷ fs) = refl
mask-length (true ∷ bs) (f ∷ fs) = ap suc (mask-length bs fs)
mask-length (false ∷ bs) (f ∷ fs) = ap suc (mask-length bs fs)

-- a mask sets the clocks that it has, and those that are set stay set
mask_sets : (bs fs : List Bool) (x : ℕ) → x < length fs → get_or bs x false ≡ true → get_or (mask bs fs) x false ≡ true
mask_sets bs [] x l e = absurd (omega arith)
mask_sets [] (f ∷ fs) x l e = absurd (false≢true e)
mask_sets (true ∷ bs) (f ∷ fs) zero l e = refl
mask_sets (false ∷ bs) (f ∷ fs) zero l e = absurd (false≢true e)
mask_sets (true ∷ bs) (f ∷ fs) (suc x) l e = mask_sets bs fs x (omega arith) e
mask_sets (false ∷ bs) (f ∷ fs) (suc x) l e = mask_sets bs fs x (omega arith) e

mask_keeps : (bs fs : List Bool) (x : ℕ) → get_or fs x false ≡ true → get_or (mask bs fs) x false ≡ true
mask_keeps bs [] x e = e
mask_keeps [] (f ∷ fs) x e = e
mask_keeps (true ∷ bs) (f ∷ fs) zero e = refl
mask_keeps (false ∷ bs) (f ∷ fs) zero e = e
mask_keeps (true ∷ bs) (f ∷ fs) (suc x) e = mask_keeps bs fs x e
mask_keeps (false ∷ bs) (f ∷ fs) (suc x) e = mask_keeps bs fs x e

flags-length : (ms : List Move) (fs : List Bool) → length (flags ms fs) ≡ length fs
flags-length [] fs = refl
flags-length (Move.rest ∷ ms) fs = flags-length ms fs
flags-length (Move.take g ∷ ms) fs = rw (flags-length ms (mask g.reset fs)) (mask-length g.reset fs)

flags_keep : (ms : List Move) (fs : List Bool) (x : ℕ) → get_or fs x false ≡ true → get_or (flags ms fs) x false ≡ true
flags_keep [] fs x e = e
flags_keep (Move.rest ∷ ms) fs x e = flags_keep ms fs x e
flags_keep (Move.take g ∷ ms) fs x e = flags_keep ms (mask g.reset fs) x (mask_keeps g.reset fs x e)

flags_set : (ms : List Move) (fs : List Bool) (x : ℕ) → x < length fs → some (resets_clock x) (taken ms) ≡ true → get_or (flags ms fs) x false ≡ true
flags_set [] fs x l e = absurd (false≢true e)
flags_set (Move.rest ∷ ms) fs x l e = flags_set ms fs x l e
flags_set (Move.take g ∷ ms) fs x l e = by (flags_set ms (mask g.reset fs) x) (or_cases (resets_clock x g) (some (resets_clock x) (taken ms)) e)
  where
    by : (x < length (mask g.reset fs) → some (resets_clock x) (taken ms) ≡ true → get_or (flags ms (mask g.reset fs)) x false ≡ true)
        → (resets_clock x g ≡ true) ⊎ (some (resets_clock x) (taken ms) ≡ true) → get_or (flags ms (mask g.reset fs)) x false ≡ true
    by ih (inl t) = flags_keep ms (mask g.reset fs) x (mask_sets g.reset fs x l t)
    by ih (inr t) = ih (omega (arith, mask-length g.reset fs)) t

-- Each closed walk of time and jump steps resets each clock. (Whatever shows it: here all closed walks of edges do.)
pub record WalksReset (m : Automaton) : Type 0 where
  pub resets : (l : ℕ) (xs : Region) (k : ℕ) (w : FlowWalk m l xs l xs (suc k)) → AllTrue (flags (word w) (replicate m.clocks false))

pub walks_reset : {m : Automaton} → LoopsReset m → WalksReset m
walks_reset {m} ok = record { resets = λ l xs k w. all_true (flags (word w) (replicate m.clocks false)) (each l xs k w) }
  where
    edges : (l x : ℕ) (gs : List Edge) → x < m.clocks → (gs ≡ [] → ⊥) → EdgeWalk m l l gs → some (resets_clock x) gs ≡ true
    edges l x [] b n c = absurd (n refl)
    edges l x (g ∷ gs) b n c = ok.resets x (omega arith) l g gs c

    each : (l : ℕ) (xs : Region) (k : ℕ) (w : FlowWalk m l xs l xs (suc k)) (x : ℕ) → x < length (flags (word w) (replicate m.clocks false))
        → get_or (flags (word w) (replicate m.clocks false)) x false ≡ true
    each l xs k w x b =
        let long = length-replicate {A = Bool} m.clocks false in
        let below : x < m.clocks = omega (arith, flags-length (word w) (replicate m.clocks false)) in
        let t = edges l x (taken (word w)) below (λ e. omega (arith, still w (omega arith) e)) (walk_edges w) in
        flags_set (word w) (replicate m.clocks false) x (omega arith) t
