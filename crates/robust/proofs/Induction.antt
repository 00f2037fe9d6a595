-- What holds of the rounded points of every widened run, however many jumps it has: by induction over the jumps, at each shift that is good for a
-- window of the last entries. So a set of states that holds them all, and has no forbidden location, is safe for ever.
use mathlib.Core.Path.{◌≡◌}
use mathlib.Core.List.{List, ◌∷◌}
use mathlib.Core.Bool.{false}
use Prim.Native.Nat.{ℕ, zero, suc, ◌+◌, ◌*◌, ◌/◌, ◌≤◌, ◌<◌}
use native.Mathlib.Nat.{div-mul-le_self, lt-div-mul-add, mul-le-mul_right, mul-lt-mul_of_pos_right, lt_of_mul-lt-mul_right}
use native.Mathlib.Decide.{dec_le}
use native.Mathlib.Omega.{arith}
use lib.ListN.{length}
use Rattle.theory.specs.Automaton.{Automaton, Edge, Capped, elapse, Opens, Run}
use Rattle.theory.specs.Region.{Region}
use Rattle.theory.specs.RegionGraph.{FlowClosed, point}
use Rattle.theory.proofs.Shift.{AllGood, good_shift}
use Rattle.robust.specs.Robust.{RobustlySafe}
use Rattle.robust.proofs.Half.{flow_moves}
use Rattle.robust.proofs.Corner.{double}
use Rattle.robust.proofs.Spot.{resets, spot, spot_start}
use Rattle.robust.proofs.Window.{times, times-length, Fine, fine_now, fine_back}
use Rattle.robust.proofs.Middle.{mid_moves}

-- The point of a run of at most K jumps is in, at each shift that is good for a window of c steps.
abbrev pub Holds : Automaton → (ℕ → Region → Type 0) → ℕ → ℕ → ℕ → ℕ → ℕ → ℕ → Type 0
Holds m In c N e D b K =
    (gs : List Edge) (l t : ℕ) (v : List ℕ) (r : Run m N e D gs l v t) → length gs ≤ K → (s : ℕ) → s < N → Fine b s c r
    → In l (point (spot N s t (resets r)))

-- So it is a jump further, where the window does not go back to the start.
abbrev pub Further : Automaton → (ℕ → Region → Type 0) → ℕ → ℕ → ℕ → ℕ → ℕ → ℕ → Type 0
Further m In c N e D b K =
    (gs : List Edge) (l t : ℕ) (v : List ℕ) (r : Run m N e D gs l v t) (d : ℕ) (j : Edge) (o : Opens m N e D j l (elapse d v))
    → length gs ≤ K → c ≤ length gs → (s : ℕ) → s < N → Fine b s c (Run.step r d j o)
    → In j.target (point (spot N s (t + d) (resets (Run.step r d j o))))

module _ {m : Automaton} {In : ℕ → Region → Type 0} {N : ℕ} (e D b : ℕ) (kept : Capped m) (closed : FlowClosed m In)
    (pos : 0 < N) (slack : e * N < b * D + D) where
  -- One exact move from the entry before.
  pub short : {l t : ℕ} {gs : List Edge} {v : List ℕ} (r : Run m N e D gs l v t) (d : ℕ) (j : Edge) (o : Opens m N e D j l (elapse d v)) (s : ℕ)
      → AllGood N b s ((t + d) ∷ resets r) → In l (point (spot N s t (resets r)))
      → In j.target (point (spot N s (t + d) (resets (Run.step r d j o))))
  short {t = t} r d j o s g p =
      rw (double (spot N s (t + d) (resets (Run.step r d j o)))) at
      (mid_moves b kept pos slack s s (flow_moves closed.flow (λ l xs p. p)) r d j o g g (rw (double (spot N s t (resets r))) p))

  none : (c : ℕ) → Holds m In c N e D b 0
  none c gs l t v (Run.begin h) le s lt g = rw (spot_start N s pos m.clocks) closed.start
  none c gs l t v (Run.step r d j o) le s lt g = absurd (omega arith)

  more : (c K : ℕ) → Holds m In c N e D b K → Further m In c N e D b K → Holds m In c N e D b (suc K)
  more c K all far gs l t v (Run.begin h) le s lt g = none c gs l t v (Run.begin h) (omega arith) s lt g
  more c K all far gs l t v (Run.step {gs = gs₁} {l = l₁} {t = t₁} {v = v₁} r d j o) le s lt g = by (dec_le (suc (length gs₁)) c)
    where
      by : Dec (suc (length gs₁) ≤ c) → In j.target (point (spot N s (t₁ + d) (resets (Run.step r d j o))))
      by (yes i) =
          let g₁ = fine_back b s c r d j o i g in
          short r d j o s (g₁.0, fine_now b s c r g₁.1) (all gs₁ l₁ t₁ v₁ r (omega arith) s lt g₁.1)
      by (no i) = far gs₁ l₁ t₁ v₁ r d j o (omega arith) (omega arith) s lt g

  holds : (c : ℕ) → ((K : ℕ) → Holds m In c N e D b K → Further m In c N e D b K) → (K : ℕ) → Holds m In c N e D b K
  holds c far zero = none c
  holds c far (suc K) = more c K (holds c far K) (far K (holds c far K))

-- ---- shifts that are good for a window

-- A times have fewer than N bad shifts, if A * e is below D.
below_unit : (A e D N b : ℕ) → 0 < N → A * e < D → b * D ≤ e * N → A * b < N
below_unit A e D N b pos small le =
    let wide : b * D * A ≤ e * N * A = mul-le-mul_right A le in
    let less : A * e * N < D * N = mul-lt-mul_of_pos_right small pos in
    lt_of_mul-lt-mul_right D (omega arith)

-- A window of at most B steps has a good shift.
pub shift : {m : Automaton} {N e D l t : ℕ} {gs : List Edge} {v : List ℕ} (b B w : ℕ) (r : Run m N e D gs l v t) → 0 < N
    → (B + m.clocks) * b < N → w ≤ B → (s : ℕ) × (s < N) × Fine b s w r
shift {m} {N} b B w r pos enough le =
    let most : length (times w r) ≤ B + m.clocks = omega (arith, times-length w r) in
    good_shift N b pos (times w r) (omega (arith, mul-le-mul_right b most))

-- Where windows have at most B steps, a run with drift below 1 / (B + n) enters locations of In alone, however many jumps it has.
pub holds_ever : {m : Automaton} {In : ℕ → Region → Type 0} (c B : ℕ) → Capped m → FlowClosed m In → c ≤ B
    → ((e D N b : ℕ) → 0 < N → e * N < b * D + D → (B + m.clocks) * b < N → (K : ℕ) → Holds m In c N e D b K → Further m In c N e D b K)
    → (e D N : ℕ) → (B + m.clocks) * e < D → 0 < N
    → (gs : List Edge) (l : ℕ) (v : List ℕ) (t : ℕ) → Run m N e D gs l v t → (w : List ℕ) × In l (point w)
holds_ever {m} c B kept closed le far e D N small pos gs l v t r =
    let b = e * N / D in
    let slack : e * N < b * D + D = lt-div-mul-add (omega arith) in
    let enough : (B + m.clocks) * b < N = below_unit (B + m.clocks) e D N b pos (omega arith) (div-mul-le_self (e * N) D) in
    let p = shift b B c r pos enough le in (
      spot N p.0 t (resets r),
      holds e D b kept closed pos slack c (far e D N b pos slack enough) (length gs) gs l t v r (omega arith) p.0 p.1 p.2,
    )

-- So where In has no forbidden location, it enters none.
pub holds_forever : {m : Automaton} {In : ℕ → Region → Type 0} (c B : ℕ) → Capped m → FlowClosed m In → c ≤ B
    → ((l : ℕ) (v : List ℕ) → In l (point v) → m.forbidden l ≡ false)
    → ((e D N b : ℕ) → 0 < N → e * N < b * D + D → (B + m.clocks) * b < N → (K : ℕ) → Holds m In c N e D b K → Further m In c N e D b K)
    → RobustlySafe m (B + m.clocks)
holds_forever {m} c B kept closed le clean far =
    record {
      enters_none = λ e D N small pos gs l v t r.
          let (w, i) = holds_ever c B kept closed le far e D N small pos gs l v t r in
          clean l w i;
    }
