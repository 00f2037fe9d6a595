-- A widened run with few jumps rounds to an exact run on whole times.
use mathlib.Core.Path.{◌≡◌, refl, ap}
use mathlib.Core.Logic.{◌↔◌}
use mathlib.Core.List.{List, [], ◌∷◌}
use mathlib.Core.Bool.{Bool, true, false}
use Prim.Native.Nat.{ℕ, zero, suc, ◌+◌, ◌*◌, ◌-◌, ◌/◌, ◌≤◌, ◌<◌}
use native.Mathlib.Nat.{add-mul-div_right, lt_of_mul-lt-mul_right, lt-div-mul-add, div-mul-le_self, mul-le-mul_right, mul-lt-mul_of_pos_right, add-sub_of_le, add-zero, zero-add}
use native.Mathlib.Omega.{arith}
use lib.ListN.{length, replicate}
use Rattle.theory.proofs.Shift.{div_mono, Good, AllGood, good_shift}
use Rattle.theory.specs.Pointwise.{Each}
use Rattle.theory.specs.Automaton.{Automaton, Edge, Upto, AtLeast, elapse, reset_values, Run, Exact, Slight, Steady}
use Rattle.theory.proofs.Pointwise.{each_zip}

-- Out of e/D of a unit: b N-ths, where b is the whole part of e * N / D.
high_in : (N e D b x c : ℕ) → e * N < b * D + D → x * D ≤ (c * D + e) * N → x ≤ c * N + b
high_in N e D b x c slack h =
    let l : x < c * N + b + 1 = lt_of_mul-lt-mul_right D (omega arith) in omega arith

low_in : (N e D b x c : ℕ) → e * N < b * D + D → c * D * N ≤ x * D + e * N → c * N ≤ x + b
low_in N e D b x c slack h =
    let l : c * N < x + b + 1 = lt_of_mul-lt-mul_right D (omega arith) in omega arith

-- One clock: its value is x at the real time t and y at the rounded time. `at` is the time of its last reset, a good one.
pub record Tie (N b s t x y : ℕ) : Type 0 where
  pub at : ℕ
  pub good : Good N b s at
  pub real : at + x ≡ t
  pub whole : (at + s) / N + y ≡ (t + s) / N

abbrev pub Ties : ℕ → ℕ → ℕ → ℕ → List ℕ → List ℕ → Type 0
Ties N b s t = Each (Tie N b s t)

module _ (N b s : ℕ) (pos : 0 < N) where
  -- A limit from above is kept since the reset was good, one from below since the present time is.
  tie_high : (t x y c : ℕ) → Tie N b s t x y → x ≤ c * N + b → y ≤ c
  tie_high t x y c r h =
      let up : (t + s) / N ≤ (r.at + b + s + c * N) / N = div_mono N pos (omega arith) in
      omega (arith, add-mul-div_right (r.at + b + s) c pos)

  tie_low : (t x y c : ℕ) → Good N b s t → Tie N b s t x y → c * N ≤ x + b → c ≤ y
  tie_low t x y c g r h =
      let up : (r.at + s + c * N) / N ≤ (t + b + s) / N = div_mono N pos (omega arith) in
      omega (arith, add-mul-div_right (r.at + s) c pos)

  module _ (e D : ℕ) (slack : e * N < b * D + D) where
    pub ties_high : {t : ℕ} {v w cs : List ℕ} → Ties N b s t v w → Upto N e D v cs → Upto 1 0 1 w cs
    ties_high {t} = each_zip (λ x y c r h. let l = tie_high t x y c r (high_in N e D b x c slack h) in omega arith)

    pub ties_low : {t : ℕ} {v w cs : List ℕ} → Good N b s t → Ties N b s t v w → AtLeast N e D v cs → AtLeast 1 0 1 w cs
    ties_low {t} g = each_zip (λ x y c r h. let l = tie_low t x y c g r (low_in N e D b x c slack h) in omega arith)

  tie_elapse : {t x y : ℕ} (d d' : ℕ) → (t + s) / N + d' ≡ (t + d + s) / N → Tie N b s t x y → Tie N b s (t + d) (x + d) (y + d')
  tie_elapse d d' e r = record { at = r.at; good = r.good; real = omega arith; whole = omega arith }

  ties_elapse : {t : ℕ} (d d' : ℕ) → (t + s) / N + d' ≡ (t + d + s) / N → {v w : List ℕ} → Ties N b s t v w → Ties N b s (t + d) (elapse d v) (elapse d' w)
  ties_elapse d d' e Each.none = Each.none
  ties_elapse d d' e (Each.more r rs) = Each.more (tie_elapse d d' e r) (ties_elapse d d' e rs)

  pub ties_reset : {t : ℕ} → Good N b s t → (bs : List Bool) {v w : List ℕ} → Ties N b s t v w → Ties N b s t (reset_values bs v) (reset_values bs w)
  ties_reset g bs Each.none = Each.none
  ties_reset g [] (Each.more r rs) = Each.more r rs
  ties_reset {t} g (true ∷ bs) (Each.more r rs) =
      Each.more (record { at = t; good = g; real = add-zero t; whole = add-zero _ }) (ties_reset g bs rs)
  ties_reset g (false ∷ bs) (Each.more r rs) = Each.more r (ties_reset g bs rs)

  ties_start : Good N b s 0 → (n : ℕ) → Ties N b s 0 (replicate n 0) (replicate n 0)
  ties_start g zero = Each.none
  ties_start g (suc n) = Each.more (record { at = 0; good = g; real = refl; whole = add-zero _ }) (ties_start g n)

-- The entry times of a run before the present one. There are as many as jumps.
abbrev pub earlier : {m : Automaton} {N e D l t : ℕ} {gs : List Edge} {v : List ℕ} → Run m N e D gs l v t → List ℕ
earlier (Run.begin h) = []
earlier (Run.step {t = t} r d g o) = t ∷ earlier r

earlier-length : {m : Automaton} {N e D l t : ℕ} {gs : List Edge} {v : List ℕ} (r : Run m N e D gs l v t) → length (earlier r) ≡ length gs
earlier-length (Run.begin h) = refl
earlier-length (Run.step r d g o) = ap suc (earlier-length r)

-- What a run with entry at l, values v, along the edges gs and after t N-ths rounds to.
pub record Rounded (m : Automaton) (N b s : ℕ) (gs : List Edge) (l : ℕ) (v : List ℕ) (t : ℕ) : Type 0 where
  pub values : List ℕ
  pub time : ℕ
  pub run : Exact m gs l values time
  pub ties : Ties N b s t v values
  pub clock : s / N + time ≡ (t + s) / N

-- At a shift that is good for all entry times a run rounds to an exact one, along the same edges.
pub round : {m : Automaton} {N e D l t : ℕ} {gs : List Edge} {v : List ℕ} (b s : ℕ) (pos : 0 < N) → e * N < b * D + D
    → (r : Run m N e D gs l v t) → AllGood N b s (t ∷ earlier r) → Rounded m N b s gs l v t
round {m} {N} {e} {D} b s pos slack (Run.begin h) g =
    record {
      values = replicate m.clocks 0;
      time = 0;
      run = Run.begin (ties_high N b s pos e D slack (ties_start N b s pos g.0 m.clocks) h);
      ties = ties_start N b s pos g.0 m.clocks;
      clock = rw (zero-add, add-zero);
    }
round {m} {N} {e} {D} b s pos slack (Run.step {l = l} {t = t} {v = v} r d j o) g =
    let p = round b s pos slack r g.1 in
    let d' = (t + d + s) / N - (t + s) / N in
    let mono : (t + s) / N ≤ (t + d + s) / N = div_mono N pos (omega arith) in
    let waited = ties_elapse N b s pos d d' (add-sub_of_le mono) p.ties in
    let entered = ties_reset N b s pos g.0 j.reset waited in
    record {
      values = reset_values j.reset (elapse d' p.values);
      time = p.time + d';
      run = Run.step p.run d' j record {
        drawn = o.drawn;
        here = o.here;
        stays = ties_high N b s pos e D slack waited o.stays;
        low = ties_low N b s pos e D slack g.0 waited o.low;
        high = ties_high N b s pos e D slack waited o.high;
        enters = ties_high N b s pos e D slack entered o.enters;
      };
      ties = entered;
      clock = omega (arith, p.clock);
    }

-- k + 1 entries have fewer than N bad shifts.
few : (K k e D N b : ℕ) → 0 < N → Slight K e D → k ≤ K → b * D ≤ e * N → suc k * b < N
few K k e D N b pos small h le =
    let more : suc k * (b * D) ≤ (K + 1) * (b * D) = mul-le-mul_right (b * D) (omega arith) in
    let wide : b * D * (K + 1) ≤ e * N * (K + 1) = mul-le-mul_right (K + 1) le in
    let less : (K + 1) * e * N < D * N = mul-lt-mul_of_pos_right small pos in
    lt_of_mul-lt-mul_right D (omega arith)

-- A widened run of at most K jumps with slight drift rounds to an exact run on whole times, along the same edges.
pub rounded : {m : Automaton} {N e D l t : ℕ} {gs : List Edge} {v : List ℕ} (K : ℕ) → 0 < N → Slight K e D → length gs ≤ K
    → Run m N e D gs l v t → (w : List ℕ) × (t' : ℕ) × Exact m gs l w t'
rounded {N = N} {e} {D} {t = t} {gs = gs} K pos small h r =
    let b = e * N / D in
    let le = few K (length gs) e D N b pos small h (div-mul-le_self (e * N) D) in
    let g = good_shift N b pos (t ∷ earlier r) (rw earlier-length le) in
    let p = round b g.0 pos (lt-div-mul-add (omega arith)) r g.2 in
    (p.values, p.time, p.run)

-- So perfect clocks decide what slight drift can do: no widened run of at most K jumps with (K+1)e < D enters a forbidden location just if no exact run on
-- whole times does.
pub steady_law : (m : Automaton) → Steady m ↔ ((gs : List Edge) (l : ℕ) (v : List ℕ) (t : ℕ) → Exact m gs l v t → m.forbidden l ≡ false)
steady_law m = (
  λ s gs l v t r. s.enters_none (length gs) 0 1 1 (omega arith) (omega arith) gs l v t (omega arith) r,
  λ none. record {
    enters_none = λ K e D N small pos gs l v t few r. let (w, u, x) = rounded K pos small few r in none gs l w u x;
  },
)
