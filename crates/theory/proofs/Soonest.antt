-- Without drift the times may be rounded down: so the least whole time is the least of all.
use mathlib.Core.Path.{◌≡◌}
use mathlib.Core.Bool.{false}
use mathlib.Core.Logic.{◌↔◌}
use mathlib.Core.List.{List, ◌∷◌}
use Prim.Native.Nat.{ℕ, ◌+◌, ◌*◌, ◌/◌, ◌≤◌, ◌<◌}
use native.Mathlib.Nat.{div-mul-le_self, mul-le-mul_right, add-zero}
use native.Mathlib.Omega.{arith}
use Rattle.theory.specs.Automaton.{Automaton, Edge, Run, Exact, Steady}
use Rattle.theory.proofs.Shift.{all_plain}
use Rattle.theory.proofs.Rounding.{round, earlier, steady_law}
use Rattle.theory.specs.Soonest.{Soonest, Never, Clean}

at_most : (N t u : ℕ) → 0 / N + u ≡ (t + 0) / N → N * u ≤ t
at_most N t u e =
    let f : (t + 0) / N ≡ t / N = rw add-zero in
    let l : u ≤ t / N = omega arith in
    omega (arith, mul-le-mul_right N l, div-mul-le_self t N)

-- a run on D-ths takes at least as long as some run on whole times along the same edges
pub floored : {m : Automaton} {N l t : ℕ} {gs : List Edge} {v : List ℕ} → 0 < N → Run m N 0 1 gs l v t
    → (w : List ℕ) × (u : ℕ) × Exact m gs l w u × (N * u ≤ t)
floored {N = N} {t = t} pos r =
    let p = round 0 0 pos (omega arith) r (all_plain N 0 (t ∷ earlier r)) in
    (p.values, p.time, p.run, at_most N t p.time p.clock)

-- where T is the least of the whole times, it is the least of all
pub soonest_of : {m : Automaton} {l T : ℕ} → ((gs : List Edge) × (v : List ℕ) × Exact m gs l v T)
    → ((gs : List Edge) (v : List ℕ) (t : ℕ) → Exact m gs l v t → T ≤ t) → Soonest m l T
soonest_of {T = T} some least = record {
  some = some;
  least = λ D pos gs v t r. let (w, u, x, h) = floored pos r in omega (arith, h, mul-le-mul_right D (least gs w u x));
}

pub never_of : {m : Automaton} {l : ℕ} → ((gs : List Edge) (v : List ℕ) (t : ℕ) → Exact m gs l v t → ⊥) → Never m l
never_of none D pos gs v t r = let (w, u, x, h) = floored pos r in none gs w u x

-- ---- clean with perfect clocks

-- where no run on whole times enters a forbidden location, none does
pub exact_clean : (m : Automaton) → Clean m ↔ ((gs : List Edge) (l : ℕ) (v : List ℕ) (t : ℕ) → Exact m gs l v t → m.forbidden l ≡ false)
exact_clean m = (
  λ c gs l v t r. c.enters_none 1 (omega arith) gs l v t r,
  λ h. record { enters_none = λ D pos gs l v t r. let (w, u, x, k) = floored pos r in h gs l w u x },
)

-- and then no widened run of at most K jumps with (K+1)e < D does; the other way too, at e = 0
pub clean_steady : (m : Automaton) → Clean m ↔ Steady m
clean_steady m = (λ c. (steady_law m).1 ((exact_clean m).0 c), λ s. (exact_clean m).1 ((steady_law m).0 s))
