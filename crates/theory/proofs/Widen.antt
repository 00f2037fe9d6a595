-- Every exact run on whole times is a widened run, at any drift and any part of a unit: the widened runs are no fewer.
use mathlib.Core.Path.{◌≡◌}
use mathlib.Core.List.{List, [], ◌∷◌}
use mathlib.Core.Bool.{Bool, true, false}
use Prim.Native.Nat.{ℕ, zero, suc, ◌+◌, ◌*◌, ◌≤◌}
use native.Mathlib.Nat.{mul-le-mul_right}
use native.Mathlib.Omega.{arith}
use lib.ListN.{replicate}
use Rattle.theory.specs.Pointwise.{Each}
use Rattle.theory.specs.Automaton.{Automaton, Edge, Upto, AtLeast, elapse, reset_values, Run, Exact}
use Rattle.theory.proofs.Pointwise.{each_zip}

module _ (N e D : ℕ) where
  -- w is v counted in N-ths
  abbrev Parts : List ℕ → List ℕ → Type 0
  Parts = Each (λ x y. y ≡ x * N)

  high : (x y c : ℕ) → y ≡ x * N → x ≤ c → y * D ≤ (c * D + e) * N
  high x y c p h = rw p (omega (arith, mul-le-mul_right (N * D) h))

  low : (x y c : ℕ) → y ≡ x * N → c ≤ x → c * D * N ≤ y * D + e * N
  low x y c p h = rw p (omega (arith, mul-le-mul_right (N * D) h))

  parts_high : {v w cs : List ℕ} → Parts v w → Upto 1 0 1 v cs → Upto N e D w cs
  parts_high = each_zip (λ x y c p h. high x y c p (omega arith))

  parts_low : {v w cs : List ℕ} → Parts v w → AtLeast 1 0 1 v cs → AtLeast N e D w cs
  parts_low = each_zip (λ x y c p h. low x y c p (omega arith))

  parts_elapse : (d : ℕ) {v w : List ℕ} → Parts v w → Parts (elapse d v) (elapse (d * N) w)
  parts_elapse d Each.none = Each.none
  parts_elapse d (Each.more {x = x} {c = y} p ps) = let q : y + d * N ≡ (x + d) * N = omega arith in Each.more q (parts_elapse d ps)

  parts_reset : (bs : List Bool) {v w : List ℕ} → Parts v w → Parts (reset_values bs v) (reset_values bs w)
  parts_reset bs Each.none = Each.none
  parts_reset [] (Each.more p ps) = Each.more p ps
  parts_reset (true ∷ bs) (Each.more p ps) = let q : 0 ≡ 0 * N = omega arith in Each.more q (parts_reset bs ps)
  parts_reset (false ∷ bs) (Each.more p ps) = Each.more p (parts_reset bs ps)

  parts_start : (n : ℕ) → Parts (replicate n 0) (replicate n 0)
  parts_start zero = Each.none
  parts_start (suc n) = let q : 0 ≡ 0 * N = omega arith in Each.more q (parts_start n)

  pub widen : {m : Automaton} {gs : List Edge} {l t : ℕ} {v : List ℕ} → Exact m gs l v t
      → (w : List ℕ) × (u : ℕ) × Run m N e D gs l w u × Each (λ x y. y ≡ x * N) v w × (u ≡ t * N)
  widen {m} (Run.begin h) =
      (replicate m.clocks 0, 0, Run.begin (parts_high (parts_start m.clocks) h), parts_start m.clocks, omega arith)
  widen (Run.step {l = l} r d g o) =
      let p = widen r in
      let waited = parts_elapse d p.3 in
      let entered = parts_reset g.reset waited in (
        reset_values g.reset (elapse (d * N) p.0),
        p.1 + d * N,
        Run.step p.2 (d * N) g record {
          drawn = o.drawn;
          here = o.here;
          stays = parts_high waited o.stays;
          low = parts_low waited o.low;
          high = parts_high waited o.high;
          enters = parts_high entered o.enters;
        },
        entered,
        omega arith,
      )
