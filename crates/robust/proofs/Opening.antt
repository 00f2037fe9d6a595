-- An edge can open alone exactly where some allowed state, reachable or not, has a jump along it; and no run takes another, not even with drift below
-- half a unit. So closed walks of time and jump steps use edges that can open alone, and nothing less would do as a test clock by clock.
use mathlib.Core.Path.{refl}
use mathlib.Core.List.{List, [], ◌∷◌, Memᴰ}
use mathlib.Core.Bool.{Bool, true, false}
use mathlib.Core.Logic.{◌↔◌}
use Prim.Native.Nat.{ℕ, zero, suc, ◌+◌, ◌*◌, ◌≤◌, ◌<◌}
use native.Mathlib.Nat.{lt_of_mul-lt-mul_right, le_of_mul-le-mul_right}
use native.Mathlib.Omega.{arith}
use Rattle.theory.specs.Pointwise.{Each}
use Rattle.theory.specs.Automaton.{Automaton, Edge, Capped, Upto, AtLeast, reset_values, Opens, Run}
use Rattle.theory.specs.Region.{Region, rounded_up, Fits, Attains, reset_clocks, renumber, ranks_upto}
use Rattle.theory.specs.RegionGraph.{Allowed, Enabled, after, point}
use Rattle.theory.proofs.Stay.{allowed_point, fits_point, jump_point}
use Rattle.robust.specs.Robust.{OpensAlone, JumpsAlong}

-- ---- a jump from an allowed state to an allowed state

up_whole : (w r : ℕ) → w ≤ rounded_up w r
up_whole w zero = omega arith
up_whole w (suc r) = omega arith

low-limit : {xs : Region} {lows limits : List ℕ} → Attains xs lows → Fits xs limits → Each (λ low limit. low ≤ limit) lows limits
low-limit Each.none Each.none = Each.none
low-limit (Each.more {x = x} {c = low} a rest) (Each.more {c = limit} f fs) =
    let l : low ≤ limit = omega (arith, up_whole x.whole x.rank) in Each.more l (low-limit rest fs)

attains_reset : (bs : List Bool) {xs : Region} {lows : List ℕ} → Attains xs lows → Attains (reset_clocks bs xs) (reset_values bs lows)
attains_reset bs Each.none = Each.none
attains_reset [] (Each.more a rest) = Each.more a rest
attains_reset (true ∷ bs) (Each.more a rest) = let l : 0 ≤ 0 = omega arith in Each.more l (attains_reset bs rest)
attains_reset (false ∷ bs) (Each.more a rest) = Each.more a (attains_reset bs rest)

attains_renumber : (f : ℕ → ℕ) {xs : Region} {lows : List ℕ} → Attains xs lows → Attains (renumber f xs) lows
attains_renumber f Each.none = Each.none
attains_renumber f (Each.more a rest) = Each.more a (attains_renumber f rest)

pub jump_opens : {m : Automaton} {g : Edge} {l : ℕ} {xs : Region} → Enabled m g l xs → Allowed m l xs → Allowed m g.target (after g xs)
    → OpensAlone m g
jump_opens {m} {g} {l} {xs} o a b =
    record {
      leaves = rw o.here (low-limit o.low a.stays);
      enters = low-limit (attains_renumber (ranks_upto (reset_clocks g.reset xs)) (attains_reset g.reset o.low)) b.stays;
    }

-- ---- and back: the point of the lows

upto_limit : {lows limits : List ℕ} → Each (λ low limit. low ≤ limit) lows limits → Upto 1 0 1 lows limits
upto_limit Each.none = Each.none
upto_limit (Each.more {x = x} {c = c} h hs) = let l : x * 1 ≤ (c * 1 + 0) * 1 = omega arith in Each.more l (upto_limit hs)

attains_self : (lows : List ℕ) → Attains (point lows) lows
attains_self [] = Each.none
attains_self (x ∷ lows) = let l : x ≤ x = omega arith in Each.more l (attains_self lows)

module _ {m : Automaton} (kept : Capped m) {g : Edge} (drawn : Memᴰ g m.edges) (ordered : Each (λ low high. low ≤ high) g.lower g.upper) where
  pub opens_exactly : OpensAlone m g ↔ JumpsAlong m g
  opens_exactly = (
    λ o. (
      point g.lower,
      record { drawn = drawn; here = refl; low = attains_self g.lower; high = fits_point (upto_limit ordered) },
      allowed_point kept g.source (upto_limit o.leaves),
      rw jump_point (allowed_point kept g.target (upto_limit o.enters)),
    ),
    λ (xs, o, a, b). jump_opens o a b,
  )

-- ---- runs

module _ (N e D : ℕ) (pos : 0 < N) (slight : 2 * e < D) where
  -- a low that gives way and a limit that gives way, with a value between them
  low_within : (x low limit : ℕ) → low * D * N ≤ x * D + e * N → x * D ≤ (limit * D + e) * N → low ≤ limit
  low_within x low limit a b =
      let sum : low * D * N ≤ (limit * D + 2 * e) * N = omega arith in
      let each_part : low * D ≤ limit * D + 2 * e = le_of_mul-le-mul_right sum pos in
      let less : low * D < suc limit * D = omega arith in
      let below = lt_of_mul-lt-mul_right D less in
      omega arith

  lows_within : {v lows limits : List ℕ} → AtLeast N e D v lows → Upto N e D v limits → Each (λ low limit. low ≤ limit) lows limits
  lows_within Each.none Each.none = Each.none
  lows_within (Each.more {x = x} {c = low} a rest) (Each.more {c = limit} b bs) = Each.more (low_within x low limit a b) (lows_within rest bs)

  least_reset : (bs : List Bool) {v lows : List ℕ} → AtLeast N e D v lows → AtLeast N e D (reset_values bs v) (reset_values bs lows)
  least_reset bs Each.none = Each.none
  least_reset [] (Each.more a rest) = Each.more a rest
  least_reset (true ∷ bs) (Each.more a rest) = let l : 0 * D * N ≤ 0 * D + e * N = omega arith in Each.more l (least_reset bs rest)
  least_reset (false ∷ bs) (Each.more a rest) = Each.more a (least_reset bs rest)

  taken_opens : {m : Automaton} {g : Edge} {l : ℕ} {v : List ℕ} → Opens m N e D g l v → OpensAlone m g
  taken_opens {m} {g} o =
      record { leaves = rw o.here (lows_within o.low o.stays); enters = lows_within (least_reset g.reset o.low) o.enters }

  -- each edge of a run can open alone
  pub run_opens : {m : Automaton} {gs : List Edge} {l t : ℕ} {v : List ℕ} → Run m N e D gs l v t → (g : Edge) → Memᴰ g gs → OpensAlone m g
  run_opens (Run.begin b) h i = elim i [ ]
  run_opens (Run.step r d g o) h (Memᴰ.head q) = rw q (taken_opens o)
  run_opens (Run.step r d g o) h (Memᴰ.tail i) = run_opens r h i
