-- Exact runs on whole times stay in every set of states that has the start and is closed under time and jump: a whole point is a region with all
-- ranks 0, and a unit of waiting is two time steps. With rounding, such a set without a forbidden location covers every slight drift.
use mathlib.Core.Path.{◌≡◌, refl, ap, ap₂, ◌∙◌}
use mathlib.Core.List.{List, [], ◌∷◌}
use mathlib.Core.Bool.{Bool, true, false}
use Prim.Native.Nat.{ℕ, zero, suc, ◌+◌, ◌*◌, ◌≤◌}
use native.Mathlib.Nat.{add-zero}
use native.Mathlib.Omega.{arith}
use lib.ListN.{replicate}
use Rattle.theory.specs.Pointwise.{Each}
use Rattle.theory.specs.Automaton.{Automaton, Edge, Capped, Upto, AtLeast, elapse, reset_values, Opens, Run, Exact, Steady}
use Rattle.theory.specs.Region.{Region, clock, Fits, Attains, has_rank, top_rank, rise_ranks, carry, successor, reset_clocks, renumber, close_up}
use Rattle.theory.specs.RegionGraph.{Allowed, Flow, FlowClosed, point}
use Rattle.theory.proofs.Pointwise.{each_chain}
use Rattle.theory.proofs.Rounding.{rounded}

-- ---- a unit of time from a whole point

-- the region between the whole values v and those a unit later
abbrev pub between : List ℕ → Region
between [] = []
between (x ∷ v) = clock x 1 ∷ between v

rise_point : (v : List ℕ) → rise_ranks (point v) ≡ between v
rise_point [] = refl
rise_point (x ∷ v) = ap (λ u. clock x 1 ∷ u) (rise_point v)

pub successor-point : (v : List ℕ) → successor (point v) ≡ between v
successor-point [] = refl
successor-point (x ∷ v) = rise_point (x ∷ v)

no_rank_0 : (v : List ℕ) → has_rank (between v) 0 ≡ false
no_rank_0 [] = refl
no_rank_0 (x ∷ v) = no_rank_0 v

top_between : (v : List ℕ) → top_rank (between v) ≤ 1
top_between [] = omega arith
top_between (x ∷ v) = omega (arith, top_between v)

carry-between : (v : List ℕ) → carry 1 (between v) ≡ point (elapse 1 v)
carry-between [] = refl
carry-between (x ∷ v) = ap (λ u. clock (x + 1) 0 ∷ u) (carry-between v)

pub successor-between : (v : List ℕ) → successor (between v) ≡ point (elapse 1 v)
successor-between [] = refl
successor-between (x ∷ v) =
    let one : top_rank (between (x ∷ v)) ≡ 1 = omega (arith, top_between v) in
    rw (no_rank_0 v) (ap (λ t. carry t (between (x ∷ v))) one ∙ carry-between (x ∷ v))

-- ---- a jump from a whole point ends in one

renumber-point : (f : ℕ → ℕ) → f 0 ≡ 0 → (v : List ℕ) → renumber f (point v) ≡ point v
renumber-point f e [] = refl
renumber-point f e (x ∷ v) = ap₂ (λ r u. clock x r ∷ u) e (renumber-point f e v)

reset_point : (bs : List Bool) (v : List ℕ) → reset_clocks bs (point v) ≡ point (reset_values bs v)
reset_point bs [] = refl
reset_point [] (x ∷ v) = refl
reset_point (true ∷ bs) (x ∷ v) = ap (λ u. clock 0 0 ∷ u) (reset_point bs v)
reset_point (false ∷ bs) (x ∷ v) = ap (λ u. clock x 0 ∷ u) (reset_point bs v)

pub jump_point : (bs : List Bool) (v : List ℕ) → close_up (reset_clocks bs (point v)) ≡ point (reset_values bs v)
jump_point bs v = rw reset_point (renumber-point _ refl (reset_values bs v))

-- ---- exact limits on values are limits on their point, and those on values a unit later hold of the region between

pub fits_point : {v cs : List ℕ} → Upto 1 0 1 v cs → Fits (point v) cs
fits_point Each.none = Each.none
fits_point (Each.more {x = x} {c = c} h hs) = let l : x ≤ c = omega arith in Each.more l (fits_point hs)

pub attains_point : {v cs : List ℕ} → AtLeast 1 0 1 v cs → Attains (point v) cs
attains_point Each.none = Each.none
attains_point (Each.more {x = x} {c = c} h hs) = let l : c ≤ x = omega arith in Each.more l (attains_point hs)

-- and back
pub point_fits : (v : List ℕ) {cs : List ℕ} → Fits (point v) cs → Upto 1 0 1 v cs
point_fits [] Each.none = Each.none
point_fits (x ∷ v) (Each.more {c = c} h hs) = let l : x * 1 ≤ (c * 1 + 0) * 1 = omega arith in Each.more l (point_fits v hs)

pub point_attains : (v : List ℕ) {cs : List ℕ} → Attains (point v) cs → AtLeast 1 0 1 v cs
point_attains [] Each.none = Each.none
point_attains (x ∷ v) (Each.more {c = c} h hs) = let l : c * 1 * 1 ≤ x * 1 + 0 * 1 = omega arith in Each.more l (point_attains v hs)

fits_between : (v : List ℕ) {cs : List ℕ} → Upto 1 0 1 (elapse 1 v) cs → Fits (between v) cs
fits_between [] Each.none = Each.none
fits_between (x ∷ v) (Each.more {c = c} h hs) = let l : x + 1 ≤ c = omega arith in Each.more l (fits_between v hs)

pub upto_earlier : (d : ℕ) (v : List ℕ) {cs : List ℕ} → Upto 1 0 1 (elapse d v) cs → Upto 1 0 1 v cs
upto_earlier d [] Each.none = Each.none
upto_earlier d (x ∷ v) (Each.more {c = c} h hs) = let l : x * 1 ≤ (c * 1 + 0) * 1 = omega arith in Each.more l (upto_earlier d v hs)

-- ---- both are allowed: their ranks have no gap, and the ceiling holds where the stay limits do

ranked_point : (v : List ℕ) → top_rank (point v) ≡ 0
ranked_point [] = refl
ranked_point (x ∷ v) = omega (arith, ranked_point v)

ranked_between : (v : List ℕ) (r : ℕ) → 1 ≤ r → r ≤ top_rank (between v) → has_rank (between v) r ≡ true
ranked_between [] r h k = absurd (omega arith)
ranked_between (x ∷ v) r h k = let e : r ≡ 1 = omega (arith, top_between v) in rw e

pub under_ceiling : {m : Automaton} → Capped m → (l : ℕ) {xs : Region} → Fits xs (m.invariant l) → Fits xs (replicate m.clocks m.ceiling)
under_ceiling kept l f = each_chain (λ x c d a b. omega arith) f (kept.limits l)

pub allowed_point : {m : Automaton} → Capped m → (l : ℕ) {v : List ℕ} → Upto 1 0 1 v (m.invariant l) → Allowed m l (point v)
allowed_point kept l {v} h =
    record {
      region = record { capped = under_ceiling kept l (fits_point h); ranked = λ r a b. absurd (omega (arith, ranked_point v)) };
      stays = fits_point h;
    }

pub allowed_between : {m : Automaton} → Capped m → (l : ℕ) (v : List ℕ) → Upto 1 0 1 (elapse 1 v) (m.invariant l) → Allowed m l (between v)
allowed_between kept l v h =
    record {
      region = record { capped = under_ceiling kept l (fits_between v h); ranked = ranked_between v };
      stays = fits_between v h;
    }

-- ---- runs

pub elapse_zero : (v : List ℕ) → elapse 0 v ≡ v
elapse_zero [] = refl
elapse_zero (x ∷ v) = ap₂ ◌∷◌ (add-zero x) (elapse_zero v)

pub elapse-suc : (d : ℕ) (v : List ℕ) → elapse (suc d) v ≡ elapse 1 (elapse d v)
elapse-suc d [] = refl
elapse-suc d (x ∷ v) = let e : x + suc d ≡ x + d + 1 = omega arith in ap₂ ◌∷◌ e (elapse-suc d v)

module _ {m : Automaton} {P : ℕ → Region → Type 0} (kept : Capped m) (c : FlowClosed m P) where
  -- one unit, and then any number of units
  unit : (l : ℕ) (v : List ℕ) → P l (point v) → Upto 1 0 1 v (m.invariant l) → Upto 1 0 1 (elapse 1 v) (m.invariant l) → P l (point (elapse 1 v))
  unit l v p h₀ h₁ =
      let a₀ = allowed_point kept l h₀ in
      let a₁ = allowed_between kept l v h₁ in
      let a₂ = allowed_point kept l h₁ in
      let half : P l (between v) = rw successor-point at (c.flow l (point v) l _ p (Flow.time a₀ (rw successor-point a₁))) in
      rw successor-between at (c.flow l (between v) l _ half (Flow.time a₁ (rw successor-between a₂)))

  pub point_waits : (l d : ℕ) (v : List ℕ) → P l (point v) → Upto 1 0 1 (elapse d v) (m.invariant l) → P l (point (elapse d v))
  point_waits l zero v p h = rw elapse_zero p
  point_waits l (suc d) v p h =
      let h₁ : Upto 1 0 1 (elapse 1 (elapse d v)) (m.invariant l) = rw elapse-suc at h in
      let h₀ = upto_earlier 1 (elapse d v) h₁ in
      rw elapse-suc (unit l (elapse d v) (point_waits l d v p h₀) h₀ h₁)

  pub point_jumps : (l : ℕ) (v : List ℕ) (g : Edge) → P l (point v) → Opens m 1 0 1 g l v → P g.target (point (reset_values g.reset v))
  point_jumps l v g p o =
      rw jump_point at (c.flow l (point v) g.target _ p
      (Flow.jump g record { drawn = o.drawn; here = o.here; low = attains_point o.low; high = fits_point o.high }
      (allowed_point kept l o.stays)
      (rw jump_point (allowed_point kept g.target o.enters))))

  -- The set holds the whole point of each entry of an exact run.
  pub exact_stays : {gs : List Edge} {l t : ℕ} {v : List ℕ} → Exact m gs l v t → P l (point v)
  exact_stays (Run.begin h) = c.start
  exact_stays (Run.step {l = l} {v = v} r d g o) = point_jumps l (elapse d v) g (point_waits l d v (exact_stays r) o.stays) o

  -- Where such a set has no state of a forbidden location, no run of at most K jumps with (K + 1) * e < D enters one.
  pub steady : ((l : ℕ) (xs : Region) → P l xs → m.forbidden l ≡ false) → Steady m
  steady clean =
      record {
        enters_none = λ K e D N small pos gs l v t h r.
            let p = rounded K pos small h r in clean l (point p.0) (exact_stays p.2);
      }
