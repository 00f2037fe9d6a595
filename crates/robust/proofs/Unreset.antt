-- The second theorem needs the rule on resets: a plan with a closed walk that resets no clock and a passing trail, and no run to its forbidden
-- location at drift 1/3.
use mathlib.Core.Path.{◌≡◌, refl}
use mathlib.Core.List.{List, [], ◌∷◌, Memᴰ}
use mathlib.Core.Bool.{true, false, false≢true}
use Prim.Native.Nat.{ℕ, ◌+◌, ◌*◌, ◌≤◌, ◌<◌}
use native.Mathlib.Omega.{arith}
use borrow.Author.Tests.{eqb-true}
use Rattle.theory.specs.Lists.{same}
use Rattle.theory.specs.Pointwise.{Each}
use Rattle.theory.specs.Automaton.{Automaton, Edge, Capped, Upto, AtLeast, elapse, reset_values, Opens, Run}
use Rattle.theory.specs.Region.{regions, lawful, fits, attains, corners, has_corner, face, shares}
use Rattle.theory.specs.RegionGraph.{allowed, guard_holds}
use Rattle.theory.specs.Labels.{opens, walks, walk_end, closes}
use Rattle.theory.specs.Replay.{Move, target, move_replays, replays, replay_end, passes}
use Rattle.theory.specs.StateGraph.{Within, region_count, location_of, region_of, same_region, index_in, number_of, allowed_state, state_at, time_from, jump_from, step_from, beside, system_of, labelled_of}
use Rattle.theory.proofs.Below.{ltb↔}
use Rattle.theory.proofs.Lists.{every_law}
use Rattle.robust.specs.Robust.{OpensAlone, EdgeWalk, LoopsReset, Fragile}
use Rattle.robust.specs.Plans.{stuck_edge1, stuck_plan, stuck_trail}

stuck_passes : passes (labelled_of stuck_plan 3) stuck_trail ≡ true
unfolding stuck_trail passes replays replay_end move_replays target closes walks walk_end system_of labelled_of opens step_from time_from jump_from state_at beside allowed_state number_of index_in same_region region_of location_of region_count regions allowed guard_holds lawful fits attains face shares corners has_corner same
stuck_passes = refl

stuck_within : Within stuck_plan 3
stuck_within = record { start = omega arith; targets = (every_law (λ g. ltb↔ g.target 3) stuck_plan.edges).0 refl }

stuck_capped : Capped stuck_plan
stuck_capped = record { limits = λ l. Each.more {x = 1} {c = 1} (omega arith) Each.none }

-- its low, 0, is within every limit
stuck_opens : OpensAlone stuck_plan stuck_edge1
stuck_opens = record { leaves = Each.more {x = 0} {c = 1} (omega arith) Each.none; enters = Each.more {x = 0} {c = 1} (omega arith) Each.none }

-- it is refused
pub stuck_refused : LoopsReset stuck_plan → ⊥
stuck_refused ok =
    false≢true
    (ok.resets 0 (omega arith) 1 stuck_edge1 [] (EdgeWalk.move stuck_edge1 (Memᴰ.tail (Memᴰ.head refl)) refl stuck_opens EdgeWalk.stop))

-- ---- at drift 1/3 the value in location 1 is at least 2/3

data Late (N : ℕ) : ℕ → List ℕ → Type 0 where
  at₀ : {v : List ℕ} → Late N 0 v
  at₁ : {x : ℕ} → 2 * N ≤ 3 * x → Late N 1 (x ∷ [])

late₀ : {N : ℕ} {v : List ℕ} → AtLeast N 1 3 v (1 ∷ []) → Late N 1 (reset_values (false ∷ []) v)
late₀ {N} (Each.more {x = x} h Each.none) = let l : 2 * N ≤ 3 * x = omega arith in Late.at₁ l

late₁ : {N l : ℕ} {v : List ℕ} (d : ℕ) → Late N l v → 1 ≡ l → Late N 1 (reset_values (false ∷ []) (elapse d v))
late₁ d Late.at₀ e = absurd (omega arith)
late₁ {N} d (Late.at₁ {x = x} h) e = let l : 2 * N ≤ 3 * (x + d) = omega arith in Late.at₁ l

late₂ : {N l : ℕ} {v : List ℕ} (d : ℕ) → 0 < N → Late N l v → 1 ≡ l → Upto N 1 3 (elapse d v) (0 ∷ []) → ⊥
late₂ d pos Late.at₀ e h = omega arith
late₂ d pos (Late.at₁ i) e (Each.more h hs) = omega arith

onward : {N l : ℕ} {v : List ℕ} (d : ℕ) (g : Edge) → 0 < N → Late N l v → Opens stuck_plan N 1 3 g l (elapse d v) → Memᴰ g stuck_plan.edges
    → Late N g.target (reset_values g.reset (elapse d v))
onward d g pos t o (Memᴰ.head e) = rw e (late₀ (rw e at o.low))
onward d g pos t o (Memᴰ.tail (Memᴰ.head e)) = rw e (late₁ d t (rw e at o.here))
onward d g pos t o (Memᴰ.tail (Memᴰ.tail (Memᴰ.head e))) = absurd (late₂ d pos t (rw e at o.here) (rw e at o.high))
onward d g pos t o (Memᴰ.tail (Memᴰ.tail (Memᴰ.tail i))) = elim i [ ]

late : {N l t : ℕ} {gs : List Edge} {v : List ℕ} → 0 < N → Run stuck_plan N 1 3 gs l v t → Late N l v
late pos (Run.begin h) = Late.at₀
late pos (Run.step r d g o) = onward d g pos (late pos r) o o.drawn

not_two : {N l : ℕ} {v : List ℕ} → Late N l v → l ≡ 2 → ⊥
not_two Late.at₀ e = omega arith
not_two (Late.at₁ h) e = omega arith

pub stuck_not_fragile : Fragile stuck_plan → ⊥
stuck_not_fragile harm =
    let (N, pos, gs, l, v, t, r, x) = harm.enters_some 1 3 (omega arith) (omega arith) in
    not_two (late pos r) (eqb-true l 2 x)

-- So a passing trail alone does not show that every drift does harm.
pub needs_resets : ((m : Automaton) (locations : ℕ) → Within m locations → Capped m
    → (ms : List Move) → passes (labelled_of m locations) ms ≡ true → Fragile m) → ⊥
needs_resets f = stuck_not_fragile (f stuck_plan 3 stuck_within stuck_capped stuck_trail stuck_passes)
