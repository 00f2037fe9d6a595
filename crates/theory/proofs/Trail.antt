-- There is a trail just if a marked state is forbidden. The states of ours are one, with the fewest steps, and the least of those with as few.
use mathlib.Core.Path.{◌≡◌, refl}
use mathlib.Core.List.{List}
use Prim.Native.Nat.{ℕ, ◌≤◌, ◌<◌}
use lib.ListN.{length}
use lib.Dec.{ltb}
use borrow.Author.Tests.{ltb-true, lt-ltb}
use Rattle.theory.specs.Walk.{Into, Lex}
use Rattle.theory.specs.System.{System, Laws}
use Rattle.theory.specs.Marked.{begin, Unsafe, unsafe, step}
use Rattle.theory.specs.Trail.{Trail, trail_steps, trail_states}
use Rattle.theory.proofs.Below.{bool_ext}
use Rattle.theory.proofs.Walk.{dist_min, dist_below, dist-exact, exact_walk, greedy_walk, greedy-length, greedy_least}
use Rattle.theory.proofs.System.{start_below}
use Rattle.theory.proofs.Marked.{step_inside, marked_on, marked_walk, unsafe_is, is_unsafe}

module _ (Y : System) (L : Laws Y) where
  pub trail_unsafe : (l : List ℕ) → Trail Y l → Unsafe Y
  trail_unsafe l (s, w, e) = (s, marked_on Y L begin w, e)

  pub unsafe_trail : Unsafe Y → (l : List ℕ) × Trail Y l
  unsafe_trail (s, m, e) = let (l, w) = marked_walk Y L m in (l, (s, w, e))

  pub trail_length : length (trail_states Y) ≡ trail_steps Y
  unfolding trail_states
  trail_length = greedy-length Y.size (step Y) Y.forbidden (step_inside Y L) (trail_steps Y) Y.start

  -- where there is a trail
  module _ (l : List ℕ) (t : Trail Y l) where
    into : Into (step Y) Y.forbidden (length l) Y.start
    into = record { path = l; end = t.0; walk = t.1; ends = t.2; size = refl }

    pub trail_steps_below : trail_steps Y < Y.size
    unfolding trail_steps
    trail_steps_below = dist_below Y.size (step Y) Y.forbidden (step_inside Y L) Y.start (length l) into (start_below Y L)

    pub trail_passes : Trail Y (trail_states Y)
    unfolding trail_states trail_steps
    trail_passes =
        greedy_walk Y.size (step Y) Y.forbidden (step_inside Y L) (trail_steps Y) Y.start
        (dist-exact Y.size (step Y) Y.forbidden (step_inside Y L) Y.start trail_steps_below)

    pub trail_fewest : trail_steps Y ≤ length l
    unfolding trail_steps
    trail_fewest = dist_min Y.size (step Y) Y.forbidden (step_inside Y L) Y.start (length l) into (start_below Y L)

    pub trail_least : length l ≡ trail_steps Y → Lex (trail_states Y) l
    unfolding trail_states
    trail_least e = rw (← e) (greedy_least Y.size (step Y) Y.forbidden (step_inside Y L) t.1 t.2)

module _ (Y : System) (L : Laws Y) where
  steps_unsafe : trail_steps Y < Y.size → Unsafe Y
  unfolding trail_steps
  steps_unsafe b =
      let v = exact_walk Y.size (step Y) Y.forbidden (step_inside Y L) (trail_steps Y) Y.start
      (dist-exact Y.size (step Y) Y.forbidden (step_inside Y L) Y.start b) in
      trail_unsafe Y L v.path (v.end, v.walk, v.ends)

  -- our trail has fewer steps than there are states, or there is none
  pub steps_verdict : unsafe Y ≡ ltb (trail_steps Y) Y.size
  steps_verdict =
      bool_ext (unsafe Y) (ltb (trail_steps Y) Y.size)
      (λ u. let (l, t) = unsafe_trail Y L (unsafe_is Y L u) in lt-ltb _ _ (trail_steps_below Y L l t))
      (λ t. is_unsafe Y L (steps_unsafe (ltb-true _ _ t)))
