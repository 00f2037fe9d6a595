-- At a system that the tables tell of: the flags are those of its shortest walks into a forbidden location, and the walk along them is our trail.
use mathlib.Core.Path.{◌≡◌, sym, ◌∙◌}
use mathlib.Core.Bool.{Bool}
use mathlib.Core.List.{List}
use Prim.Native.Nat.{ℕ, ◌+◌, ◌/◌, ◌<◌}
use native.Mathlib.Omega.{arith}
use lib.ListN.{length, get_or, take}
use borrow.Author.Tests.{eqb-true, eq-eqb}
use Rattle.theory.specs.Walk.{dist, greedy}
use Rattle.theory.specs.System.{System}
use Rattle.theory.specs.Marked.{step}
use Rattle.theory.specs.Trail.{trail_steps, trail_states}
use Rattle.theory.proofs.Levels.{far_inside}
use Rattle.search.specs.Flags.{Aims}
use Rattle.search.proofs.Rounds.{upto_all}
use Rattle.marking.specs.Tables.{RegionTables, Successor}
use Rattle.marking.proofs.Steps.{steps_agree}
use Rattle.trail_states.specs.Told.{Told}

module _ {Y : System} {steps start R : ℕ} {first targets shapes heights kind distance : List ℕ}
    (K : Told Y steps start R first targets shapes heights kind distance) where
  steps_dist : steps ≡ dist Y.size (step Y) Y.forbidden Y.start
  unfolding trail_steps
  steps_dist = K.fewest

  pub told_aims : {touch : Bool} → RegionTables touch (length distance) R shapes heights → steps < length distance
      → Aims (Successor R first targets shapes heights) (λ z. get_or kind (z / R) 0 ≡ 1) start (steps + 1) distance (step Y) Y.forbidden
  told_aims Z short =
      let G = steps_agree Y K.laws (rw (← K.size) at Z) K.tables in
      record {
        agrees = rw (← K.size) G;
        goals = λ p h.
            let e = K.forbids p (far_inside Y.size (step Y) G.inside start G.begins p (rw (← K.size) at h)) in
            (λ k. e ∙ eq-eqb (get_or kind (p / R) 0) 1 k, λ t. eqb-true (get_or kind (p / R) 0) 1 (sym e ∙ t));
        last = rw (← K.size, ← K.tables.starts) (omega (arith, steps_dist));
        short = rw (← K.size, ← K.tables.starts) (omega (arith, steps_dist, K.size));
        bound = Y.size;
        beyond = omega (arith, K.size);
        upto = rw (← K.size, ← K.tables.starts) (upto_all K.distances.is);
      }

  -- the walk that is found
  pub trail_is : {n : ℕ} (path : List ℕ) → n ≡ length distance → take steps path ≡ greedy n (step Y) Y.forbidden steps start
      → take steps path ≡ trail_states Y
  unfolding trail_states
  trail_is path e h = h ∙ rw (e, ← K.size, ← K.tables.starts, K.fewest)
