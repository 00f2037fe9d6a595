-- The least distance of a goal is the count of our trail's steps.
use mathlib.Core.Path.{◌≡◌, sym, ◌∙◌}
use mathlib.Core.Logic.{inl, inr}
use mathlib.Core.List.{List}
use Prim.Native.Nat.{ℕ, ◌+◌, ◌/◌, ◌<◌}
use native.Mathlib.Omega.{arith}
use lib.ListN.{length, get_or}
use lib.Dec.{eqb}
use Rattle.std.specs.Prelude.{Option, unwrap_or, IfSome}
use Rattle.theory.specs.System.{System, Laws}
use Rattle.theory.specs.Trail.{trail_steps}
use Rattle.theory.specs.Marked.{step}
use Rattle.theory.proofs.Levels.{fewest_trail, mark_is}
use Rattle.search.specs.Lowest.{LeastDistance, none_reached, reached_at}
use Rattle.marking.specs.Tables.{Distances, Forbids}

-- at the end, with the kinds of locations for the goal
module _ (Y : System) (L : Laws Y) (R : ℕ) (distance kind : List ℕ) (D : Distances Y distance) (K : Forbids Y R kind) where
  -- a distance is below the number of states
  near : (q d : ℕ) → q < length distance → get_or distance q 0 ≡ d + 1 → d < length distance
  near q d b e =
      let h : q < Y.size = omega (arith, D.long) in
      let m = mark_is Y.size (step Y) Y.start q d (sym (D.is q h) ∙ e) in
      omega (arith, m.0, m.1, D.long)

  pub least_below : {best : Option ℕ} → LeastDistance (λ p. eqb (get_or kind (p / R) 0) 1) (λ p. get_or distance p 0) (length distance) best
      → IfSome best (λ d. d < length distance)
  least_below (none_reached h) = tt
  least_below (reached_at {d} q b g e h) = near q d b e

  pub least_fewest : {best : Option ℕ} → LeastDistance (λ p. eqb (get_or kind (p / R) 0) 1) (λ p. get_or distance p 0) (length distance) best
      → unwrap_or best (length distance) ≡ trail_steps Y
  least_fewest (none_reached h) =
      fewest_trail Y L (λ p. get_or distance p 0) D.is (length distance) (omega (arith, D.long)) (record {
        least = λ p l g z. absurd (omega (arith, h p (omega (arith, D.long)) (sym (K p l) ∙ g)));
        some = inl D.long;
      })
  least_fewest (reached_at {d} q b g e h) =
      fewest_trail Y L (λ p. get_or distance p 0) D.is d (omega (arith, near q d b e, D.long)) (record {
        least = λ p l g z. h p (omega (arith, D.long)) (sym (K p l) ∙ g) z;
        some = let c : q < Y.size = omega (arith, D.long) in inr (q, c, K q c ∙ g, e);
      })
