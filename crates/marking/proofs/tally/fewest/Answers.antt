-- `marking::tally::fewest` meets its contract. The invariant: the least distance of a goal among the states passed.
use Prim.Native.Nat.{ℕ, ◌+◌, ◌/◌}
use mathlib.Core.Path.{◌≡◌, refl, sym, ap, subst, ◌∙◌}
use mathlib.Core.Bool.{Bool, true, false, not, true≢false}
use native.Mathlib.Omega.{arith}
use lib.ListN.{length, get_or}
use lib.Dec.{eqb}
use borrow.Author.Tests.{eqb-true, eq-eqb, ne_eqb}
use Rattle.std.specs.Prelude.{Option, None, Some}
use Rattle.std.specs.Option.{option_eq}
use Rattle.search.specs.Lowest.{LeastDistance, lower_distance}
use Rattle.search.proofs.Lowest.{least_none, least_skip, least_more}
use Rattle.marking.proofs.LeastDistance.{least_fewest, least_below}
use Rattle.marking.proofs.tally.fewest.Goals as goal
use Rattle.marking.proofs.tally.fewest.Goals.{then-ne+then-kind-p-eq1, else-ne, else-ne-via-then-ne+else-kind-p-eq1, else-ne-via-else-ne}

pub loop-p-init : goal.loop-p-init
loop-p-init c = least_none (λ y. eqb (get_or c.args.kind.now (y / c.args.regions) 0) 1) (λ y. get_or c.args.distance.now y 0) 0 (λ p l g. absurd (omega arith))

-- where `!=` says no
unmoved : (x y : Option ℕ) → not (option_eq eqb x y) ≡ false → x ≡ y
unmoved None None h = refl
unmoved None (Some b) h = absurd (true≢false h)
unmoved (Some a) None h = absurd (true≢false h)
unmoved (Some a) (Some b) h = ap Some (eqb-true a b (by (eqb a b) h))
  where
    by : (t : Bool) → not t ≡ false → t ≡ true
    by true e = refl
    by false e = absurd (true≢false e)

-- a state that would not be the nearest changes nothing, goal or not
least_unmoved : (goal : ℕ → Bool) (f : ℕ → ℕ) (i : ℕ) {best : Option ℕ} → lower_distance best (f i) ≡ best → LeastDistance goal f i best
    → LeastDistance goal f (i + 1) best
least_unmoved goal f i {best} z h = by (goal i) refl
  where
    by : (b : Bool) → goal i ≡ b → LeastDistance goal f (i + 1) best
    by true e = subst (LeastDistance goal f (i + 1)) z (least_more goal f i e h)
    by false e = least_skip goal f i e h

pub loop-p-preserved : goal.loop-p-preserved
loop-p-preserved c =
    let a = c.args in
    let l = c.loop-p in
    let forbidden : ℕ → Bool = λ y. eqb (get_or a.kind.now (y / a.regions) 0) 1 in
    let level : ℕ → ℕ = λ y. get_or a.distance.now y 0 in
    let next = c.lower_distance-next.ensures in
    elim c.if-ne.branch [
      | then-ne+then-kind-p-eq1 w ↦ rw (w.best-is, next) (least_more forbidden level l.p (eq-eqb (get_or a.kind.now (l.p / a.regions) 0) 1 w.if-kind-p-eq1.true) l.invariant)
      | else-ne w ↦ rw w.best-is (elim w.else-ne.branch [
        | else-ne-via-then-ne+else-kind-p-eq1 v ↦ least_skip forbidden level l.p (ne_eqb (get_or a.kind.now (l.p / a.regions) 0) 1 v.if-kind-p-eq1.false) l.invariant
        | else-ne-via-else-ne v ↦ least_unmoved forbidden level l.p (sym next ∙ unmoved _ _ (sym c.ne.ensures ∙ v.if-ne.false)) l.invariant
      ])
    ]

pub returns : goal.returns
returns c =
    let a = c.args in
    let l = c.loop-p in
    let e : l.p ≡ length a.distance.now = omega arith in
    record {
      value = λ Y L D K. least_fewest Y L a.regions a.distance.now a.kind.now D K (rw e at l.invariant);
      below = λ Y L D K. least_below Y L a.regions a.distance.now a.kind.now D K (rw e at l.invariant);
    }
