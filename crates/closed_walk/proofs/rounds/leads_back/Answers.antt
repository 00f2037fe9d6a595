-- `closed_walk::rounds::leads_back` meets its contract. The invariant: no node before place i has a step to q.
use mathlib.Core.Bool.{true≢false}
use mathlib.Core.Path.{refl, sym, ◌∙◌}
use native.Mathlib.Omega.{arith}
use Rattle.search.proofs.Queue.{fits_le}
use Rattle.search.proofs.Rows.{from_more}
use Rattle.closed_walk.proofs.rounds.leads_back.Goals as goal

pub loop-i-init : goal.loop-i-init
loop-i-init c = λ j a b. absurd (omega arith)

pub offset_bounds-reached-i : goal.offset_bounds-reached-i
offset_bounds-reached-i c = let F = c.requires.1 in omega (arith, fits_le F, F.limit, F.same)

pub bounds-reached-i : goal.bounds-reached-i
bounds-reached-i c = let F = c.requires.1 in omega (arith, fits_le F, F.limit, F.same)

pub leads_to-requires : goal.leads_to-requires
leads_to-requires c = rw c.from.ensures (omega (arith, c.requires.1.below c.loop-i.i (omega arith), c.requires.0))

pub returns-then-leads_to : goal.returns-then-leads_to
returns-then-leads_to c =
    (λ _. record { place = c.loop-i.i; after = omega arith; before = omega arith; is = rw c.from.ensures at (c.leads_to.ensures.0 c.if-leads_to.true) }, λ _. refl)

pub loop-i-preserved : goal.loop-i-preserved
loop-i-preserved c =
    from_more c.loop-i.invariant (λ A. true≢false (sym (c.leads_to.ensures.1 (rw c.from.ensures A)) ∙ c.if-leads_to.false))

pub returns : goal.returns
returns c =
    (λ e. absurd (true≢false (sym e)), λ t. absurd (c.loop-i.invariant t.place t.after (omega (arith, t.before)) t.is))
