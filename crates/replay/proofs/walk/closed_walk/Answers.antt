-- The count, then the walk from its part of the bytes (`Walks`), then whether it closes.
use mathlib.Core.Path.{refl, sym}
use Rattle.std.proofs.lemmas.Result.{err_from_is_err_and}
use Rattle.evidence_number.proofs.Reading.{value_within}
use Rattle.replay.proofs.Walks.{closed_refused, closed_closes, closed_open}
use Rattle.replay.proofs.walk.closed_walk.Goals as goal

pub walk_part-part-requires : goal.walk_part-part-requires
walk_part-part-requires c = (value_within _ _ _ _ (sym c.in-Value.ensures)).1

pub returns-in_err-s : goal.returns-in_err-s
returns-in_err-s c =
    let p = err_from_is_err_and c.from_residual.result c.from_residual.ensures.1 in
    rw (p.1, p.2)
    (closed_refused _ _ _ _ (sym c.in-Value.ensures) _ c.walk_part-part.ensures _ _ _ c.in_err-s.ensures c.if-count-eq0.false _ refl)

pub returns-then-s-q : goal.returns-then-s-q
returns-then-s-q c =
    closed_open _ _ _ _ (sym c.in-Value.ensures) _ c.walk_part-part.ensures _ _ _ c.in_ok-s.ensures c.if-count-eq0.false _ _ refl c.if-s-q.true

pub returns : goal.returns
returns c =
    closed_closes _ _ _ _ (sym c.in-Value.ensures) _ c.walk_part-part.ensures _ _ _ c.in_ok-s.ensures c.if-count-eq0.false _ _ refl c.if-s-q.false
