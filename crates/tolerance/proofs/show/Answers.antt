-- What two prints write is what they write one after the other, or a front of it where one fails.
use Rattle.std.proofs.Common.{codes, Ok}
use Rattle.printing.specs.Text.{line_text}
use Rattle.printing.proofs.Writes.{writes_then, cut, failed, same_text}
use Rattle.tolerance.specs.Margin.{margin_text}
use Rattle.tolerance.proofs.show.Goals as goal

pub returns-in_err-line-in-Ok : goal.returns-in_err-line-in-Ok
returns-in_err-line-in-Ok g c =
    let w = c.in-Ok in
    let told = cut _ _ (line_text (codes "states ") w.bound.states) (line_text (codes "margin ") w.bound.margin) c.in_err-line-in-Ok.ensures in
    same_text margin_text c.args.found (Ok w.bound) w.is _ _ c.from_residual.result (failed _ _ _ c.from_residual.result c.from_residual.ensures.0 told)

pub returns-in_ok-line-in-Ok : goal.returns-in_ok-line-in-Ok
returns-in_ok-line-in-Ok g c =
    let w = c.in-Ok in
    let r = c.line-in-Ok.result in
    let told = writes_then _ _ _ (line_text (codes "states ") w.bound.states) (line_text (codes "margin ") w.bound.margin) r c.in_ok-line-in-Ok.ensures c.line-in-Ok.ensures in
    same_text margin_text c.args.found (Ok w.bound) w.is _ _ r told
