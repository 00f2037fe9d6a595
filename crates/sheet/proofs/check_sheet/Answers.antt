-- `sheet::check_sheet` meets its contract.
use mathlib.Core.Path.{sym, ◌∙◌}
use borrow.Author.Rules.{rules}
use Rattle.std.proofs.lemmas.Result.{err_from_is_err_and}
use Rattle.graph.specs.Plan.{system_of_model}
use Rattle.sheet.proofs.Models.{read_asked, read_told}
use Rattle.sheet.proofs.Answer.{answer_refused, answer_blank, answer_left, answer_keeps, answer_broken}
use Rattle.sheet.proofs.check_sheet.Goals as goal

pub read_numbers-requires : goal.read_numbers-requires
read_numbers-requires c = read_asked c.requires

pub returns-in_err-end : goal.returns-in_err-end
returns-in_err-end c =
    let p = err_from_is_err_and c.from_residual.result c.from_residual.ensures.1 in
    rw (p.1, p.2) (answer_refused _ _ _ _ (read_told c.requires _ _ _ c.in_err-end.ensures))

pub returns-then-end-bytes : goal.returns-then-end-bytes
returns-then-end-bytes c = answer_left _ _ _ _ _ (read_told c.requires _ _ _ c.in_ok-end.ensures) c.if-end-bytes.true

pub sheet_keeps-requires : goal.sheet_keeps-requires
sheet_keeps-requires c =
    record {
      filled = c.requires.filled;
      long = search rules;
      blank = answer_blank (system_of_model c.args.m) _ _ _ _ (read_told c.requires _ _ _ c.in_ok-end.ensures);
    }

pub returns-then-not-sheet_keeps : goal.returns-then-not-sheet_keeps
returns-then-not-sheet_keeps c =
    answer_broken _ _ _ _ _ (read_told c.requires _ _ _ c.in_ok-end.ensures) c.if-end-bytes.false
    (sym c.sheet_keeps.ensures ∙ c.if-not-sheet_keeps.true)

pub returns : goal.returns
returns c =
    answer_keeps _ _ _ _ _ (read_told c.requires _ _ _ c.in_ok-end.ensures) c.if-end-bytes.false
    (sym c.sheet_keeps.ensures ∙ c.if-not-sheet_keeps.false)
