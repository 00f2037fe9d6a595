-- `search::row::Steps::leads_to` meets its contract.
use mathlib.Core.Path.{◌≡◌, sym, ◌∙◌}
use lib.Dec.{eqb}
use Rattle.std.proofs.Common.{rules, tests}
use Rattle.std.proofs.lemmas.Iterator.{YieldsList-from_slice}
use Rattle.std.proofs.lemmas.Iterator.Search.{any_from_yields_List}
use Rattle.std.specs.List.{list_any}
use Rattle.search.specs.Queue.{row_of}
use Rattle.search.proofs.Rows.{row_in, row_out, listed_any, any_listed}
use Rattle.search.proofs.row.Steps.leads_to.Goals as goal

pub returns : goal.returns
returns c =
    let a = c.args in
    let e = any_from_yields_List (λ t. eqb t a.q) _ _ c.any.result c.any.ensures.ran (YieldsList-from_slice c.row.result.now cc) (λ x b q k. search (rules, tests)) in
    let d : c.any.result ≡ list_any (λ t. eqb t a.q) (row_of a.self.first.now a.self.targets.now a.p) = rw (← c.row.ensures) e in
    (λ t. row_in a.self.rows c.requires a.q (listed_any _ a.q (sym d ∙ t)), λ A. d ∙ any_listed _ a.q (row_out a.self.rows c.requires a.q A))
