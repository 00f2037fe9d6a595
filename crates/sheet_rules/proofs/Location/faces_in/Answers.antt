-- `Location::faces_in` meets its contract.
use Prim.Native.Nat.{ℕ, ◌+◌, ◌<◌}
use mathlib.Core.Path.{◌≡◌}
use mathlib.Core.Bool.{true}
use borrow.Author.Rules.{rules}
use borrow.Author.Tests.{tests}
use Rattle.std.proofs.lemmas.Iterator.{YieldsList-from_slice, cases_from_all}
use Rattle.std.proofs.lemmas.Iterator.Adapters.{serves_from_places}
use Rattle.theory.specs.Sheet.{in_of}
use Rattle.shapes.specs.Layout.{rows_in, faces_in}
use Rattle.theory.proofs.Rows.{rows_length}
use Rattle.sheet_rules.proofs.Keeps.{row, row_below, row_all}
use Rattle.sheet_rules.proofs.Location.faces_in.Goals as goal

pub slice_bounds-row-end : goal.slice_bounds-row-end
slice_bounds-row-end c = let h = rows_length c.args.self.now.asked.sizes.face c.args.i c.requires in search rules

pub all-requires-clause-callable : goal.all-requires-clause-callable
all-requires-clause-callable c =
    serves_from_places (YieldsList-from_slice (row (rows_in c.args.self.now.regions c.args.self.now.shapes.now) (faces_in c.args.self.now.regions c.args.self.now.shapes.now) c.args.i) (search rules))
    (λ x q k. search (rules, tests))
    (λ x k l e. let h : x.now < c.args.self.now.regions = rw e (row_below c.args.self.now.asked.sizes.face c.args.i c.requires k x.now l) in search rules)

pub returns : goal.returns
returns c =
    let a = c.args in
    let s = a.self.now in
    let inside = λ (j : ℕ). in_of s.sheet.now (s.base + j) ≡ true in
    row_all c.args.self.now.asked.sizes.face a.i c.requires _ inside (λ j. inside j → ⊥) (λ j n. n)
    (cases_from_all _ _ _ inside (λ j. inside j → ⊥) c.all.ensures.ran (YieldsList-from_slice (row (rows_in s.regions s.shapes.now) (faces_in s.regions s.shapes.now) a.i) (search rules))
    (λ x q k. search (rules, tests)) (λ x q k. search (rules, tests)))
