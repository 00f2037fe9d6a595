-- `Location::steps_keep` meets its contract.
use Prim.Native.Nat.{ℕ, ◌<◌}
use native.Mathlib.Omega.{arith}
use borrow.Author.Rules.{rules}
use borrow.Author.Tests.{tests}
use lib.ListN.{length, get_or}
use Rattle.std.proofs.lemmas.Iterator.{YieldsList-from_slice, cases_from_all}
use Rattle.std.proofs.lemmas.Iterator.Adapters.{serves_from_places}
use Rattle.theory.proofs.Rows.{rows_length}
use Rattle.sheet_rules.specs.Rules.{StepKeeps}
use Rattle.sheet_rules.proofs.Keeps.{row, row_below, row_all}
use Rattle.sheet_rules.proofs.Location.steps_keep.Goals as goal

pub slice_bounds-row-end : goal.slice_bounds-row-end
slice_bounds-row-end c = let h = rows_length c.args.self.now.asked.sizes.flow c.args.p c.requires in omega arith

pub all-requires-clause-callable : goal.all-requires-clause-callable
all-requires-clause-callable c =
    serves_from_places (YieldsList-from_slice (row c.args.self.now.first.now c.args.self.now.targets.now c.args.p) (search rules))
    (λ x q k. search (rules, tests))
    (λ x k l e. let h : x.now < length c.args.self.now.sheet.now = rw e (row_below c.args.self.now.asked.sizes.flow c.args.p c.requires k x.now l) in search rules)

pub returns : goal.returns
returns c =
    let a = c.args in
    let s = a.self.now in
    let keeps = λ (q : ℕ). StepKeeps a.inside a.bound (get_or s.sheet.now q 0) in
    row_all c.args.self.now.asked.sizes.flow a.p c.requires _ keeps (λ q. keeps q → ⊥) (λ q n. n)
    (cases_from_all _ _ _ keeps (λ q. keeps q → ⊥) c.all.ensures.ran (YieldsList-from_slice (row s.first.now s.targets.now a.p) (search rules))
    (λ x q k. search (rules, tests)) (λ x q k. search (rules, tests)))
