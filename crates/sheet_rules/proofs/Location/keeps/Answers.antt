-- `Location::keeps` meets its contract.
use Prim.Native.Nat.{ℕ}
use mathlib.Core.Path.{refl}
use native.Mathlib.Nat.{sub-zero}
use borrow.Author.Rules.{rules}
use borrow.Author.Tests.{tests}
use Rattle.std.proofs.lemmas.Iterator.{YieldsList-from_range, cases_from_all}
use Rattle.sheet_rules.specs.Rules.{StateKeeps}
use Rattle.sheet_rules.proofs.Keeps.{range_all}
use Rattle.sheet_rules.proofs.Location.keeps.Goals as goal

pub returns : goal.returns
returns c =
    let a = c.args in
    let s = a.self.now in
    let keeps = λ (i : ℕ). StateKeeps s.sheet.now s.first.now s.targets.now s.shapes.now s.base s.regions a.forbidden i in
    range_all keeps (λ i. keeps i → ⊥) (λ i n. n) s.regions _
    (cases_from_all _ _ _ keeps (λ i. keeps i → ⊥) c.all.ensures.ran (YieldsList-from_range 0 s.regions s.regions refl (sub-zero _))
    (λ x q k. search (rules, tests)) (λ x q k. search (rules, tests)))
