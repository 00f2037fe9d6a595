-- `Corners::touches` meets its contract.
use Prim.Native.Nat.{◌<◌}
use borrow.Author.Rules.{rules}
use borrow.Author.Tests.{tests}
use Rattle.std.proofs.lemmas.Iterator.{YieldsList-from_slice, cases_from_any}
use Rattle.std.proofs.lemmas.Iterator.Adapters.{serves_from_places}
use Rattle.limits.specs.Limits.{point_count}
use Rattle.sheet_rules.proofs.Notes.{slots_of, slots_below, Flag, touched_any}
use Rattle.sheet_rules.proofs.Corners.touches.Goals as goal

pub any-requires-clause-callable : goal.any-requires-clause-callable
any-requires-clause-callable c =
    serves_from_places (YieldsList-from_slice (slots_of c.args.self.now.slots.now c.args.i) (search rules))
    (λ x q k. search (rules, tests))
    (λ x k l e. let h : x.now < point_count = rw e (slots_below c.args.self.now.points c.args.i c.requires.below k x.now l) in search rules)

pub returns : goal.returns
returns c =
    let a = c.args in
    let flag = Flag c.args.self.now.points c.requires.flags a.i c.requires.below in
    touched_any c.args.self.now.points c.requires.flags a.i c.requires.below _
    (cases_from_any _ _ _ flag (λ v. flag v → ⊥) c.any.ensures.ran (YieldsList-from_slice (slots_of a.self.now.slots.now a.i) (search rules))
    (λ x q k. search (rules, tests)) (λ x q k. search (rules, tests)))
