-- `search::guide::trace` meets its contract. The invariant: p is reached after i steps of the walk.
use mathlib.Core.Path.{◌≡◌, refl, sym, ◌∙◌}
use native.Mathlib.Omega.{arith}
use lib.ListN.{length, take, length-set}
use Rattle.std.proofs.lemmas.List.{take_all}
use Rattle.search.proofs.Follow.{follows_first, follows_next, follows_last}
use Rattle.search.proofs.guide.trace.Goals as goal

pub loop-i-init : goal.loop-i-init
loop-i-init g c = (c.requires.0, refl, follows_first c.requires.2)

pub returns-in_default : goal.returns-in_default
returns-in_default g c =
    let l = c.loop-i in
    let A = follows_next c.requires.2 l.invariant.2 c.in_default.ensures.is (omega arith) (omega (arith, l.invariant.1)) in
    λ r goal T. absurd (omega (arith, (A.along r goal T).node))

pub loop-i-preserved : goal.loop-i-preserved
loop-i-preserved g c =
    let l = c.loop-i in
    let H = c.in-Some.ensures in
    (H.below, simp length-set l.invariant.1, follows_next c.requires.2 l.invariant.2 H.is (omega arith) (omega (arith, l.invariant.1)))

pub returns : goal.returns
returns g c =
    let l = c.loop-i in
    let e : take (length c.args.path.now) l.path ≡ l.path = take_all (length c.args.path.now) l.path (omega arith) in
    λ r goal T. sym e ∙ follows_last c.requires.2 l.invariant.2 (omega arith) r goal T
