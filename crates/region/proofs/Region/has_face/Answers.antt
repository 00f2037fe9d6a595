-- `Region::has_face` meets its contract: corners are compared by their numbers.
use Prim.Native.Nat.{ℕ}
use mathlib.Core.Path.{ap₂, ◌∙◌}
use mathlib.Core.Bool.{Bool, not, ◌&&◌}
use mathlib.Core.List.{List}
use lib.Dec.{eqb}
use Rattle.theory.specs.Lists.{every, some}
use Rattle.region.proofs.Corners.{codes_face}
use Rattle.region.proofs.Region.has_face.Goals as goal

pub returns : goal.returns
returns c =
    let mine = c.codes-mine.ensures in
    let other = c.codes-other.ensures in
    ap₂ (λ (x y : Bool). x && not y)
    (c.inside.ensures ∙ ap₂ (λ (x y : List ℕ). every (λ p. some (eqb p) x) y) mine other)
    (c.inside-2.ensures ∙ ap₂ (λ (x y : List ℕ). every (λ p. some (eqb p) x) y) other mine)
    ∙ codes_face c.args.self c.args.b c.requires.0 c.requires.1
