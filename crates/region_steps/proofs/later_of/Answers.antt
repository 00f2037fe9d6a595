-- `later_of` meets its contract.
use mathlib.Core.Path.{sym, ap, ◌∙◌}
use lib.ListN.{get_or}
use Rattle.region.proofs.Known.{known_small, known_next}
use Rattle.region_steps.proofs.Steps.{later_next, later_past}
use Rattle.region_steps.proofs.later_of.Goals as goal

pub successor-requires : goal.successor-requires
successor-requires c = (c.requires.0, known_small c.args.n c.args.ceiling c.requires.0 c.requires.1 c.args.g c.requires.4)

pub returns-in-None : goal.returns-in-None
returns-in-None c =
    c.requires.3
    ∙ sym (later_past c.args.n c.args.ceiling c.requires.0 c.requires.1 c.args.index.now c.requires.2 c.args.g c.requires.4
    (sym c.successor.ensures ∙ c.in-None.is))

pub code-requires : goal.code-requires
code-requires c =
    let x = c.in-Some.h in
    known_small c.args.n c.args.ceiling c.requires.0 c.requires.1 x
    (known_next c.args.n c.args.ceiling c.requires.0 c.requires.1 c.args.g x c.requires.4
    (sym c.successor.ensures ∙ c.in-Some.is)).0

pub returns-in-Some : goal.returns-in-Some
returns-in-Some c =
    ap (λ p. get_or c.args.index.now p 0) c.code.ensures.value
    ∙ later_next c.args.n c.args.ceiling c.requires.0 c.requires.1 c.args.index.now c.requires.2 c.args.g c.requires.4
    c.in-Some.h (sym c.successor.ensures ∙ c.in-Some.is)
