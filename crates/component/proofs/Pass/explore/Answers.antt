-- The law of a push on the empty stack.
use Rattle.component.proofs.Ends.{root_pushed, pass_as}
use Rattle.component.proofs.Pass.explore.Goals as goal

pub drain-requires : goal.drain-requires
drain-requires c =
    let I = c.requires.idle in
    let D = rw (I.top, I.segs, I.depth) at c.push.ensures.pushed in
    pass_as D.mark D.stack D.path D.start D.top D.segs D.depth D.cur (root_pushed I.pass _ c.requires.root c.if-self-root-eq0.true)
