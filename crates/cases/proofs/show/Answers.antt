-- The line is written, its answer where it has one, and the line's end.
use Rattle.std.proofs.Common.{rules}
use Rattle.printing.specs.Text.{Grows}
use Rattle.printing.proofs.Writes.{growing}
use Rattle.cases.proofs.show.Goals as goal
use Rattle.cases.proofs.show.Goals.{then-letter-ne35+in_ok-say-2+in_ok-answer, else-letter-ne35}

pub returns-in_err-say-2 : goal.returns-in_err-say-2
returns-in_err-say-2 g c = search (rules, growing)

pub returns-in_err-answer : goal.returns-in_err-answer
returns-in_err-answer g c = search (rules, growing)

pub returns : goal.returns
returns g c =
    let before : Grows (g.W.Write.contents c.args.to.now) (g.W.Write.contents c.if-letter-ne35.to) =
    elim c.if-letter-ne35.branch [ then-letter-ne35+in_ok-say-2+in_ok-answer w ↦ rw w.to-is (search (rules, growing)) | else-letter-ne35 w ↦ rw w.to-is (search (rules, growing)) ] in
    search (rules, growing, before)
