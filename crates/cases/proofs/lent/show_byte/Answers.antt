-- Whatever stands before the byte is written, and then the byte.
use Rattle.std.proofs.Common.{rules}
use Rattle.printing.specs.Text.{Grows}
use Rattle.printing.proofs.Writes.{growing, grows_then}
use Rattle.cases.proofs.lent.show_byte.Goals as goal
use Rattle.cases.proofs.lent.show_byte.Goals.{then-i-eq0+in_ok-say, else-i-eq0+then-commas+in_ok-say-2, else-i-eq0+else-commas}

pub returns : goal.returns
returns g c =
    let before : Grows (g.W.Write.contents c.args.to.now) (g.W.Write.contents c.if-i-eq0.to) =
    elim c.if-i-eq0.branch [ then-i-eq0+in_ok-say w ↦ rw w.to-is (search (rules, growing)) | else-i-eq0+then-commas+in_ok-say-2 w ↦ rw w.to-is (search (rules, growing)) | else-i-eq0+else-commas w ↦ rw w.to-is (search (rules, growing)) ] in
    record { grows = grows_then _ _ _ before c.put.ensures.grows }
