use Rattle.std.proofs.Common.{sym, ◌∙◌, rules, arith, ap, length, ℕ, List, Bor}
use Rattle.printing.proofs.Writes.{growing}
use Rattle.reader_cases.proofs.Laws.{replied_further}
use Rattle.reader_cases.proofs.ask_all.Goals as goal

pub returns-in_err-found : goal.returns-in_err-found
returns-in_err-found g c = search (rules, growing)

pub loop-found-preserved : goal.loop-found-preserved
loop-found-preserved g c = search (rules, growing)

pub returns-in_err-ask : goal.returns-in_err-ask
returns-in_err-ask g c = search (rules, growing)

pub returns : goal.returns
returns g c = search (rules, growing)

-- the offset grows from one number to the next, and stays within the bytes
pub loop-found-smaller : goal.loop-found-smaller
loop-found-smaller g c =
    let further = replied_further _ _ c.in_ok-found.ensures.reply (sym c.is_refused.ensures ∙ c.if-is_refused.false) in
    let same = c.ask.ensures.bytes in
    omega (arith, further, ap (λ (s : Bor (List ℕ)). length s.now) same)
