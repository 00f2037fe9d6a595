use Rattle.std.proofs.Common.{rules}
use Rattle.printing.proofs.Writes.{growing}
use Rattle.cases.proofs.answers.show_answer.Goals as goal

pub returns-in_err-show-in-Two : goal.returns-in_err-show-in-Two
returns-in_err-show-in-Two g c = search (rules, growing)

pub returns-in_err-show-in-Three : goal.returns-in_err-show-in-Three
returns-in_err-show-in-Three g c = search (rules, growing)

pub returns-in_err-show-in-Three-2 : goal.returns-in_err-show-in-Three-2
returns-in_err-show-in-Three-2 g c = search (rules, growing)

pub returns-in_err-show-in-Four : goal.returns-in_err-show-in-Four
returns-in_err-show-in-Four g c = search (rules, growing)

pub returns-in_err-show-in-Four-2 : goal.returns-in_err-show-in-Four-2
returns-in_err-show-in-Four-2 g c = search (rules, growing)

pub returns-in_err-show_long-in-Four : goal.returns-in_err-show_long-in-Four
returns-in_err-show_long-in-Four g c = search (rules, growing)

pub returns-in_ok-put-in-One : goal.returns-in_ok-put-in-One
returns-in_ok-put-in-One g c = search (rules, growing)

pub returns-in_ok-show-in-Two : goal.returns-in_ok-show-in-Two
returns-in_ok-show-in-Two g c = search (rules, growing)

pub returns-in_ok-show-in-Three-2 : goal.returns-in_ok-show-in-Three-2
returns-in_ok-show-in-Three-2 g c = search (rules, growing)

pub returns-in_ok-show_long-in-Four : goal.returns-in_ok-show_long-in-Four
returns-in_ok-show_long-in-Four g c = search (rules, growing)
