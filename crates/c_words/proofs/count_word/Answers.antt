-- `c_words::count_word` meets its contract.
use Prim.Native.Nat.{ℕ}
use mathlib.Core.Path.{sym, ap, subst, ◌∙◌}
use native.Mathlib.Omega.{arith}
use mathlib.Core.List.{[]}
use Rattle.std.specs.Prelude.{Result, Ok}
use Rattle.limits.specs.declared.refusal.Refusal.{Refusal}
use Rattle.call.specs.Answered.{answered}
use Rattle.c_words.specs.Words.{count_word, only, CountFits}
use Rattle.c_words.proofs.Words.{count_word_is, count_refused_is}
use Rattle.c_words.proofs.count_word.Goals as goal

pub overflow_mul-result : goal.overflow_mul-result
overflow_mul-result c = let f = subst (λ (x : Result ℕ Refusal). CountFits x) c.in-Ok.is c.requires in omega (arith, f)

pub returns-in-Ok : goal.returns-in-Ok
returns-in-Ok c = count_word_is _ ∙ ap (λ (x : Result ℕ Refusal). count_word (answered only x)) (sym c.in-Ok.is)

pub returns-in-Err : goal.returns-in-Err
returns-in-Err c = count_refused_is _ ∙ ap (λ (n : ℕ). count_word (record { number = n; values = [] })) c.code.ensures ∙ ap (λ (x : Result ℕ Refusal). count_word (answered only x)) (sym c.in-Err.is)
