-- `c_words::margin_word` meets its contract.
use Prim.Native.Nat.{ℕ}
use mathlib.Core.Path.{sym, ap, subst, ◌∙◌}
use native.Mathlib.Omega.{arith}
use mathlib.Core.List.{[]}
use Rattle.std.specs.Prelude.{Result, Ok}
use Rattle.limits.specs.declared.refusal.Refusal.{Refusal}
use Rattle.op_margin.specs.declared.Tolerance.{Tolerance}
use Rattle.op_margin.specs.Margin.{tolerance_answer}
use Rattle.c_words.specs.Words.{margin_word, Fields}
use Rattle.c_words.proofs.Words.{bound_word_is, margin_refused_is}
use Rattle.c_words.proofs.margin_word.Goals as goal

pub overflow_mul-result : goal.overflow_mul-result
overflow_mul-result c = let f = subst (λ (x : Result Tolerance Refusal). Fields (tolerance_answer x)) c.in-Ok.is c.requires in omega (arith, f.fit 0, f.fit 1)

pub overflow_mul-result-in-Ok : goal.overflow_mul-result-in-Ok
overflow_mul-result-in-Ok c = let f = subst (λ (x : Result Tolerance Refusal). Fields (tolerance_answer x)) c.in-Ok.is c.requires in omega (arith, f.fit 0, f.fit 1)

pub overflow_add-result : goal.overflow_add-result
overflow_add-result c = let f = subst (λ (x : Result Tolerance Refusal). Fields (tolerance_answer x)) c.in-Ok.is c.requires in omega (arith, f.fit 0, f.fit 1)

pub returns-in-Ok : goal.returns-in-Ok
returns-in-Ok c = bound_word_is _ _ _ (omega arith) ∙ ap (λ (x : Result Tolerance Refusal). margin_word (tolerance_answer x)) (sym c.in-Ok.is)

pub returns-in-Err : goal.returns-in-Err
returns-in-Err c = margin_refused_is _ ∙ ap (λ (n : ℕ). margin_word (record { number = n; values = [] })) c.code.ensures ∙ ap (λ (x : Result Tolerance Refusal). margin_word (tolerance_answer x)) (sym c.in-Err.is)
