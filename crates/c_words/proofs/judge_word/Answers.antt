-- `c_words::judge_word` meets its contract.
use mathlib.Core.Path.{sym, ap, subst, ◌∙◌}
use Prim.Native.Nat.{ℕ}
use native.Mathlib.Omega.{arith}
use mathlib.Core.List.{[]}
use Rattle.std.specs.Prelude.{Result, Ok}
use Rattle.limits.specs.declared.refusal.Refusal.{Refusal}
use Rattle.op_judge.specs.declared.Judgement.{Judgement}
use Rattle.op_judge.specs.Judge.{judgement_answer}
use Rattle.c_words.specs.Words.{judge_word, Fields}
use Rattle.c_words.proofs.Words.{verdict_fields, verdict_word_is, refused_word_is}
use Rattle.c_words.proofs.judge_word.Goals as goal

pub verdict_word-requires : goal.verdict_word-requires
verdict_word-requires c = verdict_fields 0 _ _ (omega arith) (subst (λ (x : Result Judgement Refusal). Fields (judgement_answer x)) (c.in-Ok-Safe.is ∙ ap Ok (rw c.in-Ok-Safe.is at c.in-Ok-Safe.field-0-is)) c.requires)

pub returns-in-Ok-Safe : goal.returns-in-Ok-Safe
returns-in-Ok-Safe c =
    verdict_word_is _ 0 _ _ c.verdict_word.ensures ∙ ap (λ (x : Result Judgement Refusal). judge_word (judgement_answer x)) (sym (c.in-Ok-Safe.is ∙ ap Ok (rw c.in-Ok-Safe.is at c.in-Ok-Safe.field-0-is)))

pub verdict_word-requires-in-Ok-Unsafe : goal.verdict_word-requires-in-Ok-Unsafe
verdict_word-requires-in-Ok-Unsafe c = verdict_fields 1 _ _ (omega arith) (subst (λ (x : Result Judgement Refusal). Fields (judgement_answer x)) (c.in-Ok-Unsafe.is ∙ ap Ok (rw c.in-Ok-Unsafe.is at c.in-Ok-Unsafe.field-0-is)) c.requires)

pub returns-in-Ok-Unsafe : goal.returns-in-Ok-Unsafe
returns-in-Ok-Unsafe c =
    verdict_word_is _ 1 _ _ c.verdict_word-in-Ok-Unsafe.ensures ∙ ap (λ (x : Result Judgement Refusal). judge_word (judgement_answer x)) (sym (c.in-Ok-Unsafe.is ∙ ap Ok (rw c.in-Ok-Unsafe.is at c.in-Ok-Unsafe.field-0-is)))

pub returns-in-Err : goal.returns-in-Err
returns-in-Err c = refused_word_is _ ∙ ap (λ (n : ℕ). judge_word (record { number = n; values = [] })) c.code.ensures ∙ ap (λ (x : Result Judgement Refusal). judge_word (judgement_answer x)) (sym c.in-Err.is)
