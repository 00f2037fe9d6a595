-- `c_words::write_word` meets its contract.
use Prim.Native.Nat.{ℕ}
use mathlib.Core.Path.{sym, ap, subst, ◌∙◌}
use native.Mathlib.Omega.{arith}
use mathlib.Core.List.{[]}
use Rattle.std.specs.Prelude.{Result, Ok}
use Rattle.limits.specs.declared.refusal.Refusal.{Refusal}
use Rattle.evidence_writer.specs.declared.Written as declared
use Rattle.evidence_writer.specs.Written.{numbered}
use Rattle.op_write.specs.Write.{written_answer}
use Rattle.c_words.specs.Words.{write_word, BytesFit}
use Rattle.c_words.proofs.Words.{written_word_is, write_refused_is}
use Rattle.c_words.proofs.write_word.Goals as goal

pub overflow_mul-result : goal.overflow_mul-result
unfolding written_answer
overflow_mul-result c =
    let b = (subst (λ (x : Result declared.Written Refusal). BytesFit (written_answer (numbered x))) (c.in-Ok-Safe.is ∙ ap Ok (rw c.in-Ok-Safe.is at c.in-Ok-Safe.field-0-is)) c.requires).few in
    omega (arith, b)

pub overflow_mul-result-in-Ok-Unsafe : goal.overflow_mul-result-in-Ok-Unsafe
unfolding written_answer
overflow_mul-result-in-Ok-Unsafe c =
    let b = (subst (λ (x : Result declared.Written Refusal). BytesFit (written_answer (numbered x))) (c.in-Ok-Unsafe.is ∙ ap Ok (rw c.in-Ok-Unsafe.is at c.in-Ok-Unsafe.field-0-is)) c.requires).few in
    omega (arith, b)

pub overflow_add-result : goal.overflow_add-result
unfolding written_answer
overflow_add-result c =
    let b = (subst (λ (x : Result declared.Written Refusal). BytesFit (written_answer (numbered x))) (c.in-Ok-Unsafe.is ∙ ap Ok (rw c.in-Ok-Unsafe.is at c.in-Ok-Unsafe.field-0-is)) c.requires).few in
    omega (arith, b)

pub returns-in-Ok-Safe : goal.returns-in-Ok-Safe
unfolding written_answer
returns-in-Ok-Safe c =
    written_word_is _ 0 _ (omega arith)
    ∙ ap (λ (x : Result declared.Written Refusal). write_word (written_answer (numbered x))) (sym (c.in-Ok-Safe.is ∙ ap Ok (rw c.in-Ok-Safe.is at c.in-Ok-Safe.field-0-is)))

pub returns-in-Ok-Unsafe : goal.returns-in-Ok-Unsafe
unfolding written_answer
returns-in-Ok-Unsafe c =
    written_word_is _ 1 _ (omega arith)
    ∙ ap (λ (x : Result declared.Written Refusal). write_word (written_answer (numbered x))) (sym (c.in-Ok-Unsafe.is ∙ ap Ok (rw c.in-Ok-Unsafe.is at c.in-Ok-Unsafe.field-0-is)))

pub returns-in-Err : goal.returns-in-Err
unfolding written_answer
returns-in-Err c = write_refused_is _ ∙ ap (λ (n : ℕ). write_word (record { number = n; values = [] })) c.code.ensures ∙ ap (λ (x : Result declared.Written Refusal). write_word (written_answer (numbered x))) (sym c.in-Err.is)
