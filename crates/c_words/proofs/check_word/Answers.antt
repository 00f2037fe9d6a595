-- `c_words::check_word` meets its contract.
use Prim.Native.Nat.{ℕ}
use mathlib.Core.Path.{sym, ap, ◌∙◌}
use native.Mathlib.Omega.{arith}
use mathlib.Core.List.{[]}
use Rattle.std.specs.Prelude.{Result, Ok}
use Rattle.limits.specs.declared.refusal.Refusal.{Refusal}
use Rattle.evidence.specs.declared.Evidence as declared
use Rattle.evidence.specs.Evidence.{numbered}
use Rattle.op_check.specs.Check.{evidence_answer}
use Rattle.c_words.specs.Words.{check_word}
use Rattle.c_words.proofs.Words.{kind_word_is, check_refused_is}
use Rattle.c_words.proofs.check_word.Goals as goal

pub returns-in-Ok-Sheet : goal.returns-in-Ok-Sheet
unfolding evidence_answer
returns-in-Ok-Sheet c =
    kind_word_is _ 1 (omega arith)
    ∙ ap (λ (x : Result declared.Evidence Refusal). check_word (evidence_answer (numbered x))) (sym (c.in-Ok-Sheet.is ∙ ap Ok (rw c.in-Ok-Sheet.is at c.in-Ok-Sheet.field-0-is)))

pub returns-in-Ok-Trail : goal.returns-in-Ok-Trail
unfolding evidence_answer
returns-in-Ok-Trail c =
    kind_word_is _ 2 (omega arith)
    ∙ ap (λ (x : Result declared.Evidence Refusal). check_word (evidence_answer (numbered x))) (sym (c.in-Ok-Trail.is ∙ ap Ok (rw c.in-Ok-Trail.is at c.in-Ok-Trail.field-0-is)))

pub returns-in-Err : goal.returns-in-Err
unfolding evidence_answer
returns-in-Err c = check_refused_is _ ∙ ap (λ (n : ℕ). check_word (record { number = n; values = [] })) c.code.ensures ∙ ap (λ (x : Result declared.Evidence Refusal). check_word (evidence_answer (numbered x))) (sym c.in-Err.is)
