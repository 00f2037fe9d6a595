-- `c_words::put_harm` meets its contract.
use Prim.Native.Nat.{ℕ}
use mathlib.Core.Path.{sym, ap, subst, ◌∙◌}
use native.Mathlib.Omega.{arith}
use mathlib.Core.List.{[]}
use Rattle.std.specs.Prelude.{Result, Ok}
use Rattle.limits.specs.declared.refusal.Refusal.{Refusal}
use lib.ListN.{length}
use Rattle.op_harm.specs.declared.Onset.{Onset}
use Rattle.op_harm.specs.declared.Onset.TheVariants.{Safe, Within}
use Rattle.op_harm.specs.Harm.{onset_answer}
use Rattle.c_words.specs.Words.{harm_word, harm_out}
use Rattle.c_words.proofs.Words.{harm_safe_word, harm_safe_out, harm_short_word, harm_short_out, harm_told_word, harm_told_out, harm_refused_word, harm_refused_out}
use Rattle.c_words.proofs.put_harm.Goals as goal

pub returns-then-out-lt2 : goal.returns-then-out-lt2
returns-then-out-lt2 c =
    let out = c.args.out.now in
    let back = sym (c.in-Ok-Within.is ∙ ap Ok (rw c.in-Ok-Within.is at c.in-Ok-Within.field-0-is)) in
    let short = c.if-out-lt2.true in
    record {
      value = c.code.ensures ∙ harm_short_word _ _ _ out (length out) short ∙ ap (λ (x : Result Onset Refusal). harm_word (onset_answer x) (length out)) back;
      out_after = harm_short_out _ _ _ out short ∙ ap (λ (x : Result Onset Refusal). harm_out (onset_answer x) out) back;
    }

pub returns-in-Ok-Safe : goal.returns-in-Ok-Safe
returns-in-Ok-Safe c =
    let out = c.args.out.now in
    let back = sym (c.in-Ok-Safe.is ∙ ap Ok (rw c.in-Ok-Safe.is at c.in-Ok-Safe.field-0-is)) in
    record {
      value = harm_safe_word _ 0 0 out _ (length out) c.verdict_word.ensures ∙ ap (λ (x : Result Onset Refusal). harm_word (onset_answer x) (length out)) back;
      out_after = harm_safe_out _ 0 0 out ∙ ap (λ (x : Result Onset Refusal). harm_out (onset_answer x) out) back;
    }

pub returns-else-out-lt2 : goal.returns-else-out-lt2
returns-else-out-lt2 c =
    let out = c.args.out.now in
    let back = sym (c.in-Ok-Within.is ∙ ap Ok (rw c.in-Ok-Within.is at c.in-Ok-Within.field-0-is)) in
    let room = c.if-out-lt2.false in
    record {
      value = harm_told_word _ _ _ out _ (length out) room c.verdict_word-in-Ok-Within.ensures ∙ ap (λ (x : Result Onset Refusal). harm_word (onset_answer x) (length out)) back;
      out_after = harm_told_out _ _ _ out room ∙ ap (λ (x : Result Onset Refusal). harm_out (onset_answer x) out) back;
    }

pub returns-in-Err : goal.returns-in-Err
returns-in-Err c =
    let out = c.args.out.now in
    let back = sym c.in-Err.is in
    record {
      value = harm_refused_word _ (length out) ∙ ap (λ (n : ℕ). harm_word (record { number = n; values = [] }) (length out)) c.code-in-Err.ensures ∙ ap (λ (x : Result Onset Refusal). harm_word (onset_answer x) (length out)) back;
      out_after = harm_refused_out _ out ∙ ap (λ (x : Result Onset Refusal). harm_out (onset_answer x) out) back;
    }
