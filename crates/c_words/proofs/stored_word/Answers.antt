-- `c_words::stored_word` meets its contract.
use Prim.Native.Nat.{ℕ, ◌^◌, ◌≤◌}
use mathlib.Core.Path.{◌≡◌, refl, sym, ap, subst, ◌∙◌}
use Rattle.std.specs.Prelude.{Result, Ok, Err}
use Rattle.limits.specs.declared.refusal.Refusal.{Refusal}
use Rattle.number.specs.Answer.{Answer}
use Rattle.call.specs.Answered.{answered}
use Rattle.spelling.specs.Calls.{stored_answer}
use Rattle.c_words.specs.Words.{value, only, count_word}
use Rattle.c_words.proofs.stored_word.Goals as goal

same : (x : Result ℕ Refusal) → answered only x ≡ stored_answer x
unfolding stored_answer
same (Ok n) = refl
same (Err r) = refl

pub count_word-requires : goal.count_word-requires
count_word-requires c = subst (λ (a : Answer). value a 0 ≤ 2 ^ 40) (sym (same c.args.answer)) c.requires.few

pub returns : goal.returns
returns c = c.count_word.ensures ∙ ap (λ (a : Answer). count_word a) (same c.args.answer)
