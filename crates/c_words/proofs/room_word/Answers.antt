-- `c_words::room_word` meets its contract.
use Prim.Native.Nat.{ℕ}
use mathlib.Core.Path.{sym, ap, subst, ◌∙◌}
use native.Mathlib.Omega.{arith}
use mathlib.Core.List.{[]}
use Rattle.std.specs.Prelude.{Result, Ok}
use Rattle.limits.specs.declared.refusal.Refusal.{Refusal}
use Rattle.op_room.specs.declared.Space.{Space}
use Rattle.op_room.specs.Room.{space_answer}
use Rattle.c_words.specs.Words.{room_word, Fields}
use Rattle.c_words.proofs.Words.{room_word_is, room_refused_is}
use Rattle.c_words.proofs.room_word.Goals as goal

pub overflow_mul-result : goal.overflow_mul-result
overflow_mul-result c = let f = subst (λ (x : Result Space Refusal). Fields (space_answer x)) c.in-Ok.is c.requires in omega (arith, f.fit 0, f.fit 1, f.fit 2)

pub overflow_mul-result-in-Ok : goal.overflow_mul-result-in-Ok
overflow_mul-result-in-Ok c = let f = subst (λ (x : Result Space Refusal). Fields (space_answer x)) c.in-Ok.is c.requires in omega (arith, f.fit 0, f.fit 1, f.fit 2)

pub overflow_add-result : goal.overflow_add-result
overflow_add-result c = let f = subst (λ (x : Result Space Refusal). Fields (space_answer x)) c.in-Ok.is c.requires in omega (arith, f.fit 0, f.fit 1, f.fit 2)

pub returns-in-Ok : goal.returns-in-Ok
returns-in-Ok c = room_word_is _ _ _ _ _ (omega arith) ∙ ap (λ (x : Result Space Refusal). room_word (space_answer x)) (sym c.in-Ok.is)

pub returns-in-Err : goal.returns-in-Err
returns-in-Err c = room_refused_is _ ∙ ap (λ (n : ℕ). room_word (record { number = n; values = [] })) c.code.ensures ∙ ap (λ (x : Result Space Refusal). room_word (space_answer x)) (sym c.in-Err.is)
