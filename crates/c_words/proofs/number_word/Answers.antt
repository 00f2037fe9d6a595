-- `c_words::number_word` meets its contract.
use mathlib.Core.Path.{◌≡◌, sym, ap, subst, ◌∙◌}
use native.Mathlib.Omega.{arith}
use Rattle.number.specs.declared.Spelled.{Spelled}
use Rattle.number.specs.Shortest.{told, number_in}
use Rattle.c_words.specs.Words.{number_word, SmallValue}
use Rattle.c_words.proofs.Words.{shortest_word_is, padded_word_is, number_refused_is}
use Rattle.c_words.proofs.number_word.Goals as goal

small : {a b : Spelled} → a ≡ b → SmallValue (number_in (told a)) → SmallValue (number_in (told b))
small e h = subst (λ (t : Spelled). SmallValue (number_in (told t))) e h

word : {a b : Spelled} → a ≡ b → number_word (told b) ≡ number_word (told a)
word e = ap (λ (t : Spelled). number_word (told t)) (sym e)

pub value_word-requires : goal.value_word-requires
value_word-requires c = (small c.in-Shortest.is c.requires, omega arith)

pub value_word-requires-in-Padded : goal.value_word-requires-in-Padded
value_word-requires-in-Padded c = (small c.in-Padded.is c.requires, omega arith)

pub returns-in-Shortest : goal.returns-in-Shortest
returns-in-Shortest c = shortest_word_is _ _ _ c.value_word.ensures ∙ word c.in-Shortest.is

pub returns-in-Padded : goal.returns-in-Padded
returns-in-Padded c = padded_word_is _ _ _ c.value_word-in-Padded.ensures ∙ word c.in-Padded.is

pub returns-in-Refused : goal.returns-in-Refused
returns-in-Refused c = c.code.ensures ∙ number_refused_is _ ∙ word c.in-Refused.is
