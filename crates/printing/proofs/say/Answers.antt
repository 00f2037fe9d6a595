-- What a write puts behind the text's first bytes are the next ones.
use Rattle.std.proofs.Common.{ℕ, ◌+◌, ◌-◌, rules, List, ◌++◌, length, take, drop, sym, ap, ◌∙◌, subst}
use Rattle.std.proofs.lemmas.List.{take_rest}
use lib.Seq.{take-add}
use Rattle.std.specs.declared.option.Option.{Option}
use Rattle.std.specs.Io.KnownBytes.{Appends}
use Rattle.std.proofs.KnownBytes.{Appends-trans, Appends-kept}
use Rattle.printing.proofs.Writes.{front_of, failed}
use Rattle.printing.proofs.say.Goals as goal

more : (a b c : Option (List ℕ)) (from n : ℕ) (text : List ℕ) → Appends a b (take from text) → Appends b c (take n (take (length text - from) (drop from text)))
    → Appends a c (take (from + n) text)
more a b c from n text p q =
    subst (Appends a c) (ap (λ l. take from text ++ take n l) (take_rest text from) ∙ sym (take-add from n text)) (Appends-trans a b c _ _ p q)

pub loop-done-preserved : goal.loop-done-preserved
loop-done-preserved g c = record {
  in_bounds = search rules;
  bytes = more _ _ _ c.loop-done.done c.in_ok-n.n c.args.text.now c.loop-done.invariant.bytes c.in_ok-n.ensures.bytes;
}

pub returns-in_err-n : goal.returns-in_err-n
returns-in_err-n g c =
    let kept = Appends-kept _ _ _ _ c.loop-done.invariant.bytes c.in_err-n.ensures.bytes in
    failed _ _ _ _ c.from_residual.ensures.0 (front_of _ _ c.loop-done.done c.args.text.now kept)

pub returns-then-n-eq0 : goal.returns-then-n-eq0
returns-then-n-eq0 g c =
    let from = c.loop-done.done in
    let n = c.in_ok-n.n in
    let text = c.args.text.now in
    front_of _ _ (from + n) text (more _ _ _ from n text c.loop-done.invariant.bytes c.in_ok-n.ensures.bytes)
