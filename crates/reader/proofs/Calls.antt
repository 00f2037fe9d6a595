-- What several calls give: the numbers that the bytes spell, each told by its form, and a refusal again and again.
use Prim.Native.Nat.{ℕ, zero, suc, ◌+◌}
use mathlib.Core.Path.{◌≡◌, refl, sym, ap, ap₂, subst, ◌∙◌}
use mathlib.Core.Logic.{◌↔◌}
use mathlib.Core.List.{List, [], ◌∷◌, ◌++◌, append_assoc, append-nil}
use lib.ListN.{length, drop, replicate}
use Rattle.number.specs.Number.{spell_all}
use Rattle.number.specs.Shortest.{Refused, number_in}
use Rattle.number.specs.Sequence.{SpelledBy, SpellsAll, SpellsShortest}
use Rattle.number.proofs.Laws.{read_none}
use Rattle.number.proofs.Shortest.{shortest_law, told_refused, number_in_lem}
use Rattle.number.proofs.Sequence.{Fit, Reads, none, more, rest_at, spell_reads, spell_all_shortest, in_any_form}
use Rattle.reader.specs.declared.Reader.{Reader}
use Rattle.reader.specs.Reader.{next_number}
use Rattle.reader.specs.Calls.{answers, after_calls, GivesBy, Gives, GivesShortest}
use Rattle.reader.proofs.Laws.{at_offset, is_read, value_stands, refused_stays}

-- ---- numbers that stand one after the other

module _ (r : Reader) where
  -- each call gives one of them
  reads_gives : {at end : ℕ} {vs : List ℕ} → Reads r.bytes.now at vs end → Gives (answers (length vs) (at_offset r at)) vs
  unfolding answers
  reads_gives none = GivesBy.none
  reads_gives (more {at = at} {to = to} {v = v} {vs = vs} e t) =
      let q = number_in_lem r.bytes.now at ∙ e in
      GivesBy.more q (subst (λ (p : Reader). Gives (answers (length vs) p) vs) (sym (value_stands (at_offset r at) v to q)) (reads_gives t))

  -- and the reader then stands after the last
  pub reads_stands : {at end : ℕ} {vs : List ℕ} → Reads r.bytes.now at vs end → after_calls (length vs) (at_offset r at) ≡ at_offset r end
  unfolding after_calls
  reads_stands none = refl
  reads_stands (more {at = at} {to = to} {v = v} {vs = vs} e t) =
      ap (after_calls (length vs)) (value_stands (at_offset r at) v to (number_in_lem r.bytes.now at ∙ e)) ∙ reads_stands t

-- what the calls give stands there
gives_reads : (r : Reader) (vs : List ℕ) → Gives (answers (length vs) r) vs → (end : ℕ) × Reads r.bytes.now r.at vs end
unfolding answers
gives_reads r [] g = (r.at, none)
gives_reads r (v ∷ vs) (GivesBy.more {to = to} q s) =
    let (end, t) = gives_reads (at_offset r to) vs (subst (λ (p : Reader). Gives (answers (length vs) p) vs) (value_stands r v to q) s) in
    (end, more (is_read r v to q) t)

module _ (r : Reader) (vs : List ℕ) where
  pub gives_law : Gives (answers (length vs) r) vs ↔ ((end : ℕ) × Reads r.bytes.now r.at vs end)
  gives_law = (gives_reads r vs, λ (end, t). reads_gives r t)

  -- bytes that spell numbers with nothing after: the calls give them, and then 1
  pub spells_gives : SpellsAll (drop r.at r.bytes.now) vs
      → Gives (answers (length vs) r) vs × (next_number (after_calls (length vs) r) ≡ Refused 1)
  spells_gives s =
      let (end, t, h) = spell_reads r.bytes.now s r.at refl in
      (reads_gives r t, ap next_number (reads_stands r t) ∙ told_refused r.bytes.now end 1 (read_none r.bytes.now end h))

-- ---- told as shortest

-- all of them exactly where the bytes from here on begin with the numbers in shortest form
shortest_gives : (r : Reader) {g vs : List ℕ} → SpellsShortest g vs → (rest : List ℕ) → drop r.at r.bytes.now ≡ g ++ rest
    → GivesShortest (answers (length vs) r) vs
unfolding answers
shortest_gives r SpelledBy.none rest e = GivesBy.none
shortest_gives r (SpelledBy.more {g = g} {bs = bs} {vs = vs} {v = v} k s) rest e =
    let to = r.at + length g in
    let d = e ∙ append_assoc g bs rest in
    let q = (shortest_law r.bytes.now r.at v to).1 (g, bs ++ rest, d, k, refl) in
    let after = rest_at r.bytes.now r.at g (bs ++ rest) d in
    GivesBy.more q
    (subst (λ (p : Reader). GivesShortest (answers (length vs) p) vs) (sym (value_stands r v to (ap number_in q)))
    (shortest_gives (at_offset r to) s rest after))

gives_shortest : (r : Reader) (vs : List ℕ) → GivesShortest (answers (length vs) r) vs
    → (g : List ℕ) × (rest : List ℕ) × (drop r.at r.bytes.now ≡ g ++ rest) × SpellsShortest g vs
unfolding answers
gives_shortest r [] t = ([], drop r.at r.bytes.now, refl, SpelledBy.none)
gives_shortest r (v ∷ vs) (GivesBy.more {to = to} q t) =
    let (g, rest, d, k, z) = (shortest_law r.bytes.now r.at v to).0 q in
    let (h, end, f, s) =
    gives_shortest (at_offset r to) vs (subst (λ (p : Reader). GivesShortest (answers (length vs) p) vs) (value_stands r v to (ap number_in q)) t) in
    let after : drop to r.bytes.now ≡ rest
    = ap (λ (i : ℕ). drop i r.bytes.now) z ∙ rest_at r.bytes.now r.at g rest d in
    (g ++ h, end, d ∙ ap (λ (l : List ℕ). g ++ l) (sym after ∙ f) ∙ sym (append_assoc g h end), SpelledBy.more k s)

module _ (r : Reader) (vs : List ℕ) where
  pub shortest_given : GivesShortest (answers (length vs) r) vs
      ↔ ((g : List ℕ) × (rest : List ℕ) × (drop r.at r.bytes.now ≡ g ++ rest) × SpellsShortest g vs)
  shortest_given = (gives_shortest r vs, λ (g, rest, e, s). shortest_gives r s rest e)

  -- "What we write uses shortest numbers": all of them are given, each told as shortest, and then 1
  pub spelled_gives : r.bytes.now ≡ spell_all vs → r.at ≡ 0 → Fit vs
      → GivesShortest (answers (length vs) r) vs × (next_number (after_calls (length vs) r) ≡ Refused 1)
  spelled_gives e z small =
      let s = subst (λ (l : List ℕ). SpellsShortest l vs) (sym (ap₂ drop z e)) (spell_all_shortest vs small) in
      (shortest_gives r s [] (sym (append-nil (drop r.at r.bytes.now))), (spells_gives r vs (in_any_form s)).1)

-- ---- a refusal

-- a refused number is refused at the same place, however often it is asked for
module _ (r : Reader) (x : ℕ) (e : next_number r ≡ Refused x) where
  pub refused_again : (k : ℕ) → answers k r ≡ replicate k (Refused x)
  unfolding answers
  refused_again zero = refl
  refused_again (suc k) = ap₂ ◌∷◌ e (ap (answers k) (refused_stays r x e) ∙ refused_again k)

  pub refused_stays_there : (k : ℕ) → after_calls k r ≡ r
  unfolding after_calls
  refused_stays_there zero = refl
  refused_stays_there (suc k) = ap (after_calls k) (refused_stays r x e) ∙ refused_stays_there k
