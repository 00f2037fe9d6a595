-- Where a reader stands after a number, and after a refusal; what it answers in 01's and 02's terms.
use Prim.Native.Nat.{ℕ, ◌+◌, ◌<◌, ◌≤◌}
use native.Mathlib.Omega.{arith}
use mathlib.Core.Path.{◌≡◌, refl, ap, sym, subst, ◌∙◌}
use mathlib.Core.Logic.{◌↔◌, ⊎_elim}
use mathlib.Core.List.{List, [], ◌∷◌, ◌++◌}
use lib.ListN.{length, get_or, drop}
use Rattle.number.specs.Number.{Number, Value, EndsTooSoon, ThirdTopBit, read_number, on_number}
use Rattle.number.specs.Shortest.{Spelled, Shortest, Padded, Refused, ShortestForm, PaddedForm, read_spelled, number_in}
use Rattle.number.specs.Answer.{Answer}
use Rattle.number.proofs.Laws.{read_short, read_long}
use Rattle.number.proofs.Shortest.{shortest_law, padded_law, refused_law, number_in_lem}
use Rattle.number.proofs.Sequence.{value_within, refused_within}
use Rattle.reader.specs.declared.Reader.{Reader}
use Rattle.reader.specs.Reader.{after_number, after_found, next_number, number_answer, next_answer, advanced}
use Rattle.number.specs.Number as number

module _ (bs : List ℕ) (at : ℕ) where
  pub after_value : (v to : ℕ) → read_number bs at ≡ Value v to → after_number bs at ≡ to
  unfolding after_number
  after_value v to e = ap (λ (n : Number). on_number n (λ v to. to) (λ r. at)) e

  -- by what is told: after a number in either form, and where it is for a refusal
  pub after_told : (s : Spelled) → read_spelled bs at ≡ s → after_number bs at ≡ after_found s at
  unfolding after_number
  after_told s e = ap (λ (n : Number). on_number n (λ v to. to) (λ r. at)) (sym (number_in_lem bs at) ∙ ap number_in e)

-- the value in an answer, whether its form is padded, and how many values there are
value_of : Answer → ℕ
value_of a = get_or a.values 0 0

form_of : Answer → ℕ
form_of a = get_or a.values 1 0

count : Answer → ℕ
count a = length a.values

module _ (r : Reader) where
  -- the reader over the same bytes at another offset
  abbrev pub at_offset : ℕ → Reader
  at_offset n = record { bytes = r.bytes; at = n }

  -- a number in either form is the one that stands there
  pub is_read : (v to : ℕ) → number_in (next_number r) ≡ Value v to → read_number r.bytes.now r.at ≡ Value v to
  is_read v to e = sym (number_in_lem r.bytes.now r.at) ∙ e

  -- "it then stands after it", whatever its form
  pub value_stands : (v to : ℕ) → number_in (next_number r) ≡ Value v to → advanced r ≡ at_offset to
  value_stands v to e = ap at_offset (after_value r.bytes.now r.at v to (is_read v to e))

  -- further on, and not past the end
  pub value_further : (v to : ℕ) → number_in (next_number r) ≡ Value v to → (r.at < (advanced r).at) × ((advanced r).at ≤ length r.bytes.now)
  value_further v to e =
      subst (λ (n : ℕ). (r.at < n) × (n ≤ length r.bytes.now)) (sym (after_value r.bytes.now r.at v to (is_read v to e)))
      (value_within r.bytes.now r.at v to (is_read v to e))

  -- "or 1 or 2 and then staying at that number's first byte"
  pub refused_stays : (x : ℕ) → next_number r ≡ Refused x → advanced r ≡ r
  refused_stays x e = ap at_offset (after_told r.bytes.now r.at (Refused x) e)

  -- ---- the answer, by the bytes that stand there

  -- a spelling of the number in a form stands there
  abbrev pub BeginsWith : (List ℕ → ℕ → Type 0) → ℕ → Type 0
  BeginsWith R v = (g : List ℕ) × (rest : List ℕ) × (drop r.at r.bytes.now ≡ g ++ rest) × R g v

  -- 0, a value and 0 just where the bytes from here on begin with its shortest form
  pub answer_shortest : (v : ℕ) → (next_answer r ≡ record { number = 0; values = v ∷ 0 ∷ [] }) ↔ BeginsWith ShortestForm v
  unfolding number_answer value_of form_of count
  answer_shortest v = (
    λ e. by (next_number r) refl e,
    λ (g, rest, e, s). ap number_answer ((shortest_law r.bytes.now r.at v (r.at + length g)).1 (g, rest, e, s, refl)),
  )
    where
      by : (n : Spelled) → next_number r ≡ n → number_answer n ≡ record { number = 0; values = v ∷ 0 ∷ [] } → BeginsWith ShortestForm v
      by (Shortest w to) e t =
          let (g, rest, d, s, q) = (shortest_law r.bytes.now r.at w to).0 e in
          (g, rest, d, subst (ShortestForm g) (ap value_of t) s)
      by (Padded w to) e t = absurd (omega (arith, ap form_of t))
      by (Refused x) e t = absurd (omega (arith, ap count t))

  -- 0, a value and 1 just where they begin with a padded form of it
  pub answer_padded : (v : ℕ) → (next_answer r ≡ record { number = 0; values = v ∷ 1 ∷ [] }) ↔ BeginsWith PaddedForm v
  unfolding number_answer value_of form_of count
  answer_padded v = (
    λ e. by (next_number r) refl e,
    λ (g, rest, e, s). ap number_answer ((padded_law r.bytes.now r.at v (r.at + length g)).1 (g, rest, e, s, refl)),
  )
    where
      by : (n : Spelled) → next_number r ≡ n → number_answer n ≡ record { number = 0; values = v ∷ 1 ∷ [] } → BeginsWith PaddedForm v
      by (Shortest w to) e t = absurd (omega (arith, ap form_of t))
      by (Padded w to) e t =
          let (g, rest, d, s, q) = (padded_law r.bytes.now r.at w to).0 e in
          (g, rest, d, subst (PaddedForm g) (ap value_of t) s)
      by (Refused x) e t = absurd (omega (arith, ap count t))

  refused_by : (x : ℕ) → next_answer r ≡ record { number = x; values = [] } → read_number r.bytes.now r.at ≡ number.Refused x
  unfolding number_answer count
  refused_by x e = (refused_law r.bytes.now r.at x).0 (by (next_number r) e)
    where
      by : (n : Spelled) → number_answer n ≡ record { number = x; values = [] } → n ≡ Refused x
      by (Shortest w to) t = absurd (omega (arith, ap count t))
      by (Padded w to) t = absurd (omega (arith, ap count t))
      by (Refused y) t = ap Refused (ap (λ (a : Answer). a.number) t)

  by_refusal : (x : ℕ) → read_number r.bytes.now r.at ≡ number.Refused x → next_answer r ≡ record { number = x; values = [] }
  unfolding number_answer
  by_refusal x e = ap number_answer ((refused_law r.bytes.now r.at x).1 e)

  -- 1 just where they end too soon, 2 just where the third byte of a number has its top bit set
  pub answer_short : (next_answer r ≡ record { number = 1; values = [] }) ↔ EndsTooSoon r.bytes.now r.at
  answer_short = (λ e. (read_short r.bytes.now r.at).0 (refused_by 1 e), λ s. by_refusal 1 ((read_short r.bytes.now r.at).1 s))

  pub answer_long : (next_answer r ≡ record { number = 2; values = [] }) ↔ ThirdTopBit r.bytes.now r.at
  answer_long = (λ e. (read_long r.bytes.now r.at).0 (refused_by 2 e), λ s. by_refusal 2 ((read_long r.bytes.now r.at).1 s))

  -- no refusal but these two: "never gives 15 itself"
  pub answer_other : 2 < (next_answer r).number → ⊥
  unfolding number_answer
  answer_other h = by (next_number r) refl h
    where
      by : (n : Spelled) → next_number r ≡ n → 2 < (number_answer n).number → ⊥
      by (Shortest w to) e h = omega arith
      by (Padded w to) e h = omega arith
      by (Refused x) e h =
          ⊎_elim (λ z. omega (arith, z)) (λ z. omega (arith, z))
          (refused_within r.bytes.now r.at x ((refused_law r.bytes.now r.at x).0 e))
