-- The laws of the numbers of evidence: one number, and numbers one after the other. All that reads evidence rests on these.
use Prim.Native.Nat.{ℕ, ◌+◌, ◌-◌, ◌^◌, ◌≤◌, ◌<◌}
use native.Mathlib.Omega.{arith}
use mathlib.Core.Path.{◌≡◌, refl, sym, ap, ap₂, ◌∙◌}
use mathlib.Core.Logic.{◌↔◌, inl, inr, ⊎_elim}
use mathlib.Core.List.{List, ◌∷◌}
use lib.ListN.{length, take, drop}
use lib.Seq.{drop-drop}
use Rattle.number.specs.Number.{Value, Refused, read_number, number_refusal, spell_all}
use Rattle.number.specs.Shortest.{Spelled, ShortestForm, PaddedForm, read_spelled}
use Rattle.number.proofs.Laws.{spells_some, spells_bound}
use Rattle.number.proofs.Shortest.{StandsHere, shortest_law, padded_law, refused_law, spell_is_shortest}
use Rattle.number.proofs.Sequence.{Reading, ReadsBy, Fit, plain, value_in, end_in, not_value, read_within, read_small}
use Rattle.evidence_number.specs.Evidence.{SpellsEvidence, unpadded, read_evidence, NumberRefusal}
use Rattle.number.specs.Shortest as spelled
use Rattle.number.proofs.Sequence as sequence
pub use Rattle.number.proofs.Sequence.{none, more, moved, reads_append, reads_split, reads_first, reads_end}

-- ---- one number

module _ (bs : List ℕ) (at : ℕ) where
  -- it is read where its bytes stand, in shortest form, and nowhere else
  pub read_value : (v p : ℕ) → (read_evidence bs at ≡ Value v p) ↔ StandsHere bs at ShortestForm v p
  unfolding read_evidence
  read_value v p = (λ e. (shortest_law bs at v p).0 (by (read_spelled bs at) e), λ s. ap unpadded ((shortest_law bs at v p).1 s))
    where
      by : (s : Spelled) → unpadded s ≡ Value v p → s ≡ spelled.Shortest v p
      by (spelled.Shortest w q) e = ap₂ spelled.Shortest (ap value_in e) (ap end_in e)
      by (spelled.Padded w q) e = absurd (not_value (sym e))
      by (spelled.Refused r) e = absurd (not_value (sym e))

  -- "15 when an evidence number isn't in shortest form"
  pub padded_refused : (read_evidence bs at ≡ Refused 15) ↔ ((v : ℕ) × (p : ℕ) × StandsHere bs at PaddedForm v p)
  unfolding read_evidence
  padded_refused = (λ e. by (read_spelled bs at) refl e, λ (v, p, s). ap unpadded ((padded_law bs at v p).1 s))
    where
      by : (s : Spelled) → read_spelled bs at ≡ s → unpadded s ≡ Refused 15 → (v : ℕ) × (p : ℕ) × StandsHere bs at PaddedForm v p
      by (spelled.Shortest v p) e z = absurd (not_value z)
      by (spelled.Padded v p) e z = (v, p, (padded_law bs at v p).0 e)
      by (spelled.Refused r) e z =
          absurd (⊎_elim (λ q. omega (arith, ap number_refusal z, q)) (λ q. omega (arith, ap number_refusal z, q)) (sequence.refused_within bs at r ((refused_law bs at r).0 e)))

  -- "just after 2": every other refusal is that of any number
  pub other_refused : (r : ℕ) → (r ≡ 15 → ⊥) → (read_evidence bs at ≡ Refused r) ↔ (read_number bs at ≡ Refused r)
  unfolding read_evidence
  other_refused r n = (λ e. (refused_law bs at r).0 (by (read_spelled bs at) e), λ e. ap unpadded ((refused_law bs at r).1 e))
    where
      by : (s : Spelled) → unpadded s ≡ Refused r → s ≡ spelled.Refused r
      by (spelled.Shortest v p) e = absurd (not_value e)
      by (spelled.Padded v p) e = absurd (n (sym (ap number_refusal e)))
      by (spelled.Refused x) e = ap spelled.Refused (ap number_refusal e)

  pub refused_within : (r : ℕ) → read_evidence bs at ≡ Refused r → NumberRefusal r
  unfolding read_evidence
  refused_within r e = by (read_spelled bs at) refl e
    where
      by : (s : Spelled) → read_spelled bs at ≡ s → unpadded s ≡ Refused r → NumberRefusal r
      by (spelled.Shortest v p) d z = absurd (not_value z)
      by (spelled.Padded v p) d z = inr (inr (sym (ap number_refusal z)))
      by (spelled.Refused x) d z =
          ⊎_elim inl (λ q. inr (inl q)) (sequence.refused_within bs at r ((refused_law bs at x).0 d ∙ z))

-- from an offset on
pub number_suffix : (bs : List ℕ) (a i : ℕ) → read_evidence (drop a bs) i ≡ moved a (read_evidence bs (a + i))
unfolding read_evidence
number_suffix bs a i = by (read_spelled bs (a + i)) refl
  where
    stands : (R : List ℕ → ℕ → Type 0) (v to : ℕ) → StandsHere bs (a + i) R v to → StandsHere (drop a bs) i R v (to - a)
    stands R v to (g, rest, d, s, q) = (g, rest, drop-drop i a bs ∙ d, s, omega arith)

    by : (s : Spelled) → read_spelled bs (a + i) ≡ s → unpadded (read_spelled (drop a bs) i) ≡ moved a (unpadded s)
    by (spelled.Shortest v to) e =
        ap unpadded ((shortest_law (drop a bs) i v (to - a)).1 (stands ShortestForm v to ((shortest_law bs (a + i) v to).0 e)))
    by (spelled.Padded v to) e = ap unpadded ((padded_law (drop a bs) i v (to - a)).1 (stands PaddedForm v to ((padded_law bs (a + i) v to).0 e)))
    by (spelled.Refused r) e =
        ap unpadded ((refused_law (drop a bs) i r).1 (plain.suffix bs a i ∙ ap (moved a) ((refused_law bs (a + i) r).0 e)))

pub reading : Reading read_evidence ShortestForm
reading = record {
  value = read_value;
  suffix = number_suffix;
  some = λ k. spells_some k.spells;
  small = λ k. spells_bound k.spells;
  shortest = spell_is_shortest;
}

module _ (bs : List ℕ) (at v to : ℕ) (e : read_evidence bs at ≡ Value v to) where
  pub value_within : (at < to) × (to ≤ length bs)
  value_within = read_within reading bs at v to e

  pub value_small : v < 2 ^ 21
  value_small = read_small reading bs at v to e

pub refusal_positive : (r : ℕ) → NumberRefusal r → 0 < r
refusal_positive r (inl z) = omega arith
refusal_positive r (inr (inl z)) = omega arith
refusal_positive r (inr (inr z)) = omega arith

-- ---- numbers one after the other

-- the bytes from one offset to another are read as these numbers
abbrev pub Reads : List ℕ → ℕ → List ℕ → ℕ → Type 0
Reads = ReadsBy read_evidence

pub reads_within : {bs : List ℕ} {at end : ℕ} {vs : List ℕ} → Reads bs at vs end → at ≤ length bs → end ≤ length bs
reads_within = sequence.reads_within reading

pub reads_prefix : {bs : List ℕ} (n : ℕ) {at end : ℕ} {vs : List ℕ} → Reads bs at vs end → end ≤ n → Reads (take n bs) at vs end
reads_prefix = sequence.reads_prefix reading

-- ---- the paper's form

pub spelled_some : {l vs : List ℕ} {v : ℕ} → SpellsEvidence l (v ∷ vs) → 1 ≤ length l
spelled_some = sequence.spelled_some reading

module _ (bs : List ℕ) where
  pub reads_spelled : {at end : ℕ} {vs : List ℕ} → Reads bs at vs end → length bs ≤ end → SpellsEvidence (drop at bs) vs
  reads_spelled = sequence.reads_spelled reading bs

  pub spelled_reads : {l vs : List ℕ} → SpellsEvidence l vs → (at : ℕ) → drop at bs ≡ l → (end : ℕ) × Reads bs at vs end × (length bs ≤ end)
  spelled_reads = sequence.spelled_reads reading bs

  pub reads_law : (at : ℕ) (vs : List ℕ) → at ≤ length bs → Reads bs at vs (length bs) ↔ SpellsEvidence (drop at bs) vs
  reads_law = sequence.reads_law reading bs

-- "What we write uses shortest numbers"
pub shortest_spelled : (vs : List ℕ) → Fit vs → SpellsEvidence (spell_all vs) vs
shortest_spelled = sequence.shortest_spelled reading

-- the first number, and the others from the offset after it on
pub spelled_first : {bs vs : List ℕ} {v : ℕ} → SpellsEvidence bs (v ∷ vs) → (to : ℕ) × (read_evidence bs 0 ≡ Value v to) × SpellsEvidence (drop to bs) vs
spelled_first = sequence.spelled_first reading

pub first_spelled : (bs vs : List ℕ) (v to : ℕ) → read_evidence bs 0 ≡ Value v to → SpellsEvidence (drop to bs) vs → SpellsEvidence bs (v ∷ vs)
first_spelled = sequence.first_spelled reading

-- bytes spell one list of numbers
pub spelled_once : {bs : List ℕ} (vs ws : List ℕ) → SpellsEvidence bs vs → SpellsEvidence bs ws → vs ≡ ws
spelled_once = sequence.spelled_once reading
