-- Request (c) of 02: "Blank stay limits." What the plan writer does with them stands in Plans.
use mathlib.Core.Path.{◌≡◌, refl, sym, ap, subst}
use mathlib.Core.Logic.{inl, inr, ◌↔◌}
use mathlib.Core.List.{List, [], ◌∷◌, map}
use Prim.Native.Nat.{ℕ, ◌+◌, ◌<◌}
use native.Mathlib.Omega.{arith}
use borrow.Author.Tests.{ne_eqb}
use Rattle.limits.specs.Limits.{KnownMark}
use Rattle.number.specs.Number.{spell_all}
use Rattle.number.specs.Sequence.{SpellsAll}
use Rattle.parser.specs.Parse.{Reading}
use Rattle.model.specs.Model.{limit_at}
use Rattle.plan_reader.specs.Accept.{read_model, Whole}
use Rattle.plan_reader.proofs.Accepted.{accepted_resets}
use Rattle.canonical.specs.Blank.{Blank, ceiling, none, greatest}
use Rattle.canonical.specs.Canonical.{numbers_of, Stays, blank, written, shortest_plan}
use Rattle.canonical.specs.Same.{SameContent}
use Rattle.canonical.proofs.Plans.{accept_law, accepted_plan, accepted_whole}
use Rattle.canonical.proofs.Shortest.{fields_spelled, fields_plan, reads_back, content_equal}
use Rattle.demands.specs.Marks.{FirstStays, with_mark, moved_field, moved_stay}
use Rattle.demands.specs.SameAnswers.{SameTimed}
use Rattle.demands.proofs.SameAnswers.{same_timed}

-- ---- "Mark 1 keeps its meaning"

pub mark_1_blank : (r : Reading) (l x b : ℕ) → r.mark ≡ 1 → Blank r l x b ↔ (b ≡ r.model.ceiling)
mark_1_blank r l x b one = (to, λ e. subst (Blank r l x) (sym e) (ceiling one))
  where
    to : {c : ℕ} → Blank r l x c → c ≡ r.model.ceiling
    to (ceiling _) = refl
    to (none two _) = refl
    to (greatest two e h f) = absurd (omega arith)

pub mark_1_stays : (r : Reading) (l x : ℕ) (vs : List ℕ) → r.mark ≡ 1 → Stays r l x vs ↔ FirstStays r l x vs
mark_1_stays r l x vs one = (to, from)
  where
    to : {ws : List ℕ} → Stays r l x ws → FirstStays r l x ws
    to (blank b) = inl (refl, (mark_1_blank r l x _ one).0 b)
    to written = inr refl

    from : FirstStays r l x vs → Stays r l x vs
    from (inl (e, h)) = subst (Stays r l x) (sym e) (blank ((mark_1_blank r l x _ one).1 h))
    from (inr e) = subst (Stays r l x) (sym e) written

-- ---- a timing model in either mark

module _ (r : Reading) (w : Whole r) (k : ℕ) (marked : KnownMark k) where
  remarked : Whole (with_mark k r)
  remarked = record { done = w.done; marked = marked; lawful = w.lawful; tidy = w.tidy; resets = w.resets }

module _ (bytes : List ℕ) (e : (read_model bytes).refusal ≡ 0) where
  -- what is read from a plan can be spelt in each mark, with the same verdict, marks and evidence
  pub either_mark : (k : ℕ) → KnownMark k
      → (cs : List ℕ) × (read_model cs ≡ with_mark k (read_model bytes)) × SameTimed cs bytes
  either_mark k marked =
      let r = read_model bytes in
      let back = reads_back (with_mark k r) (remarked r (accepted_whole bytes e) k marked) in (
        shortest_plan (with_mark k r),
        back,
        same_timed _ bytes (ap (λ (t : Reading). t.refusal) back) (ap (λ (t : Reading). t.model) back),
      )

  -- "Sets, verdicts and evidence are those of the limits so read": whichever marks and fields they were read from
  pub same_limits : (cs : List ℕ) → (read_model cs).refusal ≡ 0 → SameContent (with_mark 1 (read_model bytes)) (with_mark 1 (read_model cs)) → SameTimed bytes cs
  same_limits cs z c =
      let one : KnownMark 1 = (omega arith, omega arith) in
      let same = content_equal _ _ (remarked _ (accepted_whole bytes e) 1 one) (remarked _ (accepted_whole cs z) 1 one) c in
      same_timed bytes cs (ap (λ (t : Reading). t.refusal) same) (ap (λ (t : Reading). t.model) same)

-- ---- "Whoever relied on the ceiling and moves to mark 2 writes M+1."

-- a field of mark 1, with M+1 for a blank, means the limit in every mark
moved_stays : (r : Reading) (k l x : ℕ) → r.mark ≡ 1 → {vs : List ℕ} → Stays r l x vs → Stays (with_mark k r) l x (map (moved_field r.model.ceiling) vs)
moved_stays r k l x one (blank b) =
    let e : limit_at r.model l x ≡ r.model.ceiling = (mark_1_blank r l x _ one).0 b in
    subst (λ (v : ℕ). Stays (with_mark k r) l x ((v + 1) ∷ [])) e written
moved_stays r k l x one written =
    let v = limit_at r.model l x + 1 in
    subst (λ (w : ℕ). Stays (with_mark k r) l x (w ∷ [])) (sym (simp (ne_eqb v 0 (λ z. omega arith)) refl)) written

module _ (bytes : List ℕ) (e : (read_model bytes).refusal ≡ 0) (one : (read_model bytes).mark ≡ 1) where
  abbrev r : Reading
  r = read_model bytes

  abbrev fields : ℕ → ℕ → List ℕ
  fields = moved_stay r (accepted_plan bytes e).stay

  -- the plan's numbers with mark 2, and M+1 for each blank
  abbrev pub moved : List ℕ
  moved = numbers_of fields (with_mark 2 r)

  whole : Whole (with_mark 2 r)
  whole = remarked r (accepted_whole bytes e) 2 (omega arith, omega arith)

  moved_fields : (l x : ℕ) → l < r.model.locations → x < r.model.clocks → Stays (with_mark 2 r) l x (fields l x)
  moved_fields l x h k = moved_stays r 2 l x one ((accepted_plan bytes e).stays l x h k)

  -- some bytes spell them,
  pub moved_spelled : SpellsAll (spell_all moved) moved
  moved_spelled = fields_spelled (with_mark 2 r) whole fields moved_fields

  -- and all that do read as the same model
  pub moved_reads : (cs : List ℕ) → SpellsAll cs moved → (read_model cs ≡ with_mark 2 r) × SameTimed cs bytes
  moved_reads cs s =
      let back = ((accept_law cs (with_mark 2 r)).1 (fields_plan (with_mark 2 r) whole fields moved_fields cs s, accepted_resets bytes e)).0 in
      (back, same_timed cs bytes (ap (λ (t : Reading). t.refusal) back) (ap (λ (t : Reading). t.model) back))
