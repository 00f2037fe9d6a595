-- Request (a) of 02: "A writer shall take any accepted model and put it out in shortest numbers, a stay field of M+1 becoming 0."
-- For all bytes and all outputs, by what the writer answers and leaves. With request (c), "The shortest writer keeps the mark".
use mathlib.Core.Path.{◌≡◌, refl, sym, ap, ap₂, subst, ◌∙◌}
use mathlib.Core.Bool.{Bool, true, false}
use mathlib.Core.Logic.{◌↔◌}
use mathlib.Core.List.{List, [], ◌∷◌, ◌++◌}
use Prim.Native.Nat.{ℕ, ◌+◌, ◌≤◌, ◌<◌}
use native.Mathlib.Decide.{dec_lt}
use native.Mathlib.Omega.{arith}
use lib.ListN.{length, get_or, take, drop}
use lib.Seq.{take-append_seam}
use lib.Dec.{eqb}
use borrow.Author.Tests.{eqb-true, eqb-false, eq-eqb, ne_eqb, lt-ltb, le-ltb}
use Rattle.number.specs.Answer.{Answer, answer}
use Rattle.number.specs.Number.{spell_all}
use Rattle.spelling.specs.Calls.{bytes_answer, bytes_output}
use Rattle.parser.specs.Parse.{Reading}
use Rattle.model.specs.Model.{limit_at}
use Rattle.edge_walks.specs.Cycle.{LeavesUnreset}
use Rattle.plan_reader.specs.Accept.{read_model}
use Rattle.plan_reader.proofs.Accepted.{refusal_bound}
use Rattle.canonical.specs.Canonical.{numbers_of, SpellsPlan, stay_numbers, plan_numbers, shortest_plan}
use Rattle.canonical.specs.Blank.{Blank}
use Rattle.canonical.specs.Same.{SameContent}
use Rattle.canonical.proofs.Blanks.{blank_law}
use Rattle.canonical.proofs.Plans.{accept_law, accepted_whole}
use Rattle.canonical.proofs.Shortest.{shortest_spells, reads_back, same_bytes, same_back, plan_shortest, no_longer, none_shorter}
use Rattle.op_plan.specs.Plan.{plan_answer, plan_output}
use Rattle.demands.specs.SameAnswers.{SameAnswers}
use Rattle.demands.specs.Told.{plan_written}
use Rattle.demands.proofs.SameAnswers.{same_answers}

-- Which bytes are accepted, and as which model: just those that spell it, without a closed walk of edges that leaves a clock unreset.
pub plan_accepted_law : (bytes : List ℕ) (r : Reading)
    → ((read_model bytes ≡ r) × (r.refusal ≡ 0)) ↔ (SpellsPlan bytes r × (LeavesUnreset r.model → ⊥))
plan_accepted_law = accept_law

module _ (bytes out : List ℕ) where
  abbrev short : List ℕ
  short = shortest_plan (read_model bytes)

  -- the model's own refusals come first, 1 to 7 and never 8, and the output stays as it was
  pub plan_refused : ((read_model bytes).refusal ≡ 0 → ⊥)
      → (plan_answer bytes (length out) ≡ record { number = (read_model bytes).refusal; values = [] }) × ((read_model bytes).refusal ≤ 7)
      × (plan_output bytes out ≡ out)
  unfolding plan_answer plan_output bytes_answer bytes_output answer
  plan_refused ne = (simp (ne_eqb _ 0 ne) refl, refusal_bound bytes, simp (ne_eqb _ 0 ne) refl)

  module _ (e : (read_model bytes).refusal ≡ 0) where
    -- "Output too short is 9", and it stays as it was
    pub plan_short : length out < length short → (plan_answer bytes (length out) ≡ record { number = 9; values = [] }) × (plan_output bytes out ≡ out)
    unfolding plan_answer plan_output bytes_answer bytes_output answer
    plan_short h = (simp (eq-eqb _ 0 e, lt-ltb (length out) (length short) h) refl, simp (eq-eqb _ 0 e, lt-ltb (length out) (length short) h) refl)

    -- "its answer .. is their number"; the bytes fill the output from its first byte, and the rest stays as it was
    pub plan_told : length short ≤ length out
        → (plan_answer bytes (length out) ≡ record { number = 0; values = length short ∷ [] }) × (plan_output bytes out ≡ short ++ drop (length short) out)
    unfolding plan_answer plan_output bytes_answer bytes_output answer
    plan_told h = (simp (eq-eqb _ 0 e, le-ltb (length out) (length short) h) refl, simp (eq-eqb _ 0 e, le-ltb (length out) (length short) h) refl)

    -- an output as long as the plan is always enough
    pub plan_fits : length bytes ≤ length out → (plan_answer bytes (length out)).number ≡ 0
    plan_fits h = ap (λ (a : Answer). a.number) (plan_told (omega (arith, no_longer bytes e))).0

  -- ---- where the writer returns 0
  module _ (z : (plan_answer bytes (length out)).number ≡ 0) where
    plan_accepted : (read_model bytes).refusal ≡ 0
    plan_accepted = by (eqb (read_model bytes).refusal 0) refl
      where
        by : (t : Bool) → eqb (read_model bytes).refusal 0 ≡ t → (read_model bytes).refusal ≡ 0
        by true q = eqb-true _ _ q
        by false q = let ne = eqb-false _ _ q in absurd (ne (sym (ap (λ (a : Answer). a.number) (plan_refused ne).0) ∙ z))

    enough : length short ≤ length out
    enough = by (dec_lt (length out) (length short))
      where
        by : Dec (length out < length short) → length short ≤ length out
        by (yes h) = absurd (omega (arith, z, ap (λ (a : Answer). a.number) (plan_short plan_accepted h).0))
        by (no h) = omega arith

    count_is : get_or (plan_answer bytes (length out)).values 0 0 ≡ length short
    count_is = ap (λ (a : Answer). get_or a.values 0 0) (plan_told plan_accepted enough).0

    -- "in shortest numbers": the plan's, with 0 for a limit that a blank means, each in shortest form
    pub plan_is : plan_written bytes out ≡ shortest_plan (read_model bytes)
    plan_is =
        ap₂ take count_is (plan_told plan_accepted enough).1 ∙ take-append_seam short (drop (length short) out)

    -- Other fields take a byte as 0 does, so being shortest does not decide between them. "writes the 0 exactly where the default gives the same limit,
    -- M+1 or not": in mark 1 that is "a stay field of M+1 becoming 0".
    pub plan_blanks : (stay : ℕ → ℕ → List ℕ) × (plan_written bytes out ≡ spell_all (numbers_of stay (read_model bytes)))
        × ((l x : ℕ) → Blank (read_model bytes) l x (limit_at (read_model bytes).model l x) → stay l x ≡ 0 ∷ [])
        × ((l x : ℕ) → (Blank (read_model bytes) l x (limit_at (read_model bytes).model l x) → ⊥) → stay l x ≡ (limit_at (read_model bytes).model l x + 1) ∷ [])
    unfolding shortest_plan plan_numbers
    plan_blanks =
        let r = read_model bytes in
        let marked = (accepted_whole bytes plan_accepted).marked in (
          stay_numbers r,
          plan_is,
          λ l x b. let v = limit_at r.model l x in simp (eq-eqb v _ (sym ((blank_law r l x marked v).0 b))) refl,
          λ l x n. let v = limit_at r.model l x in simp (ne_eqb v _ (λ e. n ((blank_law r l x marked v).1 (sym e)))) refl,
        )

    -- the answer is how many bytes were written
    pub plan_length : get_or (plan_answer bytes (length out)).values 0 0 ≡ length (plan_written bytes out)
    plan_length = count_is ∙ ap length (sym plan_is)

    -- "Reading the output yields the model read from the input, limits compared and not stay fields", and the mark
    pub plan_reads : read_model (plan_written bytes out) ≡ read_model bytes
    plan_reads = ap read_model plan_is ∙ reads_back (read_model bytes) (accepted_whole bytes plan_accepted)

    pub plan_spells : SpellsPlan (plan_written bytes out) (read_model bytes)
    plan_spells = subst (λ (l : List ℕ). SpellsPlan l (read_model bytes)) (sym plan_is) (shortest_spells (read_model bytes) (accepted_whole bytes plan_accepted))

    -- "no accepted spelling is shorter": of just this reading, and of the same content, "among plans of one mark"
    pub plan_least : (cs : List ℕ) → SpellsPlan cs (read_model bytes) → length (plan_written bytes out) ≤ length cs
    plan_least cs s = subst (λ (l : List ℕ). length l ≤ length cs) (sym plan_is) (plan_shortest cs (read_model bytes) s)

    pub plan_none_shorter : (cs : List ℕ) → (read_model cs).refusal ≡ 0 → SameContent (read_model bytes) (read_model cs)
        → length (plan_written bytes out) ≤ length cs
    plan_none_shorter cs e c = subst (λ (l : List ℕ). length l ≤ length cs) (sym plan_is) (none_shorter bytes cs e c)

    -- verdict, marks, evidence, check and all that is left are those of the input
    pub plan_answers : SameAnswers (plan_written bytes out) bytes
    plan_answers = same_answers (plan_written bytes out) bytes plan_reads

-- what is written is its own shortest form, for which an output of its length is enough
pub plan_own : (bytes out out' : List ℕ) → (plan_answer bytes (length out)).number ≡ 0 → length (plan_written bytes out) ≤ length out'
    → ((plan_answer (plan_written bytes out) (length out')).number ≡ 0) × (plan_written (plan_written bytes out) out' ≡ plan_written bytes out)
plan_own bytes out out' z h =
    let same = plan_reads bytes out z in
    let taken : (read_model (plan_written bytes out)).refusal ≡ 0 = ap (λ (r : Reading). r.refusal) same ∙ plan_accepted bytes out z in
    let again = plan_fits (plan_written bytes out) out' taken h in
    (again, plan_is (plan_written bytes out) out' again ∙ ap shortest_plan same ∙ sym (plan_is bytes out z))

-- "two models with the same header, kinds, limits and edges in order give the same bytes", and only they do; the mark is of the header
pub plan_same : (bytes out bytes' out' : List ℕ) → (plan_answer bytes (length out)).number ≡ 0 → (plan_answer bytes' (length out')).number ≡ 0
    → SameContent (read_model bytes) (read_model bytes') ↔ (plan_written bytes out ≡ plan_written bytes' out')
plan_same bytes out bytes' out' z z' =
    let r = read_model bytes in
    let s = read_model bytes' in
    let w = plan_is bytes out z in
    let w' = plan_is bytes' out' z' in (
      λ c. w ∙ same_bytes r s c ∙ sym w',
      λ e. same_back r s (accepted_whole bytes (plan_accepted bytes out z)) (accepted_whole bytes' (plan_accepted bytes' out' z')) (sym w ∙ e ∙ w'),
    )
