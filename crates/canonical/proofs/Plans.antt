-- Which bytes spell which plan: the reader and the paper's form agree.
use Prim.Native.Nat.{ℕ, ◌+◌, ◌-◌, ◌≤◌, ◌<◌}
use native.Mathlib.Omega.{arith}
use mathlib.Core.Path.{◌≡◌, refl, sym, ap, ap₂, subst, ◌∙◌}
use mathlib.Core.Logic.{◌↔◌}
use mathlib.Core.List.{List, [], ◌∷◌, ◌++◌}
use mathlib.Core.Bool.{cond}
use lib.ListN.{get_or}
use lib.Dec.{eqb}
use borrow.Author.Tests.{eqb-true, eqb-false, ne_eqb}
use Rattle.number.specs.Sequence.{SpellsAll}
use Rattle.number.proofs.Laws.{cond_ind}
use Rattle.number.proofs.Sequence.{plain, reads_law}
use Rattle.model.specs.declared.Model.{Model}
use Rattle.parser.specs.Parse.{Reading}
use Rattle.model.specs.Each.{gather}
use Rattle.model.specs.Model.{slot, source_of, target_of, limit_at, low_at, high_at, Lawful}
use Rattle.stay_fields.specs.Resolve.{limit_of}
use Rattle.parser.specs.Parse.{parse_model}
use Rattle.limits.specs.Limits.{KnownMark}
use Rattle.edge_walks.specs.Cycle.{LeavesUnreset, unreset}
use Rattle.plan_reader.specs.Accept.{judged, read_model, Whole}
use Rattle.canonical.specs.Canonical.{location_numbers, guard_numbers, edge_numbers, numbers_of, Stays, blank, written, SpellsPlan}
use Rattle.parser.proofs.Arrays.{row_ext, grid_ext}
use Rattle.canonical.proofs.Blanks.{blank_law, default_same}
use Rattle.model.proofs.Gather.{gather_ext}
use Rattle.parser.proofs.Drafts.{Draft, InRange, draft_numbers, draft_read, read_draft}
use Rattle.parser.proofs.Finals.{final, resolved_draft, final-kind, final_limit, final-source, final-target, final-reset, final-low, final-high, final_lawful, final_tidy}
use Rattle.edge_walks.proofs.ClosedWalks.{unreset_law}
use Rattle.plan_reader.proofs.Accepted.{accepted_parse, accepted_law, accepted_resets}

-- ---- a stay field and its limit

field_stays : (r : Reading) → KnownMark r.mark → (l x v : ℕ)
    → limit_at r.model l x ≡ limit_of r.mark r.model l x v → Stays r l x (v ∷ [])
field_stays r marked l x v =
    cond_ind (λ (k : ℕ). limit_at r.model l x ≡ k → Stays r l x (v ∷ [])) (eqb v 0)
    (λ q e. subst (λ (w : ℕ). Stays r l x (w ∷ [])) (sym (eqb-true v 0 q)) (blank ((blank_law r l x marked _).1 (sym e))))
    (λ q e. let d = eqb-false v 0 q in let z : limit_at r.model l x + 1 ≡ v = omega arith in subst (λ (w : ℕ). Stays r l x (w ∷ [])) z written)

-- its number
record Meant (r : Reading) (l x : ℕ) (vs : List ℕ) : Type 0 where
  alone : vs ≡ get_or vs 0 0 ∷ []
  range : get_or vs 0 0 ≤ r.model.ceiling + 1
  limit : limit_of r.mark r.model l x (get_or vs 0 0) ≡ limit_at r.model l x

stays_field : (r : Reading) → KnownMark r.mark → (l x : ℕ) (vs : List ℕ) → Lawful r.model → Stays r l x vs → Meant r l x vs
stays_field r marked l x _ ok (blank b) = record { alone = refl; range = omega arith; limit = (blank_law r l x marked _).0 b }
stays_field r marked l x _ ok written =
    record {
      alone = refl;
      range = omega (arith, ok.ranges.invariant (slot l x));
      limit = simp (ne_eqb (limit_at r.model l x + 1) 0 (λ e. omega arith)) (omega arith);
    }

-- ---- what was read is spelt

module _ (bs : List ℕ) (d : Draft) (g : InRange d) where
  abbrev done : Reading
  done = record { refusal = 0; mark = d.mark; model = final d }

  abbrev stay : ℕ → ℕ → List ℕ
  stay l x = (d.place l).1 x ∷ []

  numbers_drafted : draft_numbers d ≡ numbers_of stay done
  unfolding numbers_of
  numbers_drafted =
      ap (λ (l : List ℕ). d.mark ∷ d.clocks ∷ d.ceiling ∷ d.locations ∷ d.edges ∷ d.start ∷ l)
      (ap₂ ◌++◌
      (gather_ext d.locations _ (location_numbers stay done) (λ l h. ap (λ (k : ℕ). k ∷ gather d.clocks (stay l)) (sym (final-kind d g l h))))
      (gather_ext d.edges _ (edge_numbers done) (λ e h.
      ap₂ ◌∷◌ (sym (final-source d g e h)) (ap₂ ◌∷◌ (sym (final-target d g e h)) (ap₂ ◌∷◌ (sym (final-reset d g e h))
      (gather_ext d.clocks _ (guard_numbers done e) (λ x k.
      ap₂ (λ (v w : ℕ). v ∷ w ∷ []) (sym (final-low d g e h x k)) (sym (final-high d g e h x k)))))))))

  drafted_plan : SpellsAll bs (draft_numbers d) → SpellsPlan bs done
  drafted_plan s =
      record {
        done = refl;
        marked = g.mark;
        lawful = final_lawful d g;
        tidy = final_tidy d g;
        stay = stay;
        stays = λ l x h k. field_stays done g.mark l x ((d.place l).1 x) (final_limit d g l x h k);
        bytes = subst (SpellsAll bs) numbers_drafted s;
      }

pub plan_read : (bs : List ℕ) → (parse_model bs).refusal ≡ 0 → SpellsPlan bs (parse_model bs)
plan_read bs e =
    let a = read_draft bs e in
    let d = a.draft in
    subst (SpellsPlan bs) (sym (a.is ∙ ap (λ (m : Model). record { refusal = 0; mark = d.mark; model = m }) (resolved_draft d)))
    (drafted_plan bs d a.range ((reads_law plain bs 0 (draft_numbers d) (omega arith)).0 a.reads))

-- ---- what is spelt is read

make : ℕ → ℕ → ℕ → ℕ → ℕ → List ℕ → List ℕ → List ℕ → List ℕ → List ℕ → List ℕ → List ℕ → Model
make n c l e s k i so ta re lo up =
    record {
      clocks = n;
      ceiling = c;
      locations = l;
      edges = e;
      start = s;
      kind = k;
      invariant = i;
      source = so;
      target = ta;
      reset = re;
      lower = lo;
      upper = up;
    }

abbrev remake : Model → Model
remake m =
    make m.clocks m.ceiling m.locations m.edges m.start m.kind m.invariant m.source m.target m.reset m.lower m.upper

remade : (m : Model) → m ≡ remake m
unfolding make
remade m = refl

pub model_ext : (m k : Model) → m.clocks ≡ k.clocks → m.ceiling ≡ k.ceiling → m.locations ≡ k.locations → m.edges ≡ k.edges
    → m.start ≡ k.start → m.kind ≡ k.kind → m.invariant ≡ k.invariant → m.source ≡ k.source → m.target ≡ k.target
    → m.reset ≡ k.reset → m.lower ≡ k.lower → m.upper ≡ k.upper → m ≡ k
model_ext m k e1 e2 e3 e4 e5 e6 e7 e8 e9 e10 e11 e12 = let z : remake m ≡ remake k = cc in remade m ∙ z ∙ sym (remade k)

module _ (bs : List ℕ) (r : Reading) (s : SpellsPlan bs r) where
  abbrev m : Model
  m = r.model

  draft : Draft
  draft =
      record {
        mark = r.mark;
        clocks = m.clocks;
        ceiling = m.ceiling;
        locations = m.locations;
        edges = m.edges;
        start = m.start;
        place = λ l. (get_or m.kind l 0, λ x. get_or (s.stay l x) 0 0);
        link = λ e. (
          record { source = source_of m e; target = target_of m e; reset = get_or m.reset e 0 },
          λ x. record { low = low_at m e x; high = high_at m e x },
        );
      }

  meant : (l x : ℕ) → l < m.locations → x < m.clocks → Meant r l x (s.stay l x)
  meant l x h k = stays_field r s.marked l x (s.stay l x) s.lawful (s.stays l x h k)

  draft_range : InRange draft
  unfolding draft
  draft_range =
      let ok = s.lawful in
      let g = ok.ranges in
      record {
        mark = s.marked;
        clocks = ok.clocks;
        ceiling = ok.ceiling;
        locations = ok.locations;
        edges = ok.edges;
        start = omega (arith, ok.start);
        place = λ l h. (omega (arith, g.kind l), λ x k. (meant l x h k).range);
        link = λ e h. (
          (omega (arith, g.source e), omega (arith, g.target e), omega (arith, g.reset e)),
          λ x k. (g.lower (slot e x), omega (arith, g.upper (slot e x))),
        );
      }

  draft_numbers_lem : numbers_of s.stay r ≡ draft_numbers draft
  unfolding draft numbers_of
  draft_numbers_lem =
      ap (λ (l : List ℕ). r.mark ∷ m.clocks ∷ m.ceiling ∷ m.locations ∷ m.edges ∷ m.start ∷ (l ++ gather m.edges (edge_numbers r)))
      (gather_ext m.locations (location_numbers s.stay r) _ (λ l h.
      ap (λ (t : List ℕ). get_or m.kind l 0 ∷ t) (gather_ext m.clocks (s.stay l) _ (λ x k. (meant l x h k).alone))))

  draft_model : final draft ≡ m
  unfolding draft
  draft_model =
      let d = draft in
      let g = draft_range in
      let z = (final_lawful d g).sizes in
      let y = s.lawful.sizes in
      let t = final_tidy d g in
      let u = s.tidy in
      model_ext (final d) m refl refl refl refl refl
      (row_ext m.locations _ _ (z.kind ∙ sym y.kind) t.kind u.kind (final-kind d g))
      (grid_ext m.locations _ _ (z.invariant ∙ sym y.invariant) m.clocks t.invariant u.invariant
      (λ l x h k.
      final_limit d g l x h k
      ∙ ap (λ (b : ℕ). cond (eqb ((d.place l).1 x) 0) b ((d.place l).1 x - 1))
      (default_same r.mark (final d) m l x refl refl (final-source d g) (λ e q. final-high d g e q x k))
      ∙ (meant l x h k).limit))
      (row_ext m.edges _ _ (z.source ∙ sym y.source) t.source u.source (final-source d g))
      (row_ext m.edges _ _ (z.target ∙ sym y.target) t.target u.target (final-target d g))
      (row_ext m.edges _ _ (z.reset ∙ sym y.reset) t.reset u.reset (final-reset d g))
      (grid_ext m.edges _ _ (z.lower ∙ sym y.lower) m.clocks t.lower u.lower (λ e x h k. final-low d g e h x k))
      (grid_ext m.edges _ _ (z.upper ∙ sym y.upper) m.clocks t.upper u.upper (λ e x h k. final-high d g e h x k))

  pub plan_parses : parse_model bs ≡ r
  unfolding draft
  plan_parses =
      draft_read bs draft draft_range
      ((reads_law plain bs 0 (draft_numbers draft) (omega arith)).1 (subst (SpellsAll bs) draft_numbers_lem s.bytes))
      ∙ ap (λ (k : Model). record { refusal = 0; mark = r.mark; model = k }) (resolved_draft draft ∙ draft_model)
      ∙ ap (λ (k : ℕ). record { refusal = k; mark = r.mark; model = r.model }) (sym s.done)

-- ---- both

pub read_law : (bs : List ℕ) (r : Reading) → ((parse_model bs ≡ r) × (r.refusal ≡ 0)) ↔ SpellsPlan bs r
read_law bs r = (
  λ (e, z). subst (SpellsPlan bs) e (plan_read bs (ap (λ (t : Reading). t.refusal) e ∙ z)),
  λ s. (plan_parses bs r s, s.done),
)

-- a whole reading passes the walk test
pub judged_whole : (r : Reading) → Lawful r.model → (LeavesUnreset r.model → ⊥) → judged r ≡ r
judged_whole r ok none =
    cond_ind (λ (t : Reading). t ≡ r) (eqb r.refusal 0)
    (λ _. cond_ind (λ (t : Reading). t ≡ r) (unreset r.model) (λ u. absurd (none ((unreset_law r.model ok).0 u))) (λ _. refl))
    (λ _. refl)

-- the plan that accepted bytes spell
pub accepted_plan : (bs : List ℕ) → (read_model bs).refusal ≡ 0 → SpellsPlan bs (read_model bs)
accepted_plan bs e = subst (SpellsPlan bs) (sym (accepted_parse bs e)) (plan_read bs ((accepted_law bs).0 e).0)

pub accept_law : (bs : List ℕ) (r : Reading)
    → ((read_model bs ≡ r) × (r.refusal ≡ 0)) ↔ (SpellsPlan bs r × (LeavesUnreset r.model → ⊥))
unfolding read_model
accept_law bs r = (
  λ (e, z).
      let d : (read_model bs).refusal ≡ 0 = ap (λ (t : Reading). t.refusal) e ∙ z in
      subst (λ (t : Reading). SpellsPlan bs t × (LeavesUnreset t.model → ⊥)) e (accepted_plan bs d, accepted_resets bs d),
  λ (s, none). (ap judged (plan_parses bs r s) ∙ judged_whole r s.lawful none, s.done),
)

-- what an accepted reading keeps
pub accepted_whole : (bs : List ℕ) → (read_model bs).refusal ≡ 0 → Whole (read_model bs)
accepted_whole bs e =
    let s = accepted_plan bs e in
    record { done = e; marked = s.marked; lawful = s.lawful; tidy = s.tidy; resets = accepted_resets bs e }
