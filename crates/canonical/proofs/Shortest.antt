-- 02 (a) and (c): the shortest plan reads back; equal content gives equal bytes; no accepted spelling is shorter. The mark is part of the content.
use Prim.Native.Nat.{ℕ, ◌+◌, ◌*◌, ◌^◌, ◌≤◌, ◌<◌}
use native.Mathlib.Nat.{pow-le-pow_right}
use native.Mathlib.Omega.{arith}
use mathlib.Core.Path.{◌≡◌, refl, sym, ap, ap₂, subst, ◌∙◌}
use mathlib.Core.List.{List, [], ◌∷◌, ◌++◌}
use mathlib.Core.Bool.{cond}
use lib.ListN.{length, length-append}
use lib.Dec.{eqb}
use borrow.Author.Tests.{eqb-true, eqb-false}
use Rattle.number.specs.Number.{spell, spell_all}
use Rattle.number.specs.Sequence.{SpellsAll}
use Rattle.number.proofs.Laws.{cond_ind}
use Rattle.number.proofs.Spelling.{spell_grows, spell_all_few}
use Rattle.number.proofs.Sequence.{spelled, spelled_shortest, Fit, fit_none, fit_more, fit_append}
use Rattle.limits.specs.Limits.{max_clocks, max_locations, max_edges, KnownMark}
use Rattle.model.specs.declared.Model.{Model}
use Rattle.parser.specs.Parse.{Reading}
use Rattle.model.specs.Each.{gather}
use Rattle.model.specs.Model.{slot, limit_at, Lawful}
use Rattle.stay_fields.specs.Resolve.{default_at}
use Rattle.plan_reader.specs.Accept.{read_model, Whole}
use Rattle.parser.specs.Longest.{max_model_bytes}
use Rattle.canonical.specs.Canonical.{header_numbers, location_numbers, guard_numbers, edge_numbers, numbers_of, Stays, blank, written, SpellsPlan, stay_numbers, plan_numbers, shortest_plan}
use Rattle.canonical.specs.Same.{SameContent}
use Rattle.parser.proofs.Arrays.{row_ext, grid_ext}
use Rattle.canonical.proofs.Gather.{gather_most, gather_same, fit_gather, Shorter, shorter_more, shorter_append, shorter_gather}
use Rattle.canonical.proofs.Blanks.{blank_law, default_same}
use Rattle.canonical.proofs.Plans.{model_ext, accept_law, accepted_plan}

-- ---- it spells the plan

stay_spells : (r : Reading) → KnownMark r.mark → (l x : ℕ) → Stays r l x (stay_numbers r l x)
stay_spells r marked l x =
    cond_ind (Stays r l x) (eqb (limit_at r.model l x) (default_at r.mark r.model l x))
    (λ q. blank ((blank_law r l x marked _).1 (sym (eqb-true (limit_at r.model l x) _ q)))) (λ q. written)

-- a reset mask fits
mask_fits : (n v : ℕ) → n ≤ max_clocks → v < 2 ^ n → v < 2 ^ 21
mask_fits n v h k = let p : 2 ^ n ≤ 2 ^ max_clocks = pow-le-pow_right (omega arith) h in omega arith

stays_fit : (r : Reading) (l x : ℕ) {vs : List ℕ} → Lawful r.model → Stays r l x vs → Fit vs
stays_fit r l x ok (blank b) = fit_more (omega arith) fit_none
stays_fit r l x ok written = fit_more (omega (arith, ok.ranges.invariant (slot l x), ok.ceiling)) fit_none

-- any choice of fields that mean the limits
module _ (r : Reading) (w : Whole r) (stay : ℕ → ℕ → List ℕ)
    (stays : (l x : ℕ) → l < r.model.locations → x < r.model.clocks → Stays r l x (stay l x)) where
  numbers_fit : Fit (numbers_of stay r)
  unfolding numbers_of
  numbers_fit =
      let m = r.model in
      let ok = w.lawful in
      let g = ok.ranges in
      fit_more (omega (arith, w.marked)) (fit_more (omega (arith, ok.clocks)) (fit_more (omega (arith, ok.ceiling)) (fit_more (omega (arith, ok.locations))
      (fit_more (omega (arith, ok.edges)) (fit_more (omega (arith, ok.start, ok.locations))
      (fit_append (gather m.locations (location_numbers stay r))
      (fit_gather m.locations _ (λ l h.
      fit_more (omega (arith, g.kind l)) (fit_gather m.clocks _ (λ x k. stays_fit r l x ok (stays l x h k)))))
      (fit_gather m.edges _ (λ e h.
      fit_more (omega (arith, g.source e, ok.locations)) (fit_more (omega (arith, g.target e, ok.locations))
      (fit_more (mask_fits m.clocks _ ok.clocks.1 (g.reset e))
      (fit_gather m.clocks _ (λ x k.
      fit_more (omega (arith, g.lower (slot e x), g.upper (slot e x), ok.ceiling))
      (fit_more (omega (arith, g.upper (slot e x), ok.ceiling)) fit_none)))))))))))))

  pub fields_spelled : SpellsAll (spell_all (numbers_of stay r)) (numbers_of stay r)
  fields_spelled = spelled (numbers_of stay r) numbers_fit

  pub fields_plan : (bs : List ℕ) → SpellsAll bs (numbers_of stay r) → SpellsPlan bs r
  fields_plan bs s =
      record {
        done = w.done;
        marked = w.marked;
        lawful = w.lawful;
        tidy = w.tidy;
        stay = stay;
        stays = stays;
        bytes = s;
      }

pub shortest_spells : (r : Reading) → Whole r → SpellsPlan (shortest_plan r) r
unfolding shortest_plan plan_numbers
shortest_spells r w =
    let stays : (l x : ℕ) → l < r.model.locations → x < r.model.clocks → Stays r l x (stay_numbers r l x) = λ l x _ _. stay_spells r w.marked l x in
    fields_plan r w (stay_numbers r) stays (shortest_plan r) (fields_spelled r w (stay_numbers r) stays)

-- "Reading the output yields the model read from the input", and of every whole reading
pub reads_back : (r : Reading) → Whole r → read_model (shortest_plan r) ≡ r
reads_back r w = ((accept_law (shortest_plan r) r).1 (shortest_spells r w, w.resets)).0

pub idempotent : (r : Reading) → Whole r → shortest_plan (read_model (shortest_plan r)) ≡ shortest_plan r
idempotent r w = ap shortest_plan (reads_back r w)

-- ---- "two models with the same header, kinds, limits and edges in order give the same bytes"

-- what a blank stands for is the same
content_default : (r s : Reading) → SameContent r s → (l x : ℕ) → x < r.model.clocks
    → default_at r.mark r.model l x ≡ default_at s.mark s.model l x
content_default r s c l x k =
    ap (λ (mark : ℕ). default_at mark r.model l x) c.mark
    ∙ default_same s.mark r.model s.model l x c.ceiling c.edges c.source (λ e h. c.high e x h k)

pub same_bytes : (r s : Reading) → SameContent r s → shortest_plan r ≡ shortest_plan s
unfolding shortest_plan plan_numbers numbers_of
same_bytes r s c =
    ap spell_all
    (ap₂ ◌∷◌ c.mark (ap₂ ◌∷◌ c.clocks (ap₂ ◌∷◌ c.ceiling (ap₂ ◌∷◌ c.locations (ap₂ ◌∷◌ c.edges (ap₂ ◌∷◌ c.start
    (ap₂ ◌++◌
    (gather_same r.model.locations s.model.locations (location_numbers (stay_numbers r) r) (location_numbers (stay_numbers s) s) c.locations (λ l h.
    ap₂ ◌∷◌ (c.kind l h)
    (gather_same r.model.clocks s.model.clocks (stay_numbers r l) (stay_numbers s l) c.clocks (λ x k.
    ap₂ (λ (v w : ℕ). cond (eqb v w) (0 ∷ []) ((v + 1) ∷ [])) (c.limit l x h k) (content_default r s c l x k)))))
    (gather_same r.model.edges s.model.edges (edge_numbers r) (edge_numbers s) c.edges (λ e h.
    ap₂ ◌∷◌ (c.source e h) (ap₂ ◌∷◌ (c.target e h) (ap₂ ◌∷◌ (c.reset e h)
    (gather_same r.model.clocks s.model.clocks (guard_numbers r e) (guard_numbers s e) c.clocks (λ x k.
    ap₂ (λ (v w : ℕ). v ∷ w ∷ []) (c.low e x h k) (c.high e x h k))))))))))))))

reading_ext : (r s : Reading) → r.refusal ≡ s.refusal → r.mark ≡ s.mark → r.model ≡ s.model → r ≡ s
reading_ext r s e f g =
    ap₂ (λ (k : ℕ) (m : Model). record { refusal = k; mark = r.mark; model = m }) e g
    ∙ ap (λ (k : ℕ). record { refusal = s.refusal; mark = k; model = s.model }) f

-- whole readings of the same content are one
pub content_equal : (r s : Reading) → Whole r → Whole s → SameContent r s → r ≡ s
content_equal r s a b c =
    let m = r.model in
    let y = a.lawful.sizes in
    let z = b.lawful.sizes in
    let t = a.tidy in
    let u = b.tidy in
    let one : r.model ≡ s.model
    = model_ext r.model s.model c.clocks c.ceiling c.locations c.edges c.start
    (row_ext m.locations _ _ (y.kind ∙ sym z.kind) t.kind (rw c.locations u.kind) c.kind)
    (grid_ext m.locations _ _ (y.invariant ∙ sym z.invariant) m.clocks t.invariant (rw (c.locations, c.clocks) u.invariant) c.limit)
    (row_ext m.edges _ _ (y.source ∙ sym z.source) t.source (rw c.edges u.source) c.source)
    (row_ext m.edges _ _ (y.target ∙ sym z.target) t.target (rw c.edges u.target) c.target)
    (row_ext m.edges _ _ (y.reset ∙ sym z.reset) t.reset (rw c.edges u.reset) c.reset)
    (grid_ext m.edges _ _ (y.lower ∙ sym z.lower) m.clocks t.lower (rw (c.edges, c.clocks) u.lower) c.low)
    (grid_ext m.edges _ _ (y.upper ∙ sym z.upper) m.clocks t.upper (rw (c.edges, c.clocks) u.upper) c.high) in
    let z : r.refusal ≡ s.refusal = a.done ∙ sym b.done in
    reading_ext r s z c.mark one

pub same_self : (r : Reading) → SameContent r r
same_self r =
    record {
      mark = refl;
      clocks = refl;
      ceiling = refl;
      locations = refl;
      edges = refl;
      start = refl;
      kind = λ _ _. refl;
      limit = λ _ _ _ _. refl;
      source = λ _ _. refl;
      target = λ _ _. refl;
      reset = λ _ _. refl;
      low = λ _ _ _ _. refl;
      high = λ _ _ _ _. refl;
    }

-- equal bytes only of equal content
pub same_back : (r s : Reading) → Whole r → Whole s → shortest_plan r ≡ shortest_plan s → SameContent r s
same_back r s a b e = subst (SameContent r) (sym (reads_back r a) ∙ ap read_model e ∙ reads_back s b) (same_self r)

-- ---- "no accepted spelling is shorter"

stay_shortest : (r : Reading) → KnownMark r.mark → (l x : ℕ) (vs : List ℕ) → Stays r l x vs → Shorter (stay_numbers r l x) vs
unfolding spell_all
stay_shortest r marked l x _ (blank b) =
    cond_ind (λ (vs : List ℕ). Shorter vs (0 ∷ [])) (eqb (limit_at r.model l x) (default_at r.mark r.model l x)) (λ q. omega arith)
    (λ q. absurd (eqb-false (limit_at r.model l x) _ q (sym ((blank_law r l x marked _).0 b))))
stay_shortest r marked l x _ written =
    let v = limit_at r.model l x in
    cond_ind (λ (vs : List ℕ). Shorter vs ((v + 1) ∷ [])) (eqb v (default_at r.mark r.model l x))
    (λ q. omega (arith, length-append (spell 0) [], length-append (spell (v + 1)) [], spell_grows 0 (v + 1) (omega arith)))
    (λ q. omega arith)

pub plan_shortest : (bs : List ℕ) (r : Reading) → SpellsPlan bs r → length (shortest_plan r) ≤ length bs
unfolding shortest_plan plan_numbers numbers_of
plan_shortest bs r s =
    let m = r.model in
    let here = shorter_append _ (gather m.edges (edge_numbers r)) _ (gather m.edges (edge_numbers r))
    (shorter_gather m.locations (location_numbers (stay_numbers r) r) (location_numbers s.stay r) (λ l h.
    shorter_more _ _ _ (shorter_gather m.clocks (stay_numbers r l) (s.stay l) (λ x k. stay_shortest r s.marked l x (s.stay l x) (s.stays l x h k)))))
    (omega arith) in
    let all : Shorter (numbers_of (stay_numbers r) r) (numbers_of s.stay r)
    = shorter_more _ _ _ (shorter_more _ _ _ (shorter_more _ _ _ (shorter_more _ _ _ (shorter_more _ _ _ (shorter_more _ _ _ here))))) in
    omega (arith, spelled_shortest s.bytes)

pub no_longer : (bs : List ℕ) → (read_model bs).refusal ≡ 0 → length (shortest_plan (read_model bs)) ≤ length bs
no_longer bs e = plan_shortest bs (read_model bs) (accepted_plan bs e)

pub none_shorter : (bs cs : List ℕ) → (read_model cs).refusal ≡ 0 → SameContent (read_model bs) (read_model cs)
    → length (shortest_plan (read_model bs)) ≤ length cs
none_shorter bs cs e c = subst (λ (l : List ℕ). length l ≤ length cs) (sym (same_bytes (read_model bs) (read_model cs) c)) (no_longer cs e)

-- ---- how long it is at most: three bytes a number

pub plan_most : (r : Reading) → Lawful r.model → length (shortest_plan r) ≤ max_model_bytes
unfolding shortest_plan plan_numbers numbers_of
plan_most r ok =
    let m = r.model in
    let places = gather m.locations (location_numbers (stay_numbers r) r) in
    let links = gather m.edges (edge_numbers r) in
    let a : length places ≤ max_locations * (1 + max_clocks) = gather_most (1 + max_clocks) m.locations max_locations _ ok.locations.1 (λ l _.
    let b : length (gather m.clocks (stay_numbers r l)) ≤ max_clocks * 1
    = gather_most 1 m.clocks max_clocks _ ok.clocks.1 (λ x _.
    cond_ind (λ (vs : List ℕ). length vs ≤ 1) (eqb (limit_at m l x) (default_at r.mark m l x)) (λ _. omega arith) (λ _. omega arith)) in
    omega arith) in
    let c : length links ≤ max_edges * (3 + 2 * max_clocks) = gather_most (3 + 2 * max_clocks) m.edges max_edges _ ok.edges (λ e _.
    let b : length (gather m.clocks (guard_numbers r e)) ≤ max_clocks * 2 = gather_most 2 m.clocks max_clocks _ ok.clocks.1 (λ x _. omega arith) in
    omega arith) in
    omega (arith, spell_all_few (header_numbers r ++ (places ++ links)), length-append places links)
