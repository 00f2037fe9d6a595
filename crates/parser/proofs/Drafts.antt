-- A plan as a reader meets it, number by number: which bytes hold it, and the model that is read from them.
use Prim.Native.Nat.{ℕ, suc, zero, ◌+◌, ◌*◌, ◌-◌, ◌^◌, ◌≤◌, ◌<◌}
use native.Mathlib.Omega.{arith}
use mathlib.Core.Path.{◌≡◌, refl, sym, ap, subst, ◌∙◌}
use mathlib.Core.List.{List, [], ◌∷◌, ◌++◌}
use lib.ListN.{length, replicate}
use lib.Dec.{eqb, ltb}
use borrow.Author.Tests.{eqb-true, eqb-false, ltb-false, le-ltb}
use Rattle.number.specs.Number.{read_number}
use Rattle.number.proofs.Laws.{cond_ind}
use Rattle.number.proofs.Sequence.{Reads, none, more, plain, reads_append, reads_first, reads_within}
use Rattle.model.specs.declared.Model.{Model}
use Rattle.parser.specs.Parse.{Reading}
use Rattle.parser.specs.Parse.{Field}
use Rattle.parser.specs.Parse.{State}
use Rattle.limits.specs.Limits.{max_clocks, max_ceiling, max_locations, max_edges, newest_mark, KnownMark}
use Rattle.model.specs.Each.{each, gather}
use Rattle.model.specs.Model.{slot, with_arrays, with_invariant}
use Rattle.stay_fields.specs.Resolve.{resolved}
use Rattle.parser.specs.Parse.{field_at, on_field, going, blank, refused, finish, with_kind, with_ends, with_guard, parse_location, parse_edge, parse_body, parse_counts, parse_model}
use Rattle.parser.proofs.Fields.{field_is, taken}
use Rattle.parser.proofs.Arrays.{row, line, grid}
use Rattle.parser.proofs.Readers.{Ends, Guard, body_reader}
use Rattle.number.specs.Number as number

-- the numbers of a plan: six of the header, then kind and stay fields of each location, then ends and guards of each edge
pub record Draft : Type 0 where
  pub mark : ℕ
  pub clocks : ℕ
  pub ceiling : ℕ
  pub locations : ℕ
  pub edges : ℕ
  pub start : ℕ
  pub place : ℕ → ℕ × (ℕ → ℕ)
  pub link : ℕ → Ends × (ℕ → Guard)

abbrev pub body_numbers : Draft → List ℕ
body_numbers d =
    gather d.locations (λ i. (d.place i).0 ∷ gather d.clocks (λ x. (d.place i).1 x ∷ []))
    ++ gather d.edges (λ i. (d.link i).0.source ∷ (d.link i).0.target ∷ (d.link i).0.reset
    ∷ gather d.clocks (λ x. ((d.link i).1 x).low ∷ ((d.link i).1 x).high ∷ []))

abbrev pub draft_numbers : Draft → List ℕ
draft_numbers d = d.mark ∷ d.clocks ∷ d.ceiling ∷ d.locations ∷ d.edges ∷ d.start ∷ body_numbers d

pub record InRange (d : Draft) : Type 0 where
  pub mark : KnownMark d.mark
  pub clocks : (1 ≤ d.clocks) × (d.clocks ≤ max_clocks)
  pub ceiling : (1 ≤ d.ceiling) × (d.ceiling ≤ max_ceiling)
  pub locations : (1 ≤ d.locations) × (d.locations ≤ max_locations)
  pub edges : d.edges ≤ max_edges
  pub start : d.start ≤ d.locations - 1
  pub place : (i : ℕ) → i < d.locations → ((d.place i).0 ≤ 1) × ((x : ℕ) → x < d.clocks → (d.place i).1 x ≤ d.ceiling + 1)
  pub link : (i : ℕ) → i < d.edges
      → (((d.link i).0.source ≤ d.locations - 1) × ((d.link i).0.target ≤ d.locations - 1) × ((d.link i).0.reset ≤ 2 ^ d.clocks - 1))
      × ((x : ℕ) → x < d.clocks → (((d.link i).1 x).low ≤ ((d.link i).1 x).high) × (((d.link i).1 x).high ≤ d.ceiling))

-- ---- the model, with the stay fields as spelt

abbrev pub blank_of : Draft → Model
blank_of d = blank d.clocks d.ceiling d.locations d.edges d.start

abbrev pub drawn : Draft → Model
drawn d =
    with_arrays (blank_of d)
    (row d.locations (λ i. (d.place i).0) (replicate max_locations 0))
    (grid d.locations d.clocks (λ i x. (d.place i).1 x) (replicate (max_clocks * max_locations) 0))
    (row d.edges (λ i. (d.link i).0.source) (replicate max_edges 0))
    (row d.edges (λ i. (d.link i).0.target) (replicate max_edges 0))
    (row d.edges (λ i. (d.link i).0.reset) (replicate max_edges 0))
    (grid d.edges d.clocks (λ i x. ((d.link i).1 x).low) (replicate (max_clocks * max_edges) 0))
    (grid d.edges d.clocks (λ i x. ((d.link i).1 x).high) (replicate (max_clocks * max_edges) 0))

-- what a reader makes of it
abbrev pub read_of : ℕ → Model → Reading
read_of mark m = record { refusal = 0; mark = mark; model = resolved mark m }

-- rounds over a model are rounds over its arrays
module _ (m : Model) (n : ℕ) where
  pub put_fields : (l : ℕ) (f : ℕ → ℕ) (k i so ta re lo up : List ℕ)
      → each n (λ x z. with_invariant z (slot l x) (f x)) (with_arrays m k i so ta re lo up) ≡ with_arrays m k (line n l f i) so ta re lo up
  unfolding each
  put_fields l f k i so ta re lo up = go n
    where
      go : (n : ℕ) → each n (λ x z. with_invariant z (slot l x) (f x)) (with_arrays m k i so ta re lo up) ≡ with_arrays m k (line n l f i) so ta re lo up
      go zero = refl
      go (suc n) = ap (λ (z : Model). with_invariant z (slot l n) (f n)) (go n)

  put_guards : (e : ℕ) (f : ℕ → Guard) (k i so ta re lo up : List ℕ)
      → each n (λ x z. with_guard z (slot e x) (f x).low (f x).high) (with_arrays m k i so ta re lo up)
      ≡ with_arrays m k i so ta re (line n e (λ x. (f x).low) lo) (line n e (λ x. (f x).high) up)
  unfolding each
  put_guards e f k i so ta re lo up = go n
    where
      go : (n : ℕ) → each n (λ x z. with_guard z (slot e x) (f x).low (f x).high) (with_arrays m k i so ta re lo up)
          ≡ with_arrays m k i so ta re (line n e (λ x. (f x).low) lo) (line n e (λ x. (f x).high) up)
      go zero = refl
      go (suc n) = ap (λ (z : Model). with_guard z (slot e n) (f n).low (f n).high) (go n)

  put_places : (c : ℕ) (f : ℕ → ℕ × (ℕ → ℕ)) (k i so ta re lo up : List ℕ)
      → each c (λ l y. each n (λ x z. with_invariant z (slot l x) ((f l).1 x)) (with_kind y l (f l).0)) (with_arrays m k i so ta re lo up)
      ≡ with_arrays m (row c (λ l. (f l).0) k) (grid c n (λ l x. (f l).1 x) i) so ta re lo up
  unfolding each
  put_places zero f k i so ta re lo up = refl
  put_places (suc c) f k i so ta re lo up =
      ap (λ (y : Model). each n (λ x z. with_invariant z (slot c x) ((f c).1 x)) (with_kind y c (f c).0)) (put_places c f k i so ta re lo up)
      ∙ put_fields c (λ x. (f c).1 x) _ _ so ta re lo up

  put_links : (c : ℕ) (f : ℕ → Ends × (ℕ → Guard)) (k i so ta re lo up : List ℕ)
      → each c (λ e y. each n (λ x z. with_guard z (slot e x) ((f e).1 x).low ((f e).1 x).high)
      (with_ends y e (f e).0.source (f e).0.target (f e).0.reset)) (with_arrays m k i so ta re lo up)
      ≡ with_arrays m k i (row c (λ e. (f e).0.source) so) (row c (λ e. (f e).0.target) ta) (row c (λ e. (f e).0.reset) re)
      (grid c n (λ e x. ((f e).1 x).low) lo) (grid c n (λ e x. ((f e).1 x).high) up)
  unfolding each
  put_links zero f k i so ta re lo up = refl
  put_links (suc c) f k i so ta re lo up =
      ap (λ (y : Model). each n (λ x z. with_guard z (slot c x) ((f c).1 x).low ((f c).1 x).high)
      (with_ends y c (f c).0.source (f c).0.target (f c).0.reset)) (put_links c f k i so ta re lo up)
      ∙ put_guards c (λ x. (f c).1 x) k i _ _ _ _ _

  pub put_limits : (c : ℕ) (f : ℕ → ℕ → ℕ) (k i so ta re lo up : List ℕ)
      → each c (λ l y. each n (λ x z. with_invariant z (slot l x) (f l x)) y) (with_arrays m k i so ta re lo up)
      ≡ with_arrays m k (grid c n f i) so ta re lo up
  unfolding each
  put_limits zero f k i so ta re lo up = refl
  put_limits (suc c) f k i so ta re lo up =
      ap (each n (λ x z. with_invariant z (slot c x) (f c x))) (put_limits c f k i so ta re lo up) ∙ put_fields c (f c) k _ so ta re lo up

module _ (d : Draft) where
  abbrev put : Model → Model
  put m =
      each d.edges (λ e y. each d.clocks (λ x z. with_guard z (slot e x) ((d.link e).1 x).low ((d.link e).1 x).high)
      (with_ends y e (d.link e).0.source (d.link e).0.target (d.link e).0.reset))
      (each d.locations (λ l y. each d.clocks (λ x z. with_invariant z (slot l x) ((d.place l).1 x)) (with_kind y l (d.place l).0)) m)

  put-drawn : put (blank_of d) ≡ drawn d
  put-drawn =
      ap (each d.edges (λ e y. each d.clocks (λ x z. with_guard z (slot e x) ((d.link e).1 x).low ((d.link e).1 x).high)
      (with_ends y e (d.link e).0.source (d.link e).0.target (d.link e).0.reset)))
      (put_places (blank_of d) d.clocks d.locations d.place _ _ _ _ _ _ _)
      ∙ put_links (blank_of d) d.clocks d.edges d.link _ _ _ _ _ _ _

-- ---- the whole of the bytes

-- a field that is read is gone on with
on_value : {A : Type 0} (bs : List ℕ) (at low high refusal : ℕ) (stop : ℕ → A) (go : ℕ → ℕ → A) (v p : ℕ)
    → read_number bs at ≡ number.Value v p → low ≤ v → v ≤ high → on_field (field_at bs at low high refusal) stop go ≡ go v p
on_value bs at low high refusal stop go v p e a b = ap (λ (f : Field). on_field f stop go) (field_is bs at low high refusal v p e a b)

module _ (bs : List ℕ) where
  finish_back : (mark : ℕ) (s : State) → (finish bs mark s).refusal ≡ 0
      → (s.refusal ≡ 0) × (length bs ≤ s.at) × (finish bs mark s ≡ read_of mark s.model)
  finish_back mark s =
      let Q : Reading → Type 0 = λ r. r.refusal ≡ 0 → (s.refusal ≡ 0) × (length bs ≤ s.at) × (r ≡ read_of mark s.model) in
      cond_ind Q (eqb s.refusal 0)
      (λ q. cond_ind Q (ltb s.at (length bs)) (λ t e. absurd (omega arith)) (λ t e. (eqb-true _ _ q, ltb-false _ _ t, refl)))
      (λ q e. absurd (eqb-false _ _ q e))

  finish_on : (mark : ℕ) (m : Model) → finish bs mark (going (length bs) m) ≡ read_of mark m
  finish_on mark m = simp (le-ltb (length bs) (length bs) (omega arith))

  pub record Drafted (r : Reading) : Type 0 where
    pub draft : Draft
    pub range : InRange draft
    pub reads : Reads bs 0 (draft_numbers draft) (length bs)
    pub is : r ≡ read_of draft.mark (drawn draft)

  pub draft_read : (d : Draft) → InRange d → Reads bs 0 (draft_numbers d) (length bs) → parse_model bs ≡ read_of d.mark (drawn d)
  unfolding parse_model parse_counts parse_body
  draft_read d g r =
      let (p1, a1, r1) = reads_first r in
      let (p2, a2, r2) = reads_first r1 in
      let (p3, a3, r3) = reads_first r2 in
      let (p4, a4, r4) = reads_first r3 in
      let (p5, a5, r5) = reads_first r4 in
      let (p6, a6, r6) = reads_first r5 in
      on_value bs 0 1 newest_mark 3 refused _ d.mark p1 a1 g.mark.0 g.mark.1
      ∙ on_value bs p1 1 max_clocks 3 refused _ d.clocks p2 a2 g.clocks.0 g.clocks.1
      ∙ on_value bs p2 1 max_ceiling 3 refused _ d.ceiling p3 a3 g.ceiling.0 g.ceiling.1
      ∙ on_value bs p3 1 max_locations 3 refused _ d.locations p4 a4 g.locations.0 g.locations.1
      ∙ on_value bs p4 0 max_edges 3 refused _ d.edges p5 a5 (omega arith) g.edges
      ∙ on_value bs p5 0 (d.locations - 1) 3 refused _ d.start p6 a6 (omega arith) g.start
      ∙ ap (finish bs d.mark) ((body_reader bs d.clocks d.ceiling d.locations d.edges).on (d.place, d.link) (g.place, g.link) p6 (length bs) (blank_of d) r6)
      ∙ finish_on d.mark (put d (blank_of d))
      ∙ ap (read_of d.mark) (put-drawn d)

  -- a number of the header
  header : (at low high : ℕ) (go : ℕ → ℕ → Reading)
      → ((v p : ℕ) → read_number bs at ≡ number.Value v p → low ≤ v → v ≤ high → (go v p).refusal ≡ 0 → Drafted (go v p))
      → (on_field (field_at bs at low high 3) refused go).refusal ≡ 0 → Drafted (on_field (field_at bs at low high 3) refused go)
  header at low high go f h =
      let a = taken (λ (r : Reading). r.refusal) bs at low high 3 refused go (omega arith) (λ r. refl) h in
      subst Drafted (sym a.is) (f a.value a.to a.reads a.least a.most (ap (λ (r : Reading). r.refusal) (sym a.is) ∙ h))

  body_draft : (p k n m l e s : ℕ) → Reads bs 0 (k ∷ n ∷ m ∷ l ∷ e ∷ s ∷ []) p
      → KnownMark k → (1 ≤ n) × (n ≤ max_clocks) → (1 ≤ m) × (m ≤ max_ceiling) → (1 ≤ l) × (l ≤ max_locations) → e ≤ max_edges → s ≤ l - 1
      → (parse_body bs p k n m l e s).refusal ≡ 0 → Drafted (parse_body bs p k n m l e s)
  unfolding parse_body
  body_draft p k n m l e s r hk hn hm hl he hs h =
      let f = finish_back k (each e (parse_edge bs n m l) (each l (parse_location bs n m) (going p (blank n m l e s)))) h in
      let b = (body_reader bs n m l e).back (going p (blank n m l e s)) f.0 in
      let d : Draft = record { mark = k; clocks = n; ceiling = m; locations = l; edges = e; start = s; place = b.what.0; link = b.what.1 } in
      let all : Reads bs 0 (draft_numbers d) b.to = reads_append r b.reads in
      let last : b.to ≡ length bs = omega (arith, f.1, ap (λ (t : State). t.at) b.is, reads_within plain all (omega arith)) in
      record {
        draft = d;
        range = record { mark = hk; clocks = hn; ceiling = hm; locations = hl; edges = he; start = hs; place = b.fine.0; link = b.fine.1 };
        reads = subst (Reads bs 0 (draft_numbers d)) last all;
        is = f.2 ∙ ap (λ (t : State). read_of k t.model) b.is ∙ ap (read_of k) (put-drawn d);
      }

  pub read_draft : (parse_model bs).refusal ≡ 0 → Drafted (parse_model bs)
  unfolding parse_model parse_counts
  read_draft =
      header 0 1 newest_mark _ (λ k p r1 a1 b1.
      header p 1 max_clocks _ (λ n q r2 a2 b2.
      header q 1 max_ceiling _ (λ m o r3 a3 b3.
      header o 1 max_locations _ (λ l t r4 a4 b4.
      header t 0 max_edges _ (λ e u r5 a5 b5.
      header u 0 (l - 1) _ (λ s w r6 a6 b6.
      body_draft w k n m l e s (more r1 (more r2 (more r3 (more r4 (more r5 (more r6 none)))))) (a1, b1) (a2, b2) (a3, b3) (a4, b4) b5 b6))))))
