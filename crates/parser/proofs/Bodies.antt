-- What follows a header, as the code goes: the locations, the edges, the end.
use Prim.Native.Nat.{ℕ}
use native.Mathlib.Omega.{arith}
use mathlib.Core.Path.{◌≡◌, refl, sym, ap, subst, ◌∙◌}
use mathlib.Core.List.{List}
use Rattle.limits.specs.declared.refusal.Refusal.{Refusal}
use Rattle.limits.specs.Refusal.{code_of}
use Rattle.model.specs.declared.Model.{Model}
use Rattle.model.specs.Each.{each}
use Rattle.model.specs.Model.{Lawful}
use Rattle.stay_fields.specs.Resolve.{Resolvable}
use Rattle.parser.specs.Parse.{State, Reading, going, blank, refused, finish, parse_location, parse_edge, parse_body, parse_model}
use Rattle.parser.specs.Cursor.{Counted, SameHeader}
use Rattle.parser.proofs.Lawful.{Ok, body_ok, parsed}
use Rattle.parser.proofs.Stops.{stays, each_stops, edge_stops, finish_refused}

module _ (bs : List ℕ) (p mark : ℕ) (b : Model) (empty : b ≡ blank b.clocks b.ceiling b.locations b.edges b.start) where
  abbrev whole : Reading
  whole = parse_body bs p mark b.clocks b.ceiling b.locations b.edges b.start

  from_blank : (f : State → State) → f (going p b) ≡ f (going p (blank b.clocks b.ceiling b.locations b.edges b.start))
  from_blank f = ap (λ (m : Model). f (going p m)) empty

  pub whole_is : (t : State) → each b.locations (parse_location bs b.clocks b.ceiling) (going p b) ≡ t
      → finish bs mark (each b.edges (parse_edge bs b.clocks b.ceiling b.locations) t) ≡ whole
  unfolding parse_body
  whole_is t e =
      ap (λ (s : State). finish bs mark (each b.edges (parse_edge bs b.clocks b.ceiling b.locations) s))
      (sym e ∙ from_blank (each b.locations (parse_location bs b.clocks b.ceiling)))

  pub refused_first : (r : Refusal) → (each b.locations (parse_location bs b.clocks b.ceiling) (going p b)).refusal ≡ code_of r
      → refused (code_of r) ≡ whole
  refused_first r d =
      finish_refused bs mark _ r (stays (each_stops (edge_stops bs b.clocks b.ceiling b.locations) b.edges) _ r d) ∙ whole_is _ refl

  module _ (cs : List ℕ) (w : Model) (same : cs ≡ bs) (h : SameHeader b w) (at : ℕ)
      (e : each b.locations (parse_location bs b.clocks b.ceiling) (going p b) ≡ going at w) where
    abbrev edges_read : State
    edges_read = each w.edges (parse_edge cs w.clocks w.ceiling w.locations) (going at w)

    edges_are : edges_read ≡ each b.edges (parse_edge bs b.clocks b.ceiling b.locations) (going at w)
    edges_are = go h.clocks h.ceiling h.locations h.edges same
      where
        go : {n m l k : ℕ} {ds : List ℕ} → n ≡ b.clocks → m ≡ b.ceiling → l ≡ b.locations → k ≡ b.edges → ds ≡ bs
            → each k (parse_edge ds n m l) (going at w) ≡ each b.edges (parse_edge bs b.clocks b.ceiling b.locations) (going at w)
        go q o i j d = rw (q, o, i, j, d)

    pub refused_next : (r : Refusal) → edges_read.refusal ≡ code_of r → refused (code_of r) ≡ whole
    refused_next r d = finish_refused bs mark _ r (ap (λ (s : State). s.refusal) (sym edges_are) ∙ d) ∙ whole_is (going at w) e

    pub ended : (ds : List ℕ) (u : State) → ds ≡ cs → edges_read ≡ u → finish ds mark u ≡ whole
    ended ds u d q = go (d ∙ same)
      where
        go : ds ≡ bs → finish ds mark u ≡ whole
        go k = rw k (ap (finish bs mark) (sym q ∙ edges_are) ∙ whole_is (going at w) e)

    pub resolvable : (u : State) → edges_read ≡ u → Counted b → Resolvable u.model
    resolvable u q n =
        let k = body_ok bs b.clocks b.ceiling b.locations b.edges b.start p in
        let is : each b.edges (parse_edge bs b.clocks b.ceiling b.locations) (each b.locations (parse_location bs b.clocks b.ceiling) (going p (blank b.clocks b.ceiling b.locations b.edges b.start))) ≡ u =
        ap (each b.edges (parse_edge bs b.clocks b.ceiling b.locations))
        (sym (from_blank (each b.locations (parse_location bs b.clocks b.ceiling))) ∙ e) ∙ sym edges_are ∙ q in
        let o = subst (Ok b.clocks b.ceiling b.locations b.edges) is k in
        record {
          clocks = omega (arith, o.clocks, n.clocks);
          locations = omega (arith, o.locations, n.locations);
          edges = omega (arith, o.edges, n.edges);
          highs = λ i. omega (arith, o.highs i, n.ceiling);
        }

-- what is read is lawful
pub read_lawful : (bs : List ℕ) (mark : ℕ) (m : Model) → ◌≡◌ {A = Reading} (record { refusal = 0; mark = mark; model = m }) (parse_model bs) → Lawful m
read_lawful bs mark m e =
    subst (λ (r : Reading). Lawful r.model) (sym e) ((parsed bs).lawful (ap (λ (r : Reading). r.refusal) (sym e)))
