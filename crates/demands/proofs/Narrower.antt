-- Beyond request (c): tighter stay limits mark no further state. So a plan whose mark becomes 2, and nothing else, is accepted as it was, and safe if it was.
use mathlib.Core.Path.{◌≡◌, refl, sym, ap, ap₂, subst, ◌∙◌}
use mathlib.Core.Bool.{Bool, true, false, cond}
use mathlib.Core.List.{List, [], ◌∷◌, ◌++◌}
use mathlib.Core.Logic.{inl}
use Prim.Native.Nat.{ℕ, zero, suc, ◌-◌, ◌≤◌, ◌<◌}
use native.Mathlib.Decide.{dec_lt}
use native.Mathlib.Omega.{arith}
use lib.ListN.{get_or}
use lib.Dec.{eqb}
use borrow.Author.Tests.{eq-eqb}
use Rattle.number.specs.Number.{spell}
use Rattle.number.specs.Sequence.{SpelledBy, SpellsAll}
use Rattle.number.proofs.Spelling.{spell_spells}
use Rattle.number.proofs.Sequence.{plain, reads_law, spelled_once}
use Rattle.theory.specs.Automaton.{Automaton, Edge}
use Rattle.theory.specs.Below.{tab}
use Rattle.theory.specs.Pointwise.{Each}
use Rattle.theory.specs.Region.{Region, Fits}
use Rattle.theory.specs.StateGraph.{region_count}
use Rattle.theory.specs.RegionGraph.{Allowed, Enabled, Flow, FlowWalk, Step, Marked}
use Rattle.model.specs.declared.Model.{Model}
use Rattle.parser.specs.Parse.{Reading}
use Rattle.model.specs.Model.{slot, source_of, target_of}
use Rattle.stay_fields.specs.Resolve.{default_at, limit_of}
use Rattle.parser.specs.Parse.{parse_model}
use Rattle.edge_walks.specs.Opening.{OpensAlone}
use Rattle.edge_walks.specs.Cycle.{DrawingWalk, here, step, Counts, LeavesUnreset}
use Rattle.plan_reader.specs.Accept.{read_model}
use Rattle.parser.proofs.Drafts.{Draft, InRange, Drafted, draft_numbers, drawn, read_of, read_draft, draft_read}
use Rattle.parser.proofs.Finals.{final, resolved_draft, default_most, final_limit, final_lawful, final_tidy}
use Rattle.plan_reader.proofs.Accepted.{accepted_parse, accepted_law}
use Rattle.graph.specs.Plan.{automaton_of, entries_at}
use Rattle.graph.specs.States.{states}
use Rattle.call.specs.Call.{model_of, enough, refusal}
use Rattle.op_judge.specs.Judge.{judged}
use Rattle.demands.specs.Told.{verdict_in}
use Rattle.demands.proofs.Demand2.{verdict_safe}

-- ---- automata that differ in their stay limits alone

abbrev with_limits : Automaton → (ℕ → List ℕ) → Automaton
with_limits a limits =
    record {
      clocks = a.clocks;
      ceiling = a.ceiling;
      start = a.start;
      invariant = limits;
      forbidden = a.forbidden;
      edges = a.edges;
    }

module _ (a : Automaton) (limits : ℕ → List ℕ) (wider : (l : ℕ) (xs : Region) → Fits xs (a.invariant l) → Fits xs (limits l)) where
  abbrev b : Automaton
  b = with_limits a limits

  allowed_wider : {l : ℕ} {xs : Region} → Allowed a l xs → Allowed b l xs
  allowed_wider {l} {xs} h = record { region = h.region; stays = wider l xs h.stays }

  enabled_wider : {g : Edge} {l : ℕ} {xs : Region} → Enabled a g l xs → Enabled b g l xs
  enabled_wider h = record { drawn = h.drawn; here = h.here; low = h.low; high = h.high }

  flow_wider : {l k : ℕ} {xs ys : Region} → Flow a l xs k ys → Flow b l xs k ys
  flow_wider (Flow.time p q) = Flow.time (allowed_wider p) (allowed_wider q)
  flow_wider (Flow.jump g o p q) = Flow.jump g (enabled_wider o) (allowed_wider p) (allowed_wider q)

  walk_wider : {l k n : ℕ} {xs ys : Region} → FlowWalk a l xs k ys n → FlowWalk b l xs k ys n
  walk_wider FlowWalk.stop = FlowWalk.stop
  walk_wider (FlowWalk.move s w) = FlowWalk.move (flow_wider s) (walk_wider w)

  step_wider : {l k : ℕ} {xs ys : Region} → Step a l xs k ys → Step b l xs k ys
  step_wider (Step.flow s) = Step.flow (flow_wider s)
  step_wider (Step.face p q f) = Step.face (allowed_wider p) (allowed_wider q) f
  step_wider (Step.touch p q f (n, w)) = Step.touch (allowed_wider p) (allowed_wider q) f (n, walk_wider w)

  marked_wider : {l : ℕ} {xs : Region} → Marked a l xs → Marked b l xs
  marked_wider Marked.begin = Marked.begin
  marked_wider (Marked.onward p s) = Marked.onward (marked_wider p) (step_wider s)

tab_fits : (n : ℕ) (f g : ℕ → ℕ) → ((i : ℕ) → i < n → f i ≤ g i) → {xs : Region} → Fits xs (tab n f) → Fits xs (tab n g)
unfolding tab
tab_fits zero f g h p = p
tab_fits (suc n) f g h (Each.more {x = y} p t) =
    Each.more {x = y} {c = g zero} (omega (arith, h zero (omega arith))) (tab_fits n (λ i. f (suc i)) (λ i. g (suc i)) (λ i q. h (suc i) (omega arith)) t)

-- ---- drafts that differ in their mark alone

abbrev in_mark2 : Draft → Draft
in_mark2 d =
    record {
      mark = 2;
      clocks = d.clocks;
      ceiling = d.ceiling;
      locations = d.locations;
      edges = d.edges;
      start = d.start;
      place = d.place;
      link = d.link;
    }

module _ (d : Draft) (g : InRange d) (one : d.mark ≡ 1) where
  range2 : InRange (in_mark2 d)
  range2 =
      record {
        mark = (omega arith, omega arith);
        clocks = g.clocks;
        ceiling = g.ceiling;
        locations = g.locations;
        edges = g.edges;
        start = g.start;
        place = g.place;
        link = g.link;
      }

  -- no limit is above that of mark 1
  limit_narrower : (l x v : ℕ) → limit_of 2 (final (in_mark2 d)) l x v ≤ limit_of d.mark (final d) l x v
  limit_narrower l x v = by (eqb v 0)
    where
      ceiling : default_at d.mark (final d) l x ≡ d.ceiling
      ceiling = simp (eq-eqb d.mark 1 one)

      by : (t : Bool) → cond t (default_at 2 (final (in_mark2 d)) l x) (v - 1) ≤ cond t (default_at d.mark (final d) l x) (v - 1)
      by true = omega (arith, ceiling, default_most 2 (final (in_mark2 d)) l x (λ e. omega (arith, (final_lawful (in_mark2 d) range2).ranges.upper (slot e x))))
      by false = omega arith

  entry_narrower : (l x : ℕ) → x < d.clocks → get_or (final (in_mark2 d)).invariant (slot l x) 0 ≤ get_or (final d).invariant (slot l x) 0
  entry_narrower l x h = by (dec_lt l d.locations)
    where
      by : Dec (l < d.locations) → get_or (final (in_mark2 d)).invariant (slot l x) 0 ≤ get_or (final d).invariant (slot l x) 0
      by (yes k) = omega (arith, final_limit (in_mark2 d) range2 l x k h, final_limit d g l x k h, limit_narrower l x ((d.place l).1 x))
      by (no k) = omega (arith, (final_tidy (in_mark2 d) range2).invariant l x (omega (arith, g.clocks)) (inl (omega arith)))

  draft_narrower : {l : ℕ} {xs : Region} → Marked (automaton_of (final (in_mark2 d))) l xs → Marked (automaton_of (final d)) l xs
  unfolding automaton_of
  draft_narrower =
      marked_wider _ (entries_at d.clocks (final d).invariant) (λ l xs. tab_fits d.clocks _ _ (entry_narrower l))

  -- an edge that can open alone within tighter limits can within these
  opens_wider : (e : ℕ) → OpensAlone (final (in_mark2 d)) e → OpensAlone (final d) e
  opens_wider e o =
      record {
        leaves = λ x h. omega (arith, o.leaves x h, entry_narrower (source_of (final d) e) x h);
        enters = λ x h k. omega (arith, o.enters x h k, entry_narrower (target_of (final d) e) x h);
      }

  drawn_wider : (x : ℕ) {k v u : ℕ} → DrawingWalk (final (in_mark2 d)) (Counts (final (in_mark2 d)) x) k v u → DrawingWalk (final d) (Counts (final d) x) k v u
  drawn_wider x here = here
  drawn_wider x (step e h s (k, o) w) = step e h s (k, opens_wider e o) (drawn_wider x w)

  unreset_wider : LeavesUnreset (final (in_mark2 d)) → LeavesUnreset (final d)
  unreset_wider (x, h, (k, v, w)) = (x, h, (k, v, drawn_wider x w))

  states_same : states (final (in_mark2 d)) ≡ states (final d)
  unfolding automaton_of region_count
  states_same = refl

  forbidden_same : (l : ℕ) → (automaton_of (final (in_mark2 d))).forbidden l ≡ (automaton_of (final d)).forbidden l
  unfolding automaton_of
  forbidden_same l = refl

-- ---- bytes that differ in the mark alone

-- there are such bytes, whatever the first number was
pub remark : {bytes ns : List ℕ} {v : ℕ} → SpellsAll bytes (v ∷ ns) → (bytes' : List ℕ) × SpellsAll bytes' (2 ∷ ns)
remark (SpelledBy.more {bs = rest} _ s) = (spell 2 ++ rest, SpelledBy.more (spell_spells 2 (omega arith)) s)

abbrev others : List ℕ → List ℕ
others [] = []
others (v ∷ vs) = vs

module _ (bytes bytes' ns : List ℕ) (spelt : SpellsAll bytes (1 ∷ ns)) (spelt' : SpellsAll bytes' (2 ∷ ns)) (e : (read_model bytes).refusal ≡ 0) where
  read : Drafted bytes (parse_model bytes)
  read = read_draft bytes ((accepted_law bytes).0 e).0

  abbrev d : Draft
  d = read.draft

  numbers : draft_numbers d ≡ 1 ∷ ns
  numbers = spelled_once plain _ _ ((reads_law plain bytes 0 (draft_numbers d) (omega arith)).0 read.reads) spelt

  one : d.mark ≡ 1
  one = ap (λ (vs : List ℕ). get_or vs 0 0) numbers

  model_is : (read_model bytes).model ≡ final d
  model_is = ap (λ (r : Reading). r.model) (accepted_parse bytes e ∙ read.is) ∙ resolved_draft d

  parsed' : parse_model bytes' ≡ read_of 2 (drawn (in_mark2 d))
  parsed' =
      let z : draft_numbers (in_mark2 d) ≡ 2 ∷ ns = ap (λ (vs : List ℕ). 2 ∷ others vs) numbers in
      draft_read bytes' (in_mark2 d) (range2 d read.range one)
      ((reads_law plain bytes' 0 (draft_numbers (in_mark2 d)) (omega arith)).1 (subst (SpellsAll bytes') (sym z) spelt'))

  parsed_model' : (parse_model bytes').model ≡ final (in_mark2 d)
  parsed_model' = ap (λ (r : Reading). r.model) parsed' ∙ resolved_draft (in_mark2 d)

  -- it is accepted, and has as many states
  pub mark_2_accepted : (read_model bytes').refusal ≡ 0
  mark_2_accepted =
      (accepted_law bytes').1 (
        ap (λ (r : Reading). r.refusal) parsed',
        λ u. ((accepted_law bytes).0 e).1
            (subst LeavesUnreset (sym (sym (ap (λ (r : Reading). r.model) (accepted_parse bytes e)) ∙ model_is))
            (unreset_wider d read.range one (subst LeavesUnreset parsed_model' u))),
      )

  model_is' : (read_model bytes').model ≡ final (in_mark2 d)
  model_is' = ap (λ (r : Reading). r.model) (accepted_parse bytes' mark_2_accepted) ∙ parsed_model'

  -- no state is marked that was not
  pub mark_2_narrower : {l : ℕ} {xs : Region} → Marked (automaton_of (model_of bytes')) l xs → Marked (automaton_of (model_of bytes)) l xs
  mark_2_narrower {l} {xs} m =
      subst (λ (k : Model). Marked (automaton_of k) l xs) (sym model_is)
      (draft_narrower d read.range one (subst (λ (k : Model). Marked (automaton_of k) l xs) model_is' m))

  module _ (lent : List ℕ) (taken : refusal bytes lent ≡ 0) where
    pub mark_2_taken : refusal bytes' lent ≡ 0
    unfolding refusal
    mark_2_taken =
        let same = ap states model_is' ∙ states_same d read.range one ∙ sym (ap states model_is) in
        ap₂ (λ (k s : ℕ). cond (eqb k 0) (cond (enough s lent) 0 8) k) (mark_2_accepted ∙ sym e) same ∙ taken

    forbidden : (l : ℕ) → (automaton_of (model_of bytes')).forbidden l ≡ (automaton_of (model_of bytes)).forbidden l
    forbidden l =
        ap (λ (k : Model). (automaton_of k).forbidden l) model_is' ∙ forbidden_same d read.range one l
        ∙ sym (ap (λ (k : Model). (automaton_of k).forbidden l) model_is)

    -- a safe plan stays safe
    pub mark_2_safe : verdict_in (judged bytes lent) ≡ 0 → verdict_in (judged bytes' lent) ≡ 0
    mark_2_safe safe =
        (verdict_safe bytes' lent mark_2_taken).1 (λ (l, xs, m, f).
        (verdict_safe bytes lent taken).0 safe (l, xs, mark_2_narrower m, sym (forbidden l) ∙ f))
