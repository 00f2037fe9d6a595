-- Request (f) of 02: "A closed walk counts from now on only if every edge in it can open alone", from bytes. "The evidence wish holds for them too": Demand2,
-- Demand3 and Forever speak of every model that is not refused, so of those that are judged now as well.
use mathlib.Core.Path.{◌≡◌, refl, sym, ap, subst, ◌∙◌}
use mathlib.Core.Bool.{Bool, true, false, cond, false≢true}
use mathlib.Core.Logic.{◌↔◌, ◌⊎◌, inl, inr}
use mathlib.Core.List.{List, Memᴰ}
use Prim.Native.Nat.{ℕ, suc, ◌*◌, ◌<◌}
use native.Mathlib.Omega.{arith}
use lib.Dec.{eqb}
use borrow.Author.Tests.{ne_eqb}
use Rattle.theory.specs.Automaton.{Edge, Run}
use Rattle.theory.proofs.Below.{either}
use Rattle.model.specs.declared.Model.{Model}
use Rattle.parser.specs.Parse.{Reading}
use Rattle.parser.specs.Parse.{parse_model}
use Rattle.edge_walks.specs.Opening.{OpensAlone, opens_alone}
use Rattle.edge_walks.specs.Cycle.{DrawingWalk, Counts, LeavesUnreset}
use Rattle.edge_walks.proofs.Opens.{opens_law}
use Rattle.plan_reader.specs.Accept.{read_model}
use Rattle.plan_reader.proofs.Accepted.{refused_7_law}
use Rattle.canonical.specs.Canonical.{SpellsPlan}
use Rattle.canonical.proofs.Plans.{read_law, accept_law}
use Rattle.graph.specs.Plan.{edge_of, automaton_of}
use Rattle.robust.specs.Robust.{JumpsAlong}
use Rattle.robust.proofs.Opening.{run_opens}
use Rattle.robust_models.proofs.Opening.{model_opens, opens_jumps}
use Rattle.call.specs.Call.{model_of, enough, states_of, refusal}
use Rattle.demands.specs.Opening.{Keeps, UnresetBefore, Has, NoneCounts}
use Rattle.demands.proofs.Walks.{wider, none_of_both}

-- ---- walks of a model

known_open : (m : Model) (e : ℕ) → OpensAlone m e ⊎ (OpensAlone m e → ⊥)
known_open m e = by (either (opens_alone m e))
  where
    by : (opens_alone m e ≡ true) ⊎ (opens_alone m e ≡ false) → OpensAlone m e ⊎ (OpensAlone m e → ⊥)
    by (inl t) = inl ((opens_law m e).0 t)
    by (inr f) = inr (λ o. false≢true (sym f ∙ (opens_law m e).1 o))

none_law : (m : Model) → (LeavesUnreset m → ⊥) ↔ NoneCounts m
none_law m = (
  λ none. record { idle = λ x h. (each x).0 (λ k v w. none (x, h, (k, v, w))) },
  λ n (x, h, (k, v, w)). (each x).1 (n.idle x h) k v w,
)
  where
    each : (x : ℕ) → ((k v : ℕ) → DrawingWalk m (Counts m x) (suc k) v v → ⊥)
        ↔ ((k v : ℕ) (w : DrawingWalk m (Keeps m x) (suc k) v v) → (e : ℕ) × Has w e × (OpensAlone m e → ⊥))
    each x = none_of_both m (Keeps m x) (OpensAlone m) (Counts m x) (λ e. (λ c. c, λ c. c)) (known_open m)

module _ (bytes : List ℕ) where
  -- ---- which bytes are refused by 7, and which are judged

  pub seven_exactly : ((read_model bytes).refusal ≡ 7) ↔ ((r : Reading) × SpellsPlan bytes r × LeavesUnreset r.model)
  seven_exactly = (
    λ h. let (z, u) = (refused_7_law bytes).0 h in (parse_model bytes, (read_law bytes (parse_model bytes)).0 (refl, z), u),
    λ (r, s, u).
        let (p, z) = (read_law bytes r).1 s in
        (refused_7_law bytes).1 (ap (λ (t : Reading). t.refusal) p ∙ z, subst (λ (t : Reading). LeavesUnreset t.model) (sym p) u),
  )

  -- whatever scratch is lent: "then 6, 7, 8"
  pub seven_told : (lent : List ℕ) → (refusal bytes lent ≡ 7) ↔ ((r : Reading) × SpellsPlan bytes r × LeavesUnreset r.model)
  unfolding refusal
  seven_told lent = (
    λ h. seven_exactly.0 (by (eqb (read_model bytes).refusal 0) refl (enough (states_of bytes) lent) h),
    λ r. let seven = seven_exactly.1 r in simp (ne_eqb (read_model bytes).refusal 0 (λ z. omega arith)) seven,
  )
    where
      by : (t : Bool) → eqb (read_model bytes).refusal 0 ≡ t → (b : Bool) → cond t (cond b 0 8) (read_model bytes).refusal ≡ 7 → (read_model bytes).refusal ≡ 7
      by true q true h = absurd (let z : ◌≡◌ {A = ℕ} 0 7 = h in omega arith)
      by true q false h = absurd (let z : ◌≡◌ {A = ℕ} 8 7 = h in omega arith)
      by false q b h = h

  module _ (r : Reading) (s : SpellsPlan bytes r) where
    -- "Models refused only for walks that no longer count are judged now", as the plan that the bytes spell; and no other model that 01 refused by 7 is
    pub judged_exactly : (read_model bytes ≡ r) ↔ NoneCounts r.model
    judged_exactly = (
      λ e. (none_law r.model).0 ((accept_law bytes r).0 (e, s.done)).1,
      λ n. ((accept_law bytes r).1 (s, (none_law r.model).1 n)).0,
    )

    -- every plan that 01 accepted still is
    pub accepted_still : (UnresetBefore r.model → ⊥) → read_model bytes ≡ r
    accepted_still none = ((accept_law bytes r).1 (s, λ (x, h, (k, v, w)). none (x, h, (k, v, before x w)))).0
      where
        before : (x : ℕ) {k v u : ℕ} → DrawingWalk r.model (Counts r.model x) k v u → DrawingWalk r.model (Keeps r.model x) k v u
        before x = wider r.model (Keeps r.model x) (OpensAlone r.model) (Counts r.model x) (λ e. (λ c. c, λ c. c))

    -- ---- what "can open alone" means: some allowed state, reachable or not, has a jump along the edge
    pub opens_exactly : (e : ℕ) → e < r.model.edges → OpensAlone r.model e ↔ JumpsAlong (automaton_of r.model) (edge_of r.model e)
    opens_exactly = opens_jumps r.model s.lawful

  -- "nobody can walk it", with perfect clocks (e is 0) or with drift below half a unit
  pub never_taken : (e D N : ℕ) → 2 * e < D → 0 < N → (i : ℕ) → (OpensAlone (model_of bytes) i → ⊥)
      → (gs : List Edge) (l : ℕ) (v : List ℕ) (t : ℕ) → Run (automaton_of (model_of bytes)) N e D gs l v t → Memᴰ (edge_of (model_of bytes) i) gs → ⊥
  never_taken e D N slight pos i dead gs l v t run taken = dead ((model_opens (model_of bytes) i).1 (run_opens N e D pos slight run _ taken))
