-- The rule on resets, from a model to its automaton.
use Prim.Native.Nat.{ℕ, ◌<◌}
use native.Mathlib.Omega.{arith}
use mathlib.Core.Path.{◌≡◌, refl, sym, ap, ◌∙◌}
use mathlib.Core.Bool.{Bool, true, false, not, ◌||◌, true≢false}
use mathlib.Core.List.{List, ◌∷◌}
use lib.ListN.{length}
use Rattle.theory.specs.Lists.{some, from}
use Rattle.theory.specs.Automaton.{Edge}
use Rattle.theory.proofs.Below.{true_unless_false}
use Rattle.theory.proofs.Lists.{map_law}
use Rattle.theory.proofs.Sorted.{from_law}
use Rattle.model.specs.declared.Model.{Model}
use Rattle.model.specs.Model.{keeps}
use Rattle.edge_walks.specs.Opening.{OpensAlone}
use Rattle.edge_walks.specs.Cycle.{DrawingWalk, here, step, ClosedWalk, Counts, LeavesUnreset}
use Rattle.graph.specs.Plan.{edge_of, automaton_of}
use Rattle.robust_models.proofs.Opening.{resets_law, model_opens}
use Rattle.robust.specs.Robust.{EdgeWalk, resets_clock, LoopsReset}

-- an edge that does not reset a clock keeps it
keeps_it : (m : Model) (e x : ℕ) → x < m.clocks → resets_clock x (edge_of m e) ≡ false → keeps m x e ≡ true
keeps_it m e x h t = by (keeps m x e) (sym (resets_law m e x h) ∙ t)
  where
    by : (b : Bool) → not b ≡ false → b ≡ true
    by true q = refl
    by false q = absurd (true≢false q)

both_false : (a b : Bool) → (a || b) ≡ false → (a ≡ false) × (b ≡ false)
both_false true b e = absurd (true≢false e)
both_false false b e = (refl, e)

-- ---- a walk of edges that counts, none of which passes a test, is one on the drawing

module _ (m : Model) (Choice : ℕ → Type 0) (test : Edge → Bool) (chosen : (e : ℕ) → test (edge_of m e) ≡ false → OpensAlone m e → Choice e) where
  drawn : {l k : ℕ} {gs : List Edge} → EdgeWalk (automaton_of m) l k gs → some test gs ≡ false → DrawingWalk m Choice (length gs) l k
  unfolding automaton_of
  drawn EdgeWalk.stop t = here
  drawn {l} {k} (EdgeWalk.move {gs = gs} g d s o w) t =
      let (e, i, c) = (map_law (edge_of m) (from 0 m.edges) g).0 d in
      let (fails, later) = both_false (test g) (some test gs) t in
      let below = (from_law 0 m.edges e).0 i in
      step e (omega arith) (ap (λ h. h.source) (sym c) ∙ s) (chosen e (rw c at fails) ((model_opens m e).1 (rw c at o))) (rw c at (drawn w later))

  -- so where the drawing has no closed walk of such edges, an edge of each closed walk passes
  pub loops_pass : (ClosedWalk m Choice → ⊥) → (l : ℕ) (g : Edge) (gs : List Edge) → EdgeWalk (automaton_of m) l l (g ∷ gs) → some test (g ∷ gs) ≡ true
  loops_pass none l g gs w = true_unless_false (some test (g ∷ gs)) (λ t. none (length gs, l, drawn w t))

pub loops_reset : (m : Model) → (LeavesUnreset m → ⊥) → LoopsReset (automaton_of m)
unfolding automaton_of
loops_reset m none =
    record { resets = λ x b. loops_pass m (Counts m x) (resets_clock x) (λ e t o. (keeps_it m e x b t, o)) (λ c. none (x, b, c)) }
