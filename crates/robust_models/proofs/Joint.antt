-- Plans with a joint reset: the test on the drawing is the theory's rule.
use Prim.Native.Nat.{ℕ}
use mathlib.Core.Path.{◌≡◌, refl, sym, ap, ◌∙◌}
use mathlib.Core.Bool.{true, false, not, true≢false}
use mathlib.Core.Logic.{◌↔◌}
use mathlib.Core.List.{List, [], ◌∷◌}
use borrow.Author.Tests.{not-true}
use Rattle.theory.specs.Lists.{some}
use Rattle.theory.specs.Automaton.{Edge}
use Rattle.theory.proofs.Below.{false_unless_true, all_intro, all_elim}
use Rattle.model.specs.declared.Model.{Model}
use Rattle.model.specs.Model.{Lawful}
use Rattle.edge_walks.specs.Cycle.{DrawingWalk, here, step}
use Rattle.edge_walks.specs.Joint.{ResetsEvery, PartialReset, LacksJointReset, lacks_joint_reset}
use Rattle.edge_walks.proofs.Joints.{joint_law}
use Rattle.graph.specs.Plan.{edge_of, automaton_of}
use Rattle.robust_models.proofs.Opening.{resets_law, model_opens, drawn_edge}
use Rattle.robust_models.proofs.Accepted.{loops_pass}
use Rattle.robust.specs.Robust.{EdgeWalk, resets_clock}
use Rattle.robust.specs.Untouched.{resets_all, JointResets}

-- an edge that resets every clock does so by the drawing and by the automaton
every_law : (m : Model) (e : ℕ) → (resets_all m.clocks (edge_of m e) ≡ true) ↔ ResetsEvery m e
every_law m e = (
  λ t x b. not-true _ (sym (resets_law m e x b) ∙ all_elim m.clocks (λ x. resets_clock x (edge_of m e)) t x b),
  λ f. all_intro m.clocks (λ x. resets_clock x (edge_of m e)) (λ x b. resets_law m e x b ∙ ap not (f x b)),
)

-- ---- a walk on the drawing without such an edge is one of the automaton's

module _ (m : Model) where
  abbrev edges_of : {k l j : ℕ} → DrawingWalk m (PartialReset m) k l j → List Edge
  edges_of here = []
  edges_of (step e b s p w) = edge_of m e ∷ edges_of w

  walked : {k l j : ℕ} (w : DrawingWalk m (PartialReset m) k l j)
      → EdgeWalk (automaton_of m) l j (edges_of w) × (some (resets_all m.clocks) (edges_of w) ≡ false)
  walked here = (EdgeWalk.stop, refl)
  walked (step e b s (partly, opens) w) =
      let (c, f) = walked w in
      let fails = false_unless_true (resets_all m.clocks (edge_of m e)) (λ t. partly ((every_law m e).0 t)) in
      (EdgeWalk.move (edge_of m e) (drawn_edge m e b) s ((model_opens m e).0 opens) c, rw fails f)

-- ---- the two rules are one

module _ (m : Model) (ok : Lawful m) where
  pub joint_resets_of : lacks_joint_reset m ≡ false → JointResets (automaton_of m)
  unfolding automaton_of
  joint_resets_of t =
      record {
        resets = loops_pass m (PartialReset m) (resets_all m.clocks) (λ e f o. (λ r. true≢false (sym ((every_law m e).1 r) ∙ f), o))
            (λ c. true≢false (sym ((joint_law m ok).1 c) ∙ t));
      }

  pub of_joint_resets : JointResets (automaton_of m) → lacks_joint_reset m ≡ false
  unfolding automaton_of
  of_joint_resets joint = false_unless_true (lacks_joint_reset m) (λ t. lacks ((joint_law m ok).0 t))
    where
      lacks : LacksJointReset m → ⊥
      lacks (k, l, step e b s p w) =
          let (c, f) = walked m (step e b s p w) in
          true≢false (sym (joint.resets l (edge_of m e) (edges_of m w) c) ∙ f)
