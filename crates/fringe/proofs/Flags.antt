-- The fringe of a sheet by the corners of its regions, and its flags state by state.
use mathlib.Core.Path.{◌≡◌, refl, sym, ◌∙◌}
use mathlib.Core.Bool.{Bool, true, false, true≢false}
use mathlib.Core.Logic.{◌↔◌}
use mathlib.Core.List.{List}
use Prim.Native.Nat.{ℕ, ◌+◌, ◌-◌, ◌*◌, ◌≤◌, ◌<◌}
use native.Mathlib.Decide.{ℕ_discrete, dec_lt}
use native.Mathlib.Omega.{arith}
use lib.ListN.{get_or}
use Rattle.theory.proofs.Pairs.{pair_left, pair_right}
use Rattle.theory.specs.Below.{bit}
use Rattle.theory.specs.Sheet.{in_of}
use Rattle.theory.specs.StateGraph.{allowed_state, system_of}
use Rattle.shapes.specs.Layout.{corners_in}
use Rattle.model.specs.declared.Model.{Model}
use Rattle.model.specs.Model.{Lawful}
use Rattle.graph.specs.Plan.{automaton_of, system_of_model}
use Rattle.graph.specs.States.{states}
use Rattle.graph.proofs.Models.{system_laws}
use Rattle.region_corners.specs.Shapes.{Shapes}
use Rattle.successors.specs.Flow.{regions_in}
use Rattle.successors.proofs.Steps.{bit_one}
use Rattle.sheet_rules.specs.Rules.{Blank, Touched}
use Rattle.sheet_rules.proofs.Systems.{CornerTables, touched_near, near_touched}
use Rattle.sheet_rules.proofs.Models.{model_corners, location_fits}
use Rattle.robust.specs.Fringe.{fringe}
use Rattle.robust.proofs.Fringe.{fringe_law}
use Rattle.fringe.specs.Flags.{FringeBelow, LocationFlags}

-- a number that is 1 where a test holds, and 0 elsewhere
bit_is : (x : ℕ) (b : Bool) → x ≤ 1 → (x ≡ 1) ↔ (b ≡ true) → x ≡ bit b
bit_is x true l (f, g) = g refl
bit_is x false l (f, g) = by (ℕ_discrete x 1)
  where
    by : Dec (x ≡ 1) → x ≡ 0
    by (yes e) = absurd (true≢false (sym (f e)))
    by (no e) = omega arith

-- ---- the flags of a model

module _ {m : Model} {shapes : List ℕ} (ok : Lawful m) (F : Shapes m.clocks m.ceiling shapes) (R : ℕ) (is : R ≡ regions_in m) where
  pub tables_of : CornerTables (system_of_model m) m.locations R shapes
  tables_of = rw is (model_corners m ok F)

  module _ (sheet : List ℕ) (blank : Blank (system_of_model m) sheet) (l : ℕ) (b : l < m.locations) where
    -- a state is of the fringe where it is allowed, out and touched
    fringe_corners : (i : ℕ) → i < R → (fringe (system_of_model m) (in_of sheet) (l * R + i) ≡ true)
        ↔ ((allowed_state (automaton_of m) m.locations (l * R + i) ≡ true) × (in_of sheet (l * R + i) ≡ false)
        × Touched sheet (corners_in R shapes) (l * R) R i)
    unfolding system_of
    fringe_corners i h =
        let p = l * R + i in
        let Y = system_of_model m in
        let L = system_laws m ok in (
          λ e.
              let f = (fringe_law Y L (in_of sheet) p).0 e in
              let w = near_touched Y L tables_of sheet blank f.beside p f.beside_in f.near in
              ((L.near_joins f.beside p f.near).1, f.out, rw (pair_left l R i h, pair_right l R i h) at w),
          λ (a, o, w).
              let (q, t, n) = touched_near Y L tables_of sheet blank l i b h a w in
              (fringe_law Y L (in_of sheet) p).1 (record { out = o; beside = q; beside_in = t; near = n }),
        )

    -- the flags of location l follow those of the locations before it
    pub fringe_more : {flags flags' : List ℕ} → FringeBelow m sheet (l * R) flags → LocationFlags sheet (corners_in R shapes) (l * R) R R flags flags'
        → FringeBelow m sheet ((l + 1) * R) flags'
    fringe_more {flags} {flags'} B G =
        let next : (l + 1) * R ≡ l * R + R = omega arith in
        rw next (record {
          long = G.long ∙ B.long;
          is = λ p h. by p h (dec_lt p (l * R));
          rest = λ p k h. G.after p k ∙ B.rest p (omega arith) h;
        })
      where
        here : (i : ℕ) → i < R → get_or flags' (l * R + i) 0 ≡ bit (fringe (system_of_model m) (in_of sheet) (l * R + i))
        here i h =
            let p = l * R + i in
            let a = allowed_state (automaton_of m) m.locations p in
            let r = B.rest p (omega arith) (omega (arith, location_fits m R is (states m) refl l b)) in
            let s = G.is i h in
            bit_is (get_or flags' p 0) (fringe (system_of_model m) (in_of sheet) p) s.small (
              λ e. let (g, o, w) = s.is.0 e in (fringe_corners i h).1 ((bit_one a).0 (sym r ∙ g), o, w),
              λ e. let (g, o, w) = (fringe_corners i h).0 e in s.is.1 (r ∙ (bit_one a).1 g, o, w),
            )

        by : (p : ℕ) → p < l * R + R → Dec (p < l * R) → get_or flags' p 0 ≡ bit (fringe (system_of_model m) (in_of sheet) p)
        by p h (yes d) = G.before p d ∙ B.is p d
        by p h (no d) =
            let e : l * R + (p - l * R) ≡ p = omega (arith, d) in
            rw e at (here (p - l * R) (omega (arith, d)))
