-- What our sheet is made of, from what is found about the states: heights are the same with touch steps or without, marks are not.
use Prim.Native.Nat.{ℕ, ◌+◌, ◌*◌, ◌/◌, ◌≤◌}
use native.Mathlib.Omega.{arith}
use mathlib.Core.Path.{◌≡◌, refl, sym, ap, ◌∙◌}
use mathlib.Core.Bool.{Bool, true}
use mathlib.Core.List.{List}
use lib.Dec.{ltb}
use Rattle.theory.specs.System.{on_closed_walk}
use Rattle.theory.specs.StateGraph.{system_of}
use Rattle.theory.specs.WithoutTouch.{with_touch}
use Rattle.theory.proofs.Below.{bit-le}
use Rattle.theory.proofs.Levels.{mark-marks}
use Rattle.theory.proofs.WithoutTouch.{touch_laws, touch_height}
use Rattle.model.specs.declared.Model.{Model}
use Rattle.model.specs.Model.{Lawful}
use Rattle.graph.specs.Plan.{system_of_model}
use Rattle.graph.proofs.Models.{system_laws}
use Rattle.marking.specs.Tables.{Distances}
use Rattle.survey.specs.Surveyed.{Surveyed, HeightsAdded}
use Rattle.sheet_writer.specs.Data.{SheetData}

half : (x h b : ℕ) → x ≡ 2 * h + b → b ≤ 1 → x / 2 ≡ h
half x h b e l = omega arith

module _ {m : Model} (ok : Lawful m) (touch : Bool) {heights distance : List ℕ} where
  -- heights added after the search
  pub sheet_added : {marks : List ℕ} → Distances (with_touch touch (system_of_model m)) distance → HeightsAdded m distance heights marks
      → SheetData (with_touch touch (system_of_model m)) heights marks
  unfolding with_touch system_of
  sheet_added D A =
      let Y = system_of_model m in
      let L = system_laws m ok in
      record {
        heights_long = A.heights.long;
        marks_long = A.long;
        heights = λ p b. half _ _ _ (A.heights.are p b) (bit-le (on_closed_walk Y p)) ∙ sym (touch_height touch Y L p b);
        marked = λ p b. A.marks p b ∙ (ap (ltb 0) (D.is p b) ∙ mark-marks (with_touch touch Y) (touch_laws touch Y L) p);
      }

  -- or found by it
  pub sheet_found : touch ≡ true → Surveyed touch m heights distance → SheetData (with_touch touch (system_of_model m)) heights distance
  unfolding with_touch system_of
  sheet_found t S =
      sheet_added S.distances (record { heights = S.heights.are t; long = S.distances.long; marks = λ p b. refl })
