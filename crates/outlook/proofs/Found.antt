-- The outlook of a model from what is found of its states.
use mathlib.Core.Path.{◌≡◌, refl}
use mathlib.Core.Bool.{Bool, true, false}
use mathlib.Core.Logic.{⊎_elim}
use mathlib.Core.List.{List}
use Prim.Native.Nat.{ℕ, ◌+◌, ◌*◌, ◌≤◌, ◌<◌}
use native.Mathlib.Omega.{arith}
use lib.ListN.{length}
use Rattle.theory.specs.Region.{regions}
use Rattle.theory.specs.System.{System, Laws}
use Rattle.theory.specs.Marked.{unsafe}
use Rattle.theory.specs.Trail.{trail_steps}
use Rattle.theory.specs.WithoutTouch.{with_touch}
use Rattle.theory.specs.Sheet.{in_of, height_of, our_sheet, sheet_test}
use Rattle.theory.specs.StateGraph.{system_of}
use Rattle.theory.proofs.Below.{top_at}
use Rattle.theory.proofs.Marked.{safe_is}
use Rattle.theory.proofs.Sheet.{sheet_is}
use Rattle.theory.proofs.Verdict.{sheet_complete}
use Rattle.theory.proofs.WithoutTouch.{with_touch_lem}
use Rattle.model.specs.declared.Model.{Model}
use Rattle.model.specs.Model.{Lawful}
use Rattle.graph.specs.Plan.{automaton_of, system_of_model, labelled_of_model}
use Rattle.graph.specs.States.{states}
use Rattle.graph.proofs.Plan.{within, capped}
use Rattle.graph.proofs.Models.{system_laws}
use Rattle.marking.specs.Tables.{Distances, Forbids}
use Rattle.sheet_rules.specs.Rules.{Blank}
use Rattle.robust.specs.Fringe.{fringe_entries, span, sheet_margin, height_margin}
use Rattle.robust.proofs.SheetMargin.{margin_height}
use Rattle.evidence_writer.specs.Searched.{Searched}
use Rattle.evidence_writer.proofs.Verdict.{steps_by, unsafe_by, safe_by}
use Rattle.trail_delay.specs.declared.Delay.{Delay}
use Rattle.trail_delay.specs.Ours.{our_delay}
use Rattle.outlook.specs.declared.Outlook.TheVariants.{Safe, Unsafe}
use Rattle.outlook.specs.Outlook.{our_margin, outlook_for}

-- ---- the verdict, of the system with touch steps

module _ {m : Model} {table first targets shapes heights distance queue path : List ℕ}
    (K : Searched true m table first targets shapes heights distance queue path) (r : ℕ) (e : r ≡ length (regions m.clocks m.ceiling))
    (steps : ℕ) (f : (Z : System) → Laws Z → Distances Z distance → Forbids Z r m.kind → steps ≡ trail_steps Z) where
  pub found_unsafe : steps < length distance → unsafe (system_of_model m) ≡ true
  found_unsafe b = rw with_touch_lem at (unsafe_by K steps (steps_by K r e steps f) b)

  pub found_safe : length distance ≤ steps → unsafe (system_of_model m) ≡ false
  found_safe b = rw with_touch_lem at (safe_by K steps (steps_by K r e steps f) b)

-- ---- the outlook

module _ (m : Model) where
  -- our sheet is that of the system with touch steps
  pub sheet_as : {sheet : List ℕ} → sheet ≡ our_sheet (with_touch true (system_of_model m)) → sheet ≡ our_sheet (system_of_model m)
  sheet_as e = rw with_touch_lem at e

  module _ (harm : Bool) where
    -- harm is asked for
    module _ (t : harm ≡ true) where
      pub delay_found : unsafe (system_of_model m) ≡ true → (d : Delay) → d ≡ our_delay m → Unsafe d.base d.rate ≡ outlook_for harm m
      unfolding outlook_for
      delay_found u d e = rw (u, t, e) refl

      pub safe_found : unsafe (system_of_model m) ≡ false → Safe 0 ≡ outlook_for harm m
      unfolding outlook_for
      safe_found u = rw (u, t) refl

    -- or the margin
    module _ (f : harm ≡ false) where
      pub bound_found : unsafe (system_of_model m) ≡ false → (a : ℕ) → a ≡ our_margin m → Safe a ≡ outlook_for harm m
      unfolding outlook_for
      bound_found u a e = rw (u, f, e) refl

      pub unsafe_found : unsafe (system_of_model m) ≡ true → Unsafe 0 0 ≡ outlook_for harm m
      unfolding outlook_for
      unsafe_found u = rw (u, f) refl

  -- our sheet passes where no marked state is forbidden
  module _ (ok : Lawful m) (u : unsafe (system_of_model m) ≡ false) (sheet : List ℕ) (e : sheet ≡ our_sheet (system_of_model m)) where
    pub our_passes : sheet_test (system_of_model m) sheet ≡ true
    our_passes =
        let Y = system_of_model m in
        let L = system_laws m ok in
        rw e (sheet_complete Y L (safe_is Y L u))

    pub our_blank : Blank (system_of_model m) sheet
    our_blank = (sheet_is (system_of_model m) (system_laws m ok) sheet our_passes).blank

  pub margin_found : (sheet : List ℕ) → sheet ≡ our_sheet (system_of_model m) → (c : ℕ) → c ≡ fringe_entries (labelled_of_model m) (in_of sheet)
      → (a n : ℕ) → a ≡ span c → n ≡ m.clocks → a + n ≡ our_margin m
  unfolding our_margin sheet_margin automaton_of
  margin_found sheet e c f a n g h = rw (g, h, f, e) refl

  -- A fits a field: heights are below S, so a walk through the fringe has fewer jumps than there are states
  pub margin_few : Lawful m → unsafe (system_of_model m) ≡ false → our_margin m ≤ 2 * states m + m.clocks
  unfolding our_margin height_margin automaton_of system_of
  margin_few ok u =
      let l = our_sheet (system_of_model m) in
      let passes = our_passes ok u l refl in
      let sheet = sheet_is (system_of_model m) (system_laws m ok) l passes in
      let some = (system_laws m ok).allowed_below (system_of_model m).start (system_laws m ok).start_allowed in
      let under = margin_height (automaton_of m) m.locations (within m ok) (capped m ok) l passes in
      ⊎_elim
      (λ z. omega (arith, under, z, some))
      (λ (p, b, e). omega (arith, under, e, sheet.bounded p b))
      (top_at (states m) (height_of l))
