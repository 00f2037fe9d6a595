-- The forbidden states of a model, as the search for the least distance asks for them: with touch steps or without they are the same.
use Prim.Native.Nat.{ℕ, ◌*◌, ◌≤◌, ◌<◌}
use native.Mathlib.Nat.{mul-le-mul_right}
use mathlib.Core.Path.{◌≡◌, refl}
use mathlib.Core.Bool.{Bool}
use mathlib.Core.List.{List}
use lib.ListN.{length}
use Rattle.theory.specs.StateGraph.{region_count, location_of, system_of}
use Rattle.theory.specs.Region.{regions}
use Rattle.theory.specs.WithoutTouch.{with_touch}
use Rattle.model.specs.declared.Model.{Model}
use Rattle.model.specs.Model.{Lawful}
use Rattle.graph.specs.Plan.{automaton_of, system_of_model}
use Rattle.marking.specs.Tables.{Distances, Forbids}
use Rattle.graph.proofs.Plan.{some_regions}

module _ (m : Model) (ok : Lawful m) (touch : Bool) where
  forbids : Forbids (with_touch touch (system_of_model m)) (region_count (automaton_of m)) m.kind
  unfolding with_touch system_of automaton_of location_of
  forbids p b = refl

  -- there are regions, and an entry of `kind` for each location
  pub kinds : (far : List ℕ) (r : ℕ) → Distances (with_touch touch (system_of_model m)) far → r ≡ length (regions m.clocks m.ceiling)
      → (0 < r) × (length far ≤ length m.kind * r)
  unfolding with_touch system_of region_count automaton_of
  kinds far r D e =
      rw e (some_regions m, rw (D.long, ok.sizes.kind) (mul-le-mul_right (length (regions m.clocks m.ceiling)) ok.locations.1))

  pub forbids_by : (r : ℕ) → r ≡ length (regions m.clocks m.ceiling) → Forbids (with_touch touch (system_of_model m)) r m.kind
  unfolding region_count automaton_of
  forbids_by r e = rw e forbids
