-- States by location and region number, over any automaton: state l * count + i is region i of location l, and a step enters the state of
-- a region's index.
use Prim.Native.Nat.{ℕ, ◌+◌, ◌*◌, ◌<◌}
use mathlib.Core.Path.{◌≡◌, sym, ap, ◌∙◌, subst}
use mathlib.Core.Bool.{true}
use mathlib.Core.Logic.{◌↔◌}
use mathlib.Core.List.{[]}
use lib.ListN.{get_or}
use Rattle.theory.specs.Automaton.{Automaton}
use Rattle.theory.specs.Region.{Region, Lawful}
use Rattle.theory.specs.RegionGraph.{Allowed}
use Rattle.theory.specs.StateGraph.{regions_of, region_count, state_count, location_of, region_of, index_in, number_of, allowed_state}
use Rattle.theory.proofs.Region.{lawful_law}
use Rattle.theory.proofs.Enumeration.{region_at_lem}
use Rattle.region_steps.proofs.Index.{index_back, index_below}
use Rattle.theory.proofs.StateGraph.{at_own_index, location_of_number, region_of_number, number_below, allowed_state_law, allowed_number}

module _ (a : Automaton) (locations : ℕ) where
  lawful_at : (i : ℕ) → i < region_count a → Lawful a.clocks a.ceiling (get_or (regions_of a) i [])
  unfolding region_count
  lawful_at i h = (lawful_law a.clocks a.ceiling (get_or (regions_of a) i [])).0 (region_at_lem a.clocks a.ceiling i h)

  number_at : (l i : ℕ) → i < region_count a → number_of a l (get_or (regions_of a) i []) ≡ l * region_count a + i
  unfolding number_of
  number_at l i h = ap (λ j. l * region_count a + j) (at_own_index a i h)

  module _ (l i : ℕ) (h : i < region_count a) where
    pub state_below : l < locations → l * region_count a + i < state_count a locations
    state_below b = subst (λ p. p < state_count a locations) (number_at l i h) (number_below a locations l b (lawful_at i h))

    pub state_location : location_of a (l * region_count a + i) ≡ l
    state_location = ap (location_of a) (sym (number_at l i h)) ∙ location_of_number a l (lawful_at i h)

    pub state_region : region_of a (l * region_count a + i) ≡ get_or (regions_of a) i []
    state_region = ap (region_of a) (sym (number_at l i h)) ∙ region_of_number a l (lawful_at i h)

  lawful_index : (xs : Region) → index_in (regions_of a) xs < region_count a → Lawful a.clocks a.ceiling xs
  unfolding region_count
  lawful_index xs h = subst (Lawful a.clocks a.ceiling) (index_back (regions_of a) xs h) (lawful_at (index_in (regions_of a) xs) h)

  -- the allowed state of a location and a region is found by the region's index
  pub enters : (l : ℕ) (xs : Region) (q : ℕ) → l < locations
      → (Allowed a l xs × (q ≡ number_of a l xs))
      ↔ ((index_in (regions_of a) xs < region_count a) × (q ≡ l * region_count a + index_in (regions_of a) xs) × (allowed_state a locations q ≡ true))
  unfolding number_of region_count
  enters l xs q b = (
    λ (t, e). (index_below a.clocks a.ceiling xs ((lawful_law a.clocks a.ceiling xs).1 t.region), e, ap (allowed_state a locations) e ∙ allowed_number a locations l b t),
    λ (h, e, t).
        let law = lawful_index xs h in
        let (c, u) = (allowed_state_law a locations (number_of a l xs)).0 (ap (allowed_state a locations) (sym e) ∙ t) in
        (rw (location_of_number a l law, region_of_number a l law) at u, e),
  )
