-- The automaton of a lawful model keeps what the theory asks: limits within the ceiling and guards and resets,
-- one for each clock, and edges between locations.
use Prim.Native.Nat.{ℕ, zero, suc, ◌*◌, ◌/◌, ◌≤◌, ◌<◌}
use native.Mathlib.Omega.{arith}
use mathlib.Core.Path.{◌≡◌, refl, ap, ◌∙◌}
use mathlib.Core.List.{List, map, Memᴰ}
use lib.ListN.{length, get_or, replicate, length-map}
use Rattle.theory.specs.Below.{tab}
use Rattle.theory.specs.Lists.{from}
use Rattle.theory.specs.Pointwise.{Each}
use Rattle.theory.specs.Automaton.{Edge, Capped, Shaped}
use Rattle.theory.specs.StateGraph.{Within, region_count, system_of, labelled_of}
use Rattle.theory.proofs.Below.{tab-length}
use Rattle.theory.proofs.First.{some_region, start_number}
use Rattle.theory.proofs.Lists.{map_law, from-length}
use Rattle.region.specs.View.{mask_bits}
use Rattle.model.specs.declared.Model.{Model}
use Rattle.model.specs.Model.{slot, Lawful}
use Rattle.graph.specs.Plan.{edge_of, automaton_of, system_of_model, labelled_of_model}
use Rattle.graph.specs.States.{states}

tab_capped : (n c : ℕ) (f : ℕ → ℕ) → ((x : ℕ) → f x ≤ c) → Each (λ x d. x ≤ d) (tab n f) (replicate n c)
unfolding tab
tab_capped zero c f h = Each.none
tab_capped (suc n) c f h = Each.more (h 0) (tab_capped n c (λ x. f (suc x)) (λ x. h (suc x)))

bits_length : (n r : ℕ) → length (mask_bits n r) ≡ n
bits_length zero r = refl
bits_length (suc n) r = ap suc (bits_length n (r / 2))

module _ (m : Model) where
  pub edges_length : length (automaton_of m).edges ≡ m.edges
  unfolding automaton_of
  edges_length = length-map (from 0 m.edges) (edge_of m) ∙ from-length 0 m.edges

  -- the start is the first state of its location
  pub start_at : (system_of_model m).start ≡ m.start * region_count (automaton_of m)
  unfolding system_of automaton_of
  start_at = start_number (automaton_of m) m.start

  pub size-states : (system_of_model m).size ≡ states m
  unfolding system_of
  size-states = refl

  pub some_regions : 0 < region_count (automaton_of m)
  unfolding region_count automaton_of
  some_regions = some_region m.clocks m.ceiling

  -- time, and a jump along each edge
  pub labels_are : (labelled_of_model m).labels ≡ suc m.edges
  unfolding labelled_of
  labels_are = ap suc edges_length

module _ (m : Model) (ok : Lawful m) where
  pub capped : Capped (automaton_of m)
  unfolding automaton_of
  capped =
      record {
        limits = λ l. tab_capped m.clocks m.ceiling (λ x. get_or m.invariant (slot l x) 0)
            (λ x. omega (arith, ok.ranges.invariant (slot l x)));
      }

  pub shaped : Shaped (automaton_of m)
  unfolding automaton_of
  shaped =
      record {
        reset = λ g d. drawn g d (λ g. g.reset) (λ e. bits_length m.clocks (get_or m.reset e 0));
        lower = λ g d. drawn g d (λ g. g.lower) (λ e. tab-length m.clocks (λ x. get_or m.lower (slot e x) 0));
        upper = λ g d. drawn g d (λ g. g.upper) (λ e. tab-length m.clocks (λ x. get_or m.upper (slot e x) 0));
      }
    where
      -- what holds of each edge of the model holds of each edge drawn
      drawn : {A : Type 0} (g : Edge) → Memᴰ g (map (edge_of m) (from 0 m.edges)) → (f : Edge → List A)
          → ((e : ℕ) → length (f (edge_of m e)) ≡ m.clocks) → length (f g) ≡ m.clocks
      drawn g d f h = let (e, b, c) = (map_law (edge_of m) (from 0 m.edges) g).0 d in rw c (h e)

  pub within : Within (automaton_of m) m.locations
  unfolding automaton_of
  within =
      record {
        start = ok.start;
        targets = λ g d.
            let (e, b, c) = (map_law (edge_of m) (from 0 m.edges) g).0 d in
            rw c (ok.ranges.target e);
      }
