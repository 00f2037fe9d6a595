-- The limits of a lawful model, and the room that the rows take.
use Prim.Native.Nat.{ℕ, zero, suc, ◌+◌, ◌*◌, ◌≤◌, ◌<◌}
use native.Mathlib.Decide.{dec_lt}
use native.Mathlib.Nat.{add-mul, mul-le-mul, mul-le-mul_right}
use native.Mathlib.Omega.{arith}
use mathlib.Core.Path.{◌≡◌, refl, ap, ◌∙◌}
use mathlib.Core.Bool.{Bool}
use mathlib.Core.List.{List}
use lib.ListN.{length, get_or}
use lib.Dec.{eqb, ltb}
use borrow.Author.Tests.{eq-eqb, ne_eqb, lt-ltb, le-ltb}
use Rattle.theory.specs.Below.{bit, count}
use Rattle.theory.proofs.Below.{count-le}
use Rattle.limits.specs.Limits.{max_regions, max_states, max_steps}
use Rattle.model.specs.declared.Model.{Model}
use Rattle.model.specs.Model.{Lawful, source_of}
use Rattle.graph.specs.States.{states}
use Rattle.successors.specs.Flow.{regions_in, leaving, FlowLists, room}
use Rattle.successors.proofs.Leaving.{leaving-count}
use Rattle.graph.proofs.States as graph

-- where two tests pass at no place together, the count of both is the sum
count_both : (n : ℕ) (f g h : ℕ → Bool) → ((i : ℕ) → bit (h i) ≡ bit (f i) + bit (g i)) → count n h ≡ count n f + count n g
unfolding count
count_both zero f g h e = refl
count_both (suc n) f g h e =
    omega (arith, e 0, count_both n (λ i. f (suc i)) (λ i. g (suc i)) (λ i. h (suc i)) (λ i. e (suc i)))

-- below l + 1: below l, or l
below_next : (x l : ℕ) → bit (ltb x (l + 1)) ≡ bit (ltb x l) + bit (eqb x l)
below_next x l = by (dec_lt x l) (dec_lt l x)
  where
    by : Dec (x < l) → Dec (l < x) → bit (ltb x (l + 1)) ≡ bit (ltb x l) + bit (eqb x l)
    by (yes a) b = rw (lt-ltb x (l + 1) (omega arith), lt-ltb x l a, ne_eqb x l (λ e. omega arith))
    by (no a) (yes b) = rw (le-ltb x (l + 1) (omega arith), le-ltb x l (omega arith), ne_eqb x l (λ e. omega arith))
    by (no a) (no b) =
        let e : x ≡ l = omega (arith, a, b) in
        rw (lt-ltb x (l + 1) (omega arith), le-ltb x l (omega arith), eq-eqb x l e)

-- ---- limits of a lawful model

module _ {m : Model} (ok : Lawful m) where
  pub regions_limit : regions_in m ≤ max_regions
  regions_limit = graph.regions_limit m ok

  pub states_limit : states m ≤ max_states
  states_limit = graph.states_limit m ok

  pub steps_limit : states m + m.edges * regions_in m ≤ max_steps
  steps_limit = omega (arith, mul-le-mul ok.edges regions_limit, states_limit)

  -- with the fields of `Holds` and `states_limit`, what the searches ask of the lists
  pub lists_limit : {first targets : List ℕ} → FlowLists m first targets → get_or first (states m) 0 ≤ max_steps
  lists_limit f = omega (arith, f.few, steps_limit)

-- ---- room

module _ (m : Model) (l : ℕ) where
  pub room_next : room m (l + 1) ≡ room m l + (length (leaving m l) + 1) * regions_in m
  unfolding room
  room_next =
      let c = count_both m.edges (λ e. ltb (source_of m e) l) (λ e. eqb (source_of m e) l) (λ e. ltb (source_of m e) (l + 1))
      (λ e. below_next (source_of m e) l) in
      ap (λ x. x * regions_in m) (omega (arith, leaving-count m l))
      ∙ add-mul (l + count m.edges (λ e. ltb (source_of m e) l)) (length (leaving m l) + 1) (regions_in m)

  pub room_most : l ≤ m.locations → room m l ≤ states m + m.edges * regions_in m
  unfolding room
  room_most h =
      let c = count-le m.edges (λ e. ltb (source_of m e) l) in
      let b : l + count m.edges (λ e. ltb (source_of m e) l) ≤ m.locations + m.edges = omega arith in
      omega (arith, mul-le-mul_right (regions_in m) b, add-mul m.locations m.edges (regions_in m))
