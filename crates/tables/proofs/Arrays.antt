-- What is lent of arrays of zeros that fit: room for the tables of a model.
use Prim.Native.Nat.{ℕ, ◌+◌, ◌*◌, ◌≤◌}
use native.Mathlib.Nat.{mul-le-mul}
use native.Mathlib.Omega.{arith}
use mathlib.Core.Path.{◌≡◌, sym, ap, ◌∙◌}
use mathlib.Core.List.{List}
use lib.ListN.{length, take, replicate, length-replicate}
use Rattle.shapes.specs.Layout.{shapes_end}
use Rattle.model.specs.declared.Model.{Model}
use Rattle.model.specs.Model.{Lawful}
use Rattle.graph.specs.States.{Listed, states}
use Rattle.successors.specs.Flow.{regions_in}
use Rattle.tables.specs.Tables.{Fits, Room}
use Rattle.tables.proofs.Lent.{prefix_long, table_long}

module _ {m : Model} (ok : Lawful m) {table : List ℕ} (listed : Listed m table) where
  regions_short : regions_in m ≤ length table
  regions_short = omega (arith, table_long m ok table listed)

  module _ {a f t s : ℕ} (F : Fits (length table) a f t s) where
    pub states_fit : states m ≤ a
    states_fit = omega (arith, mul-le-mul ok.locations.1 regions_short, F.states)

    pub firsts_fit : states m + 1 ≤ f
    firsts_fit = omega (arith, mul-le-mul ok.locations.1 regions_short, F.firsts)

    steps_fit : states m + m.edges * regions_in m ≤ t
    steps_fit = omega (arith, mul-le-mul ok.locations.1 regions_short, mul-le-mul ok.edges regions_short, F.steps)

    pub lent_room : (n k e : ℕ) → n ≡ states m → k ≡ n + 1 → e ≡ shapes_end (length table)
        → Room m (take n (replicate a 0)) (take k (replicate f 0)) (replicate t 0) (take e (replicate s 0))
    lent_room n k e i j l =
        record {
          by_state =
              record {
                flags = sym (prefix_long n a (omega (arith, states_fit))) ∙ i;
                starts = sym (prefix_long k f (omega (arith, firsts_fit))) ∙ (j ∙ ap (λ (x : ℕ). x + 1) i);
                steps = rw (length-replicate {A = ℕ} t 0) steps_fit;
              };
          by_region = sym (prefix_long e s (omega (arith, F.shapes))) ∙ (l ∙ ap shapes_end (table_long m ok table listed));
        }
