-- Sizes of what is lent to fill the tables of a model.
use Prim.Native.Nat.{ℕ, ◌≤◌}
use native.Mathlib.Omega.{arith}
use mathlib.Core.Path.{◌≡◌, refl, sym}
use mathlib.Core.List.{List}
use lib.ListN.{length, take, replicate, length-replicate}
use lib.Seq.{length-take-le}
use Rattle.limits.specs.Limits.{max_regions}
use Rattle.theory.specs.Region.{regions}
use Rattle.theory.specs.StateGraph.{region_count}
use Rattle.model.specs.declared.Model.{Model}
use Rattle.model.specs.Model.{Lawful}
use Rattle.graph.specs.Plan.{automaton_of}
use Rattle.graph.specs.States.{Listed}
use Rattle.graph.proofs.States.{count_length}
use Rattle.successors.specs.Flow.{regions_in}
use Rattle.successors.proofs.Room.{regions_limit}

-- the first k numbers of an array of n zeros
pub prefix_long : (k n : ℕ) → k ≤ n → k ≡ length {A = ℕ} (take k (replicate n 0))
prefix_long k n b = sym (length-take-le {A = ℕ} k (replicate n 0) (rw (length-replicate {A = ℕ} n 0) b))

module _ (m : Model) (ok : Lawful m) where
  pub regions_are : regions_in m ≡ length (regions m.clocks m.ceiling)
  unfolding automaton_of region_count
  regions_are = refl

  pub table_long : (table : List ℕ) → Listed m table → length table ≡ regions_in m
  table_long table listed = count_length m ok table listed

  pub table_short : (table : List ℕ) → Listed m table → length table ≤ max_regions
  table_short table listed = omega (arith, table_long table listed, regions_limit ok)
