-- Entries of a location: with one edge more, and of one location more.
use Prim.Native.Nat.{ℕ, suc, ◌+◌, ◌-◌, ◌≤◌}
use native.Mathlib.Omega.{arith}
use native.Mathlib.Numerals.{add-one}
use mathlib.Core.Path.{◌≡◌, ◌∙◌}
use mathlib.Core.Bool.{cond}
use mathlib.Core.List.{map}
use lib.Dec.{eqb}
use Rattle.theory.specs.Below.{bit}
use Rattle.theory.specs.Lists.{from}
use Rattle.theory.specs.Automaton.{Automaton}
use Rattle.robust.specs.Margin.{half_values, entry_limits, entries_by, entries_of, half_entries}
use Rattle.model.specs.declared.Model.{Model}
use Rattle.model.specs.Model.{target_of}
use Rattle.graph.specs.Plan.{automaton_of, edge_of}

-- the entries by the start and the edges from e on
unfoldable pub entries_from : Model → ℕ → ℕ → ℕ
entries_from m l e = entries_by (automaton_of m) l (map (edge_of m) (from e (m.edges - e)))

module _ (m : Model) (l : ℕ) where
  pub no_edges : entries_from m l m.edges ≡ bit (eqb l m.start)
  unfolding entries_from entries_by automaton_of
  no_edges = let z : m.edges - m.edges ≡ 0 = omega arith in rw z

  pub all_edges : entries_from m l 0 ≡ entries_by (automaton_of m) l (automaton_of m).edges
  unfolding entries_from automaton_of
  all_edges = let z : m.edges - 0 ≡ m.edges = omega arith in rw z

  pub one_edge : (d e count r : ℕ) → d + 1 ≡ e → e ≤ m.edges → count ≡ entries_from m l e
      → r ≡ cond (eqb (target_of m d) l) (half_values (entry_limits (automaton_of m) (edge_of m d)) + count) count → r ≡ entries_from m l d
  unfolding entries_from entries_by
  one_edge d e count r p h i t =
      let s : m.edges - d ≡ suc (m.edges - e) = omega arith in
      let q : e ≡ suc d = omega arith in
      t ∙ rw (i, s, q)

pub one_location : (a : Automaton) (l : ℕ) → half_entries a l + entries_of a l ≡ half_entries a (l + 1)
unfolding half_entries
one_location a l = rw (add-one l)
