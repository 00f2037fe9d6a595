-- No label of a jump leads where the label of time does, from a state with one clock or more.
use mathlib.Core.Path.{◌≡◌, sym, ap, ◌∙◌}
use mathlib.Core.List.{[], ◌∷◌}
use Prim.Native.Nat.{ℕ, zero, suc, ◌≤◌, ◌<◌}
use native.Mathlib.Omega.{arith}
use lib.ListN.{length}
use Rattle.theory.specs.Labels.{Leads}
use Rattle.theory.specs.Automaton.{Automaton}
use Rattle.theory.specs.Region.{Region, Lawful, successor}
use Rattle.theory.specs.RegionGraph.{after}
use Rattle.theory.specs.StateGraph.{Within, region_of, location_of, edge_at, step_from, system_of, labelled_of}
use Rattle.theory.proofs.StateGraph.{region_of_number, region_lawful, allowed_state_law, time_law, jump_law, edge_drawn}
use Rattle.robust.proofs.TimeOrJump.{jump_not_time}

some_clock : (n M : ℕ) → 1 ≤ n → Lawful n M [] → ⊥
some_clock zero M h a = elim h [ ]
some_clock (suc n) M h a = elim a.capped [ ]

module _ (m : Automaton) (locations : ℕ) (W : Within m locations) (some : 1 ≤ m.clocks) where
  apart : (xs : Region) → Lawful m.clocks m.ceiling xs → (e : ℕ) → after (edge_at m e) xs ≡ successor xs → ⊥
  apart [] a e s = some_clock m.clocks m.ceiling some a
  apart (x ∷ xs) a e s = jump_not_time (edge_at m e).reset x xs s

  pub time_apart : (p q e : ℕ) → Leads (labelled_of m locations) 0 p q → Leads (labelled_of m locations) (suc e) p q → ⊥
  unfolding labelled_of system_of step_from
  time_apart p q e (b, s, c) (d, t, f) =
      let l : e < length m.edges = omega arith in
      let (o, a, n) = (time_law m locations p q).0 (s, c) in
      let (o', g, a', n') = (jump_law m locations e p q l (W.targets (edge_at m e) (edge_drawn m locations m.edges e l))).0 (t, c) in
      let r : region_of m q ≡ successor (region_of m p) = ap (region_of m) n ∙ region_of_number m (location_of m p) a.region in
      let r' : region_of m q ≡ after (edge_at m e) (region_of m p) = ap (region_of m) n' ∙ region_of_number m (edge_at m e).target a'.region in
      apart (region_of m p) (region_lawful m locations p ((allowed_state_law m locations p).0 o).0) e (sym r' ∙ r)
