-- The timed automaton of a model.
use Rattle.std.specs.Prelude.{ℕ, List, map, get_or, eqb}
use Rattle.theory.specs.Below.{tab}
use Rattle.theory.specs.Lists.{from}
use Rattle.theory.specs.System.{System}
use Rattle.theory.specs.Labels.{LabelledSystem}
use Rattle.theory.specs.Automaton.{Automaton, Edge}
use Rattle.theory.specs.StateGraph.{system_of, labelled_of}
use Rattle.region.specs.View.{mask_bits}
use Rattle.model.specs.declared.Model.{Model}
use Rattle.model.specs.Model.{slot, source_of, target_of}

-- the entries of location or edge i, one for each clock
abbrev pub entries_at : ℕ → List ℕ → ℕ → List ℕ
entries_at n xs i = tab n (λ x. get_or xs (slot i x) 0)

abbrev pub edge_of : Model → ℕ → Edge
edge_of m e =
    record {
      source = source_of m e;
      target = target_of m e;
      reset = mask_bits m.clocks (get_or m.reset e 0);
      lower = entries_at m.clocks m.lower e;
      upper = entries_at m.clocks m.upper e;
    }

unfoldable pub automaton_of : Model → Automaton
automaton_of m =
    record {
      clocks = m.clocks;
      ceiling = m.ceiling;
      start = m.start;
      invariant = entries_at m.clocks m.invariant;
      forbidden = λ l. eqb (get_or m.kind l 0) 1;
      edges = map (edge_of m) (from 0 m.edges);
    }

-- its states, numbered, and their steps
abbrev pub system_of_model : Model → System
system_of_model m = system_of (automaton_of m) m.locations

abbrev pub labelled_of_model : Model → LabelledSystem
labelled_of_model m = labelled_of (automaton_of m) m.locations
