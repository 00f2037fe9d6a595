-- The numbers of a trail, and the bytes that spell them (01, "Evidence").
use Rattle.std.specs.Prelude.{ℕ, zero, suc, List, [], ◌∷◌, ◌++◌, length}
use Rattle.evidence_number.specs.Evidence.{SpellsEvidence}
use Rattle.theory.specs.Automaton.{Automaton}
use Rattle.theory.specs.Enumeration.{key}
use Rattle.theory.specs.StateGraph.{region_of}
use Rattle.theory.specs.Replay.{Move, flow_by, face_to, touch_to, Passes}
use Rattle.model.specs.declared.Model.{Model}
use Rattle.graph.specs.Plan.{automaton_of, labelled_of_model}

-- "0 time; 1 jump, edge number": a time or jump step by its label
abbrev pub label_numbers : ℕ → List ℕ
label_numbers zero = 0 ∷ []
label_numbers (suc e) = 1 ∷ e ∷ []

-- the steps of a walk, "made of kinds 0 and 1"
unfoldable pub walk_numbers : List ℕ → List ℕ
walk_numbers [] = []
walk_numbers (x ∷ xs) = label_numbers x ++ walk_numbers xs

-- "2 face, w1..wn, r1..rn; 3 touch, the region likewise, a count of at least 1, then a closed walk from that region".
-- The location of a face or a touch is that of the state reached so far.
unfoldable pub move_numbers : Automaton → Move → List ℕ
move_numbers a (flow_by x) = label_numbers x
move_numbers a (face_to q) = 2 ∷ key (region_of a q)
move_numbers a (touch_to q xs) = 3 ∷ (key (region_of a q) ++ (length xs ∷ walk_numbers xs))

unfoldable pub moves_numbers : Automaton → List Move → List ℕ
moves_numbers a [] = []
moves_numbers a (v ∷ vs) = move_numbers a v ++ moves_numbers a vs

-- "A trail is 2, a step count, then steps": what follows the 2
unfoldable pub trail_numbers : Automaton → List Move → List ℕ
trail_numbers a vs = length vs ∷ moves_numbers a vs

-- "its bytes spell, with nothing after, ... a trail whose steps all replay and which ends in a forbidden location": the bytes after the 2
abbrev pub RestPasses : Model → List ℕ → Type 0
RestPasses m bs = (vs : List Move) × SpellsEvidence bs (trail_numbers (automaton_of m) vs) × Passes (labelled_of_model m) vs
