-- How the code reads beside the definitions: it stops at once where their state is stopped and goes on, unchanged, to the end.
use Rattle.std.specs.Prelude.{◌≡◌, ◌≤◌, ℕ, Result, Ok, Err}
use Rattle.limits.specs.declared.refusal.Refusal.{Refusal}
use Rattle.limits.specs.Refusal.{code_of}
use Rattle.limits.specs.Limits.{max_clocks, max_ceiling, max_locations, max_edges}
use Rattle.model.specs.declared.Model.{Model}
use Rattle.parser.specs.declared.Cursor.{Cursor}
use Rattle.parser.specs.Parse.{Field, Value, Refused, State, Reading, going, refused}

-- a field that was read, and the position after it
abbrev pub read_field : Result ℕ Refusal → ℕ → Field
read_field (Ok v) p = Value v p
read_field (Err r) p = Refused (code_of r)

-- how a step ends beside the state that it should lead to: it goes on at the same place, or has the same refusal
abbrev pub Ends : {A : Type 0} → Result A Refusal → Cursor → Model → State → Type 0
Ends (Ok v) c m s = s ≡ going c.at m
Ends (Err r) c m s = s.refusal ≡ code_of r

-- a model that was read beside its mark
abbrev pub with_mark : ℕ → Result Model Refusal → Reading
with_mark mark (Ok m) = record { refusal = 0; mark = mark; model = m }
with_mark mark (Err r) = refused (code_of r)

-- the numbers of a header, within their ranges
pub record Counted (m : Model) : Type 0 where
  pub clocks : (1 ≤ m.clocks) × (m.clocks ≤ max_clocks)
  pub ceiling : m.ceiling ≤ max_ceiling
  pub locations : (1 ≤ m.locations) × (m.locations ≤ max_locations)
  pub edges : m.edges ≤ max_edges

pub record SameHeader (m w : Model) : Type 0 where
  pub clocks : w.clocks ≡ m.clocks
  pub ceiling : w.ceiling ≡ m.ceiling
  pub locations : w.locations ≡ m.locations
  pub edges : w.edges ≡ m.edges
