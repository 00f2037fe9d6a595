-- The pass as the code holds it: the lent lists and how far each reaches.
use Rattle.std.specs.Prelude.{◌≡◌, ℕ, ◌+◌, ◌-◌, length, set}
use Rattle.theory.specs.System.{System}
use Rattle.component.specs.declared.Graph.{Graph}
use Rattle.component.specs.declared.Pass.{Pass as Held}
use Rattle.component.specs.Graph.{graph_of}
use Rattle.component.specs.Stack.{at}
use Rattle.component.specs.Pass.{Pass}

-- the graph as a system
abbrev pub graph_in : Graph → System
graph_in g = graph_of g.first.now g.targets.now g.nodes

-- the state between two steps
abbrev pub InPass : Graph → Held → Type 0
InPass g s = Pass g.first.now g.targets.now g.nodes s.mark.now s.stack.now s.path.now s.start.now s.top s.segs s.depth s.cur

-- the state between two searches: the stack and the path are empty
pub record Idle (g : Graph) (s : Held) : Type 0 where
  pub pass : Pass g.first.now g.targets.now g.nodes s.mark.now s.stack.now s.path.now s.start.now 0 0 0 0
  pub top : s.top ≡ 0
  pub segs : s.segs ≡ 0
  pub depth : s.depth ≡ 0

-- the lists are those that were lent
pub record Same (old new : Held) : Type 0 where
  pub mark : new.mark.ghost_name ≡ old.mark.ghost_name
  pub stack : new.stack.ghost_name ≡ old.stack.ghost_name
  pub path : new.path.ghost_name ≡ old.path.ghost_name
  pub start : new.start.ghost_name ≡ old.start.ghost_name

-- only the marks have changed
pub record Kept (old new : Held) : Type 0 where
  pub marks : length new.mark.now ≡ length old.mark.now
  pub stack : new.stack.now ≡ old.stack.now
  pub path : new.path.now ≡ old.path.now
  pub start : new.start.now ≡ old.start.now
  pub top : new.top ≡ old.top
  pub segs : new.segs ≡ old.segs
  pub depth : new.depth ≡ old.depth
  pub cur : new.cur ≡ old.cur

-- t is put on the stack, on the path and as a segment's start
pub record Pushed (g : Graph) (old new : Held) (t : ℕ) : Type 0 where
  pub mark : new.mark.now ≡ set old.mark.now t (old.top + 1)
  pub stack : new.stack.now ≡ set old.stack.now old.top t
  pub path : new.path.now ≡ set old.path.now old.depth (at g.first.now t)
  pub start : new.start.now ≡ set old.start.now old.segs old.top
  pub top : new.top ≡ old.top + 1
  pub segs : new.segs ≡ old.segs + 1
  pub depth : new.depth ≡ old.depth + 1
  pub cur : new.cur ≡ old.top

-- the top segment, from the current node, is taken off the stack, and its node off the path
pub record Dropped (old new : Held) (before : ℕ) : Type 0 where
  pub marks : length new.mark.now ≡ length old.mark.now
  pub stack : new.stack.now ≡ old.stack.now
  pub path : new.path.now ≡ old.path.now
  pub start : new.start.now ≡ old.start.now
  pub top : new.top ≡ old.cur
  pub segs : new.segs ≡ old.segs - 1
  pub depth : new.depth ≡ old.depth - 1
  pub cur : new.cur ≡ before
