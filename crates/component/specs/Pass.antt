-- The state of the pass in the lent lists, and what a step makes of it.
use Rattle.std.specs.Prelude.{◌≡◌, List, ℕ, suc, ◌+◌, ◌*◌, ◌-◌, ◌<◌, length, ltb}
use Rattle.theory.specs.Below.{bit}
use Rattle.theory.specs.System.{System}
use Rattle.component.specs.Marks.{GraphLists}
use Rattle.component.specs.Graph.{graph_of}
use Rattle.component.specs.Stack.{at, news, Stack}
use Rattle.component.specs.Scan.{Cursor, Most, Painted}

-- the node after the i-th of the path, by the place among the i-th's successors that was passed last
pub record Entered (targets mark path : List ℕ) (i : ℕ) : Type 0 where
  pub some : 0 < at path i
  pub place : at path i - 1 < length targets
  pub node : at targets (at path i - 1) < length mark
  pub on : 0 < at mark (at targets (at path i - 1))

-- pa: the places of the path's nodes on the stack; the list `path` holds for each of its nodes the place up to which its successors were passed
pub record Pass (first targets : List ℕ) (n : ℕ) (mark stack path start : List ℕ) (top segs depth cur : ℕ) : Type 0 where
  pub shape : GraphLists first targets n
  pub marks : length mark ≡ n
  pub stacks : length stack ≡ n
  pub paths : length path ≡ n
  pub begins : length start ≡ n
  pub pa : ℕ → ℕ
  pub state : Stack (graph_of first targets n) n (at mark) (at stack) pa (at start) top segs depth
  pub here : 0 < depth → pa (depth - 1) ≡ cur
  pub cursors : (i : ℕ) → i < depth → Cursor first targets (at mark) (at stack (pa i)) (at path i)
  pub edges : (i : ℕ) → suc i < depth → (0 < at path i) × (at targets (at path i - 1) ≡ at stack (pa (suc i)))

-- no node becomes new
abbrev pub NoNew : ℕ → List ℕ → List ℕ → Type 0
NoNew n mark mark' = (s : ℕ) → s < n → at mark' s ≡ 0 → at mark s ≡ 0

-- what a step of the pass makes of the marks and the path: a number falls, and no node becomes new
pub record Moved (n : ℕ) (mark mark' : List ℕ) (depth depth' : ℕ) : Type 0 where
  pub falls : 2 * news (at mark') n + depth' < 2 * news (at mark) n + depth
  pub kept : NoNew n mark mark'

-- m' is m with the segment at the places a .. top finished; w: the lowest place on the stack of a successor of the node at a, or top
pub record Popped (Y : System) (n : ℕ) (m m' st : ℕ → ℕ) (a top w : ℕ) : Type 0 where
  pub h : ℕ
  pub most : Most Y n m st a top h
  pub filled : Painted m m' st a top (suc n + (2 * h + bit (ltb w top)))
