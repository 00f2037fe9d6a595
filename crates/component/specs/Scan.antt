-- What the loops over the successors of a node and over the places of the stack find.
use Rattle.std.specs.Prelude.{◌≡◌, true, ◌⊎◌, List, ℕ, suc, ◌-◌, ◌/◌, ◌≤◌, ◌<◌, length, get_or}
use Rattle.theory.specs.System.{System}

-- row: the successors of v, and nothing else
pub record RowOf (Y : System) (v : ℕ) (row : List ℕ) : Type 0 where
  pub only : (k : ℕ) → k < length row → Y.flow v (get_or row k 0) ≡ true
  pub all : (t : ℕ) → Y.flow v t ≡ true → (k : ℕ) × (k < length row) × (get_or row k 0 ≡ t)

-- the successors of v at the places from `first v` up to i are not new
pub record Cursor (first targets : List ℕ) (m : ℕ → ℕ) (v i : ℕ) : Type 0 where
  pub from : get_or first v 0 ≤ i
  pub to : i ≤ get_or first (suc v) 0
  pub old : (j : ℕ) → get_or first v 0 ≤ j → j < i → m (get_or targets j 0) ≡ 0 → ⊥

-- r: the place of the first new successor of v, or the end of their places
pub record NewPlace (first targets : List ℕ) (m : ℕ → ℕ) (v r : ℕ) : Type 0 where
  pub cursor : Cursor first targets m v r
  pub new : r < get_or first (suc v) 0 → m (get_or targets r 0) ≡ 0

-- r: the lower of low and t's place on the stack
pub record LowAt (m : ℕ → ℕ) (t low r : ℕ) : Type 0 where
  pub less : r ≤ low
  pub some : (r ≡ low) ⊎ (m t ≡ suc r)
  pub least : (p : ℕ) → m t ≡ suc p → r ≤ p

-- w: the lowest place on the stack of a successor of v, or top
pub record Low (Y : System) (m : ℕ → ℕ) (v top w : ℕ) : Type 0 where
  pub some : w < top → (t : ℕ) × (Y.flow v t ≡ true) × (m t ≡ suc w)
  pub least : (t p : ℕ) → Y.flow v t ≡ true → m t ≡ suc p → w ≤ p

-- r: how many segments are left when those that start above w are one with that of w
pub record Merged (sg : ℕ → ℕ) (segs w r : ℕ) : Type 0 where
  pub some : 0 < r
  pub fewer : r ≤ segs
  pub under : sg (r - 1) ≤ w
  pub over : (k : ℕ) → r ≤ k → k < segs → w < sg k

-- the height that the mark of a finished node holds
abbrev pub height_in : ℕ → ℕ → ℕ
height_in n x = (x - suc n) / 2

-- r: the larger of h and one more than the height of t, if t is finished
pub record MostAt (m : ℕ → ℕ) (n t h r : ℕ) : Type 0 where
  pub more : h ≤ r
  pub above : n < m t → height_in n (m t) < r
  pub found : (r ≡ h) ⊎ ((n < m t) × (r ≡ suc (height_in n (m t))))

-- the same over all successors of v
pub record MostFrom (Y : System) (n : ℕ) (m : ℕ → ℕ) (v h r : ℕ) : Type 0 where
  pub more : h ≤ r
  pub above : (t : ℕ) → Y.flow v t ≡ true → n < m t → height_in n (m t) < r
  pub found : (r ≡ h) ⊎ ((t : ℕ) × (Y.flow v t ≡ true) × (n < m t) × (r ≡ suc (height_in n (m t))))

-- h: the largest of 0 and, for each finished successor of a node at the places a .. top, one more than its height
pub record Most (Y : System) (n : ℕ) (m st : ℕ → ℕ) (a top h : ℕ) : Type 0 where
  pub above : (p t : ℕ) → a ≤ p → p < top → Y.flow (st p) t ≡ true → n < m t → height_in n (m t) < h
  pub found : (h ≡ 0)
      ⊎ ((p : ℕ) × (t : ℕ) × (a ≤ p) × (p < top) × (Y.flow (st p) t ≡ true) × (n < m t) × (h ≡ suc (height_in n (m t))))

-- m' is m with x at each node of the places a .. top
pub record Painted (m m' st : ℕ → ℕ) (a top x : ℕ) : Type 0 where
  pub put : (p : ℕ) → a ≤ p → p < top → m' (st p) ≡ x
  pub rest : (s : ℕ) → ((p : ℕ) → a ≤ p → p < top → st p ≡ s → ⊥) → m' s ≡ m s
