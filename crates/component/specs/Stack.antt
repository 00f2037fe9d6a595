-- What holds of the four lists between two steps of the pass. A list is given as the function of what stands at a place.
-- m: the marks, 0 new; suc p on the stack at p; suc n + (2h + c) finished. st: the stack. pa: the path from the first node of the search to the
-- current one, by the places of its nodes (the open ones) on the stack. sg: where the segments of the stack start.
use Rattle.std.specs.Prelude.{◌≡◌, Bool, true, ◌⊎◌, ◌↔◌, List, ℕ, suc, ◌+◌, ◌*◌, ◌≤◌, ◌<◌, get_or, eqb}
use Rattle.theory.specs.Below.{bit, count}
use Rattle.theory.specs.System.{System, Reaches, OnClosedWalkIn}
use Rattle.theory.specs.Height.{IsHeight}

abbrev pub at : List ℕ → ℕ → ℕ
at l p = get_or l p 0

-- how many nodes below n are new
unfoldable pub news : (ℕ → ℕ) → ℕ → ℕ
news m n = count n (λ s. eqb (m s) 0)

-- q lies in p's segment or a higher one
abbrev pub Above : (ℕ → ℕ) → ℕ → ℕ → ℕ → Type 0
Above sg segs p q = (k : ℕ) → k < segs → sg k ≤ p → sg k ≤ q

abbrev pub Open : (ℕ → ℕ) → ℕ → ℕ → Type 0
Open pa depth p = (i : ℕ) × (i < depth) × (pa i ≡ p)

-- each successor of the node at p is finished, or lies in p's segment or a higher one
abbrev pub Explored : System → ℕ → (ℕ → ℕ) → (ℕ → ℕ) → (ℕ → ℕ) → ℕ → ℕ → ℕ → Type 0
Explored Y n m st sg top segs p =
    (t : ℕ) → Y.flow (st p) t ≡ true → (n < m t) ⊎ ((q : ℕ) × (q < top) × (st q ≡ t) × Above sg segs p q)

-- s is finished, with the right mark; room: what is left for heights to grow by
pub record Finished (Y : System) (n : ℕ) (m : ℕ → ℕ) (room s : ℕ) : Type 0 where
  pub h : ℕ
  pub c : Bool
  pub is : m s ≡ suc n + (2 * h + bit c)
  pub height : IsHeight Y s h
  pub closed : (c ≡ true) ↔ OnClosedWalkIn Y s
  pub low : h + room < n
  pub kept : (t : ℕ) → Y.flow s t ≡ true → n < m t

pub record Stack (Y : System) (n : ℕ) (m st pa sg : ℕ → ℕ) (top segs depth : ℕ) : Type 0 where
  pub room : top + news m n ≤ n
  pub node : (p : ℕ) → p < top → st p < n
  pub mark : (p : ℕ) → p < top → m (st p) ≡ suc p
  pub held : (s p : ℕ) → s < n → p < n → m s ≡ suc p → (p < top) × (st p ≡ s)
  pub path : (i : ℕ) → i < depth → pa i < top
  pub rises : (i j : ℕ) → i < j → j < depth → pa i < pa j
  pub starts : (k : ℕ) → k < segs → Open pa depth (sg k)
  pub climbs : (k l : ℕ) → k < l → l < segs → sg k < sg l
  pub base : (0 < segs) → sg 0 ≡ 0
  pub none : segs ≡ 0 → top ≡ 0
  -- a segment is strongly connected, and each leads to the next
  pub joined : (p q : ℕ) → p < top → q < top → Above sg segs p q → Reaches Y (st p) (st q)
  pub explored : (p : ℕ) → p < top → Open pa depth p ⊎ Explored Y n m st sg top segs p
  pub done : (s : ℕ) → s < n → n < m s → Finished Y n m (top + news m n) s
