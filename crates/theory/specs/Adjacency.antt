-- Graphs in lists of numbers, as code holds them.
use Rattle.std.specs.Prelude.{◌≡◌, Bool, true, ◌↔◌, ℕ, suc, ◌+◌, ◌≤◌, ◌<◌, length, get_or}
use mathlib.Core.List.{List, [], ◌∷◌, Memᴰ}

-- ---- successors: those of node p stand in `targets`, from place `first p` up to place `first (p + 1)`

-- q is a successor of p
pub record Adjacent (first targets : List ℕ) (p q : ℕ) : Type 0 where
  pub place : ℕ
  pub after : get_or first p 0 ≤ place
  pub before : place < get_or first (suc p) 0
  pub is : get_or targets place 0 ≡ q

-- the shape of such lists for the nodes below n
pub record Rows (first targets : List ℕ) (n : ℕ) : Type 0 where
  pub long : length first ≡ n + 1
  pub ascends : (p : ℕ) → p < n → get_or first p 0 ≤ get_or first (p + 1) 0
  pub ends : get_or first n 0 ≤ length targets
  pub below : (i : ℕ) → i < get_or first n 0 → get_or targets i 0 < n

-- two lists hold the graph of a relation on the nodes below n
pub record Holds (first targets : List ℕ) (n : ℕ) (r : ℕ → ℕ → Bool) : Type 0 where
  pub long : length first ≡ suc n
  pub ascends : (p : ℕ) → p < n → get_or first p 0 ≤ get_or first (suc p) 0
  pub ends : get_or first n 0 ≤ length targets
  pub below : (i : ℕ) → i < get_or first n 0 → get_or targets i 0 < n
  pub edges : (p q : ℕ) → p < n → Adjacent first targets p q ↔ (r p q ≡ true)

-- ---- slots by what they hold: `head v` and `link s` are one more than a slot, or 0 at the end of a chain

-- from a link on, the chain leads through these slots, each below the one before
pub data Chain (link : List ℕ) : ℕ → List ℕ → Type 0 where
  end : Chain link 0 []
  slot : {s : ℕ} {l : List ℕ} → s < length link → get_or link s 0 ≤ s → Chain link (get_or link s 0) l → Chain link (suc s) (s ∷ l)

-- the chain from `head v` leads through just the slots that hold v
pub record Chains (held head link : List ℕ) : Type 0 where
  pub long : length link ≡ length held
  pub chain : (v : ℕ) → v < length head
      → (l : List ℕ) × Chain link (get_or head v 0) l × ((s : ℕ) → Memᴰ s l ↔ ((s < length held) × (get_or held s 0 ≡ v)))
