-- Walks of a graph whose nodes are the numbers below S and whose steps are given by a test r: how many steps lead into a goal at the
-- fewest, and which of the walks with so many steps is the least in its nodes.
use Rattle.std.specs.Prelude.{◌≡◌, Bool, true, ◌&&◌, List, [], ◌∷◌, ℕ, zero, suc, ◌<◌, length}
use Rattle.theory.specs.Below.{any, least}

-- ---- what is meant

-- a walk from a node to a node, with the nodes that it comes to, one for each step: the node it begins at is left out
pub data Walk (r : ℕ → ℕ → Bool) : ℕ → ℕ → List ℕ → Type 0 where
  stop : {p : ℕ} → Walk r p p []
  move : {p q s : ℕ} {l : List ℕ} → r p q ≡ true → Walk r q s l → Walk r p s (q ∷ l)

-- steps join nodes below S
abbrev pub Inside : ℕ → (ℕ → ℕ → Bool) → Type 0
Inside S r = (p q : ℕ) → r p q ≡ true → (p < S) × (q < S)

-- a walk of k steps from p into a goal
pub record Into (r : ℕ → ℕ → Bool) (goal : ℕ → Bool) (k p : ℕ) : Type 0 where
  pub path : List ℕ
  pub end : ℕ
  pub walk : Walk r p end path
  pub ends : goal end ≡ true
  pub size : length path ≡ k

-- 01: "the least in state numbers read from the start". The order of a dictionary: the first number that differs decides.
-- Lex l m: l is m, or stands before it.
pub data Lex : List ℕ → List ℕ → Type 0 where
  same : Lex [] []
  first : {a b : ℕ} {l m : List ℕ} → a < b → Lex (a ∷ l) (b ∷ m)
  later : {a : ℕ} {l m : List ℕ} → Lex l m → Lex (a ∷ l) (a ∷ m)

-- ---- what computes it

-- a walk of just k steps leads from p into a goal
unfoldable pub exact : ℕ → (ℕ → ℕ → Bool) → (ℕ → Bool) → ℕ → ℕ → Bool
exact S r goal zero p = goal p
exact S r goal (suc k) p = any S (λ q. r p q && exact S r goal k q)

-- a walk of fewer than n steps does
unfoldable pub within : ℕ → (ℕ → ℕ → Bool) → (ℕ → Bool) → ℕ → ℕ → Bool
within S r goal n p = any n (λ k. exact S r goal k p)

-- the fewest steps from p into a goal, or S if no walk leads there
unfoldable pub dist : ℕ → (ℕ → ℕ → Bool) → (ℕ → Bool) → ℕ → ℕ
dist S r goal p = least S (λ k. exact S r goal k p)

-- the fewest steps, of one step or more, or S + 1
unfoldable pub dist⁺ : ℕ → (ℕ → ℕ → Bool) → (ℕ → Bool) → ℕ → ℕ
dist⁺ S r goal p = suc (least S (λ k. exact S r goal (suc k) p))

-- the nodes of the least walk of k steps: at each step the least node from which the goal can still be met
unfoldable pub greedy : ℕ → (ℕ → ℕ → Bool) → (ℕ → Bool) → ℕ → ℕ → List ℕ
greedy S r goal zero p = []
greedy S r goal (suc k) p = let q = least S (λ q. r p q && exact S r goal k q) in q ∷ greedy S r goal k q
