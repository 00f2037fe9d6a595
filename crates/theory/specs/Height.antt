-- Heights of states.
use Rattle.std.specs.Prelude.{◌≡◌, Bool, true, not, cond, ◌&&◌, ℕ, zero, suc, ◌≤◌}
use Rattle.theory.specs.Below.{top}
use Rattle.theory.specs.System.{System, Reaches, reach}

-- ---- what is meant

-- Falls Y p d: some walk of time and jump steps from p "takes a step it can't return from" d times.
pub data Falls (Y : System) : ℕ → ℕ → Type 0 where
  none : {p : ℕ} → Falls Y p zero
  level : {p q d : ℕ} → Y.flow p q ≡ true → Reaches Y q p → Falls Y q d → Falls Y p d
  down : {p q d : ℕ} → Y.flow p q ≡ true → ¬ Reaches Y q p → Falls Y q d → Falls Y p (suc d)

-- 01: "the height is the most times that a walk of time and jump steps from the state takes a step it can't return from"
pub record IsHeight (Y : System) (p h : ℕ) : Type 0 where
  pub some : Falls Y p h
  pub most : (d : ℕ) → Falls Y p d → d ≤ h

-- ---- what computes it: the longest chain of states, each reached from the one before it and not leading back to it

-- p reaches q, and q does not reach p
unfoldable pub under : System → ℕ → ℕ → Bool
under Y p q = reach Y p q && not (reach Y q p)

-- the most links of a chain from p, of at most k
unfoldable pub chain : System → ℕ → ℕ → ℕ
chain Y zero p = zero
chain Y (suc k) p = top Y.size (λ q. let r = suc (chain Y k q) in cond (under Y p q) r zero)

-- the number that `IsHeight` tells of
unfoldable pub height : System → ℕ → ℕ
height Y p = chain Y Y.size p
