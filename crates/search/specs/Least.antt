-- The least state of a set, as a scan finds it that keeps the best so far.
use Rattle.std.specs.Prelude.{◌≡◌, ◌⊎◌, List, Option, unwrap_or, IfSome, ℕ, ◌≤◌, ◌<◌, get_or}

-- r: the least of `best` and the states of T
pub record LeastOf (T : ℕ → Type 0) (best r : ℕ) : Type 0 where
  pub less : r ≤ best
  pub least : (q : ℕ) → T q → r ≤ q
  pub some : (r ≡ best) ⊎ T r

-- the same where S stands for none
pub record LeastFound (S : ℕ) (T : ℕ → Type 0) (best r : Option ℕ) : Type 0 where
  pub is : LeastOf T (unwrap_or best S) (unwrap_or r S)
  pub below : IfSome r (λ q. q < S)

-- the states of T that have y
pub record At (level : List ℕ) (y : ℕ) (T : ℕ → Type 0) (q : ℕ) : Type 0 where
  pub has : get_or level q 0 ≡ y
  pub is : T q
