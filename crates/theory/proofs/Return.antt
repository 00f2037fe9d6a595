-- The least walk of one step or more into a node q: a least walk into the nodes with a step to q, and then that step. So a search into a set of goals
-- finds closed walks too.
use mathlib.Core.Path.{◌≡◌, refl, ap}
use mathlib.Core.Bool.{Bool, true, ◌&&◌}
use mathlib.Core.List.{List, [], ◌∷◌, ◌++◌}
use Prim.Native.Nat.{ℕ, zero, suc, ◌+◌}
use native.Mathlib.Omega.{arith}
use lib.Dec.{eqb}
use borrow.Author.Tests.{eqb-true, eq-eqb}
use Rattle.theory.specs.Below.{any, least}
use Rattle.theory.specs.Walk.{Inside, exact, dist, dist⁺, greedy}
use Rattle.theory.proofs.Below.{any-and_intro, any-and_elim, and_intro, and_right, least_is, least-and, false_unless_true, bool_ext}
use Rattle.theory.proofs.Guide.{any_same, least_same}

module _ (S : ℕ) (r : ℕ → ℕ → Bool) (inside : Inside S r) (q : ℕ) where
  pub exact_return : (k p : ℕ) → exact S r (λ x. eqb x q) (suc k) p ≡ exact S r (λ x. r x q) k p
  unfolding exact
  exact_return zero p =
      bool_ext (any S (λ x. r p x && eqb x q)) (r p q)
      (λ e. let (x, b, t, z) = any-and_elim S (r p) (λ x. eqb x q) e in rw (eqb-true x q z) at t)
      (λ e. any-and_intro S (r p) (λ x. eqb x q) q (inside p q e).1 e (eq-eqb q q refl))
  exact_return (suc k) p =
      any_same S (λ x. r p x && exact S r (λ x. eqb x q) (suc k) x) (λ x. r p x && exact S r (λ x. r x q) k x)
      (λ x b. ap (λ (t : Bool). r p x && t) (exact_return k x))

  pub dist_return : (p : ℕ) → dist⁺ S r (λ x. eqb x q) p ≡ dist S r (λ x. r x q) p + 1
  unfolding dist⁺ dist
  dist_return p =
      omega (arith, least_same S (λ k. exact S r (λ x. eqb x q) (suc k) p) (λ k. exact S r (λ x. r x q) k p) (λ k b. exact_return k p))

  only : (p : ℕ) → r p q ≡ true → least S (λ x. r p x && eqb x q) ≡ q
  only p e =
      least_is S (λ x. r p x && eqb x q) q (inside p q e).1 (and_intro (r p q) (eqb q q) e (eq-eqb q q refl))
      (λ j l. false_unless_true (r p j && eqb j q) (λ t. let z = eqb-true j q (and_right (r p j) (eqb j q) t) in omega arith))

  pub greedy_return : (k p : ℕ) → exact S r (λ x. r x q) k p ≡ true → greedy S r (λ x. eqb x q) (suc k) p ≡ greedy S r (λ x. r x q) k p ++ (q ∷ [])
  unfolding greedy exact
  greedy_return zero p e = rw (only p e)
  greedy_return (suc k) p e =
      let x = least S (λ x. r p x && exact S r (λ x. r x q) k x) in
      let (b, t, y) = least-and S (r p) (exact S r (λ x. r x q) k) e in
      let c : least S (λ x. r p x && exact S r (λ x. eqb x q) (suc k) x) ≡ x =
      least_same S (λ x. r p x && exact S r (λ x. eqb x q) (suc k) x) (λ x. r p x && exact S r (λ x. r x q) k x)
      (λ x b. ap (λ (t : Bool). r p x && t) (exact_return k x)) in
      rw c (ap (λ (l : List ℕ). x ∷ l) (greedy_return k x y))
