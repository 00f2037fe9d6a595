-- The ways of a call for plans with a joint reset: refused as any call, or past number 8.
use Prim.Native.Nat.{ℕ, zero, suc}
use native.Mathlib.Omega.{arith}
use mathlib.Core.Path.{◌≡◌, refl}
use mathlib.Core.Bool.{cond}
use mathlib.Core.List.{List}
use lib.Dec.{eqb}
use borrow.Author.Tests.{ne_eqb}
use Rattle.call.specs.Call.{model_of, refusal}
use Rattle.call.specs.Joint.{disjoint, joint_refusal}

module _ (bytes lent : List ℕ) where
  pub joint_refused : (r : ℕ) → refusal bytes lent ≡ r → (r ≡ 0 → ⊥) → joint_refusal bytes lent ≡ r
  unfolding joint_refusal
  joint_refused r is ne = simp (is, ne_eqb r 0 ne) refl

  pub joint_past : refusal bytes lent ≡ 0 → joint_refusal bytes lent ≡ disjoint (model_of bytes)
  unfolding joint_refusal
  joint_past is = simp is refl

-- 17, and what is refused after it
pub past_joint : (r d n : ℕ) → cond (eqb r 0) (cond (eqb d 0) n d) r ≡ cond (eqb (cond (eqb r 0) d r) 0) n (cond (eqb r 0) d r)
past_joint zero d n = refl
past_joint (suc r) d n = simp (ne_eqb (suc r) 0 (λ e. omega (arith, e))) refl

pub past_joint_left : {A : Type 0} (r d : ℕ) (x y : A) → cond (eqb r 0) (cond (eqb d 0) x y) y ≡ cond (eqb (cond (eqb r 0) d r) 0) x y
past_joint_left zero d x y = refl
past_joint_left (suc r) d x y = simp (ne_eqb (suc r) 0 (λ e. omega (arith, e))) refl
