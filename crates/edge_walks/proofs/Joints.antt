-- The test of the edges that reset every clock is the paper's, and so is that of the walks without one.
use Prim.Native.Nat.{ℕ, zero, suc, ◌-◌, ◌/◌, ◌%◌, ◌^◌, ◌<◌}
use native.Mathlib.Nat.{pow-zero, pow-succ', div-div-eq-div-mul, div-one}
use native.Mathlib.Omega.{arith}
use mathlib.Core.Path.{◌≡◌, refl, sym, ap, ◌∙◌}
use mathlib.Core.Bool.{Bool, true, false, not, ◌&&◌}
use mathlib.Core.Logic.{◌↔◌}
use lib.Dec.{eqb}
use lib.ListN.{get_or}
use lib.Pow.{pow_pos}
use borrow.Author.Tests.{eqb-true, eqb-false, eq-eqb, ne_eqb}
use Rattle.model.specs.declared.Model.{Model}
use Rattle.model.specs.Each.{some_below}
use Rattle.model.specs.Model.{Lawful, keeps}
use Rattle.model.proofs.Each.{false≢true, some_law}
use Rattle.edge_walks.specs.Opening.{opens_alone}
use Rattle.edge_walks.specs.Cycle.{step, counts, unreset_at, unreset}
use Rattle.edge_walks.specs.Joint.{ResetsEvery, resets_every, PartialReset, partial_reset, LacksJointReset, lacks_joint_reset}
use Rattle.edge_walks.proofs.Opens.{and_law, opens_law}
use Rattle.edge_walks.proofs.ClosedWalks.{cycle_law, cycle_ext}

-- ---- the largest mask of n clocks has each bit

next_bit : (r x : ℕ) → r / 2 ^ suc x % 2 ≡ r / 2 / 2 ^ x % 2
next_bit r x = rw (pow-succ' 2 x, ← div-div-eq-div-mul r 2 (2 ^ x))

first_bit : (r : ℕ) → r / 2 ^ 0 % 2 ≡ r % 2
first_bit r = rw (pow-zero 2, div-one r)

abbrev EachBit : ℕ → ℕ → Type 0
EachBit n r = (x : ℕ) → x < n → eqb (r / 2 ^ x % 2) 0 ≡ false

to_largest : (n r : ℕ) → r < 2 ^ n → EachBit n r → r ≡ 2 ^ n - 1
to_largest zero r h f = omega (arith, pow-zero 2)
to_largest (suc n) r h f =
    let odd = eqb-false (r % 2) 0 (rw first_bit at (f 0 (omega arith))) in
    let half = to_largest n (r / 2) (omega (arith, pow-succ' 2 n)) (λ x l. rw (← next_bit) (f (suc x) (omega arith))) in
    omega (arith, pow-succ' 2 n, pow_pos n)

of_largest : (n r : ℕ) → r ≡ 2 ^ n - 1 → EachBit n r
of_largest zero r e x l = absurd (omega arith)
of_largest (suc n) r e zero l = rw first_bit (ne_eqb (r % 2) 0 (λ z. omega (arith, pow-succ' 2 n, pow_pos n)))
of_largest (suc n) r e (suc x) l = rw next_bit (of_largest n (r / 2) (omega (arith, pow-succ' 2 n, pow_pos n)) x (omega arith))

-- ---- edges and walks

not_law : {P : Type 0} (b : Bool) → (b ≡ true) ↔ P → (not b ≡ true) ↔ (P → ⊥)
not_law true (f, g) = (λ e. absurd (false≢true e), λ n. absurd (n (f refl)))
not_law false (f, g) = (λ _ p. false≢true (g p), λ _. refl)

-- a test that holds nowhere
nowhere : (t : ℕ → Bool) (i n : ℕ) → i < n → some_below n t ≡ false → t i ≡ false
nowhere t i n l h = by (t i) refl
  where
    by : (b : Bool) → t i ≡ b → t i ≡ false
    by true q = absurd (false≢true (sym h ∙ (some_law n t).1 (i, l, q)))
    by false q = q

-- a mask of one clock keeps it unless it is 1
only_bit : (r : ℕ) → r < 2 → not (eqb r 1) ≡ eqb (r / 2 ^ 0 % 2) 0
only_bit zero h = refl
only_bit (suc zero) h = refl
only_bit (suc (suc r)) h = absurd (omega arith)

module _ (m : Model) (ok : Lawful m) where
  pub resets_law : (e : ℕ) → (resets_every m e ≡ true) ↔ ResetsEvery m e
  resets_law e =
      let r = get_or m.reset e 0 in (
        λ t. of_largest m.clocks r (eqb-true r (2 ^ m.clocks - 1) t),
        λ f. eq-eqb r (2 ^ m.clocks - 1) (to_largest m.clocks r (ok.ranges.reset e) f),
      )

  partial_law : (e : ℕ) → (partial_reset m e ≡ true) ↔ PartialReset m e
  partial_law e = and_law (not (resets_every m e)) (opens_alone m e) (not_law (resets_every m e) (resets_law e)) (opens_law m e)

  pub joint_law : (lacks_joint_reset m ≡ true) ↔ LacksJointReset m
  unfolding lacks_joint_reset
  joint_law = cycle_law m ok (partial_reset m) (PartialReset m) partial_law

  -- without an edge there is no walk
  pub no_edges : m.edges ≡ 0 → false ≡ lacks_joint_reset m
  no_edges none = by (lacks_joint_reset m) refl
    where
      walk : LacksJointReset m → ⊥
      walk (k, v, step e b s p w) = omega arith

      by : (b : Bool) → lacks_joint_reset m ≡ b → false ≡ lacks_joint_reset m
      by true q = absurd (walk (joint_law.0 q))
      by false q = sym q

  -- with one clock an edge that resets it resets every clock, so each accepted plan has joint resets
  pub one_clock_joint : m.clocks ≡ 1 → unreset m ≡ false → lacks_joint_reset m ≡ false
  unfolding unreset lacks_joint_reset
  one_clock_joint one h =
      cycle_ext m (partial_reset m) (counts m 0) (λ e _. ap (λ (b : Bool). b && opens_alone m e) (same e))
      ∙ nowhere (unreset_at m) 0 m.clocks (omega arith) h
    where
      same : (e : ℕ) → not (resets_every m e) ≡ keeps m 0 e
      same e = rw one (only_bit (get_or m.reset e 0) (rw one at (ok.ranges.reset e)))
