-- A number as the functions on states answer it: the state, or nothing from S on.
use mathlib.Core.Path.{◌≡◌, sym, ◌∙◌}
use Prim.Native.Nat.{ℕ, ◌≤◌, ◌<◌}
use native.Mathlib.Omega.{arith}
use native.Mathlib.Decide.{dec_lt}
use borrow.Author.Tests.{lt-ltb, le-ltb}
use Rattle.model.specs.declared.Model.{Model}
use Rattle.graph.specs.States.{states, next_of}
use Rattle.std.proofs.Common.{Some, None}

module _ (m : Model) where
  pub to_next : (q : ℕ) → q < states m → next_of m q ≡ Some q
  to_next q h = rw (lt-ltb q (states m) h)

  pub none_next : (q : ℕ) → states m ≤ q → next_of m q ≡ None
  none_next q h = rw (le-ltb q (states m) h)

  -- a state is answered just where there is one
  pub next_to : (q s : ℕ) → next_of m q ≡ Some s → (q ≡ s) × (s < states m)
  next_to q s e = by (dec_lt q (states m))
    where
      by : Dec (q < states m) → (q ≡ s) × (s < states m)
      by (yes h) = let z : Some q ≡ Some s = sym (to_next q h) ∙ e in let d : q ≡ s = cc in (d, omega arith)
      by (no h) =
          let k : states m ≤ q = omega arith in
          let z : Some s ≡ None = sym e ∙ none_next q k in
          let y : ◌≡◌ {A = ℕ} 0 1 = cc in absurd (omega arith)

  pub next_none : (q : ℕ) → next_of m q ≡ None → states m ≤ q
  next_none q e = by (dec_lt q (states m))
    where
      by : Dec (q < states m) → states m ≤ q
      by (yes h) = let z : Some q ≡ None = sym (to_next q h) ∙ e in let y : ◌≡◌ {A = ℕ} 0 1 = cc in absurd (omega arith)
      by (no h) = omega arith
