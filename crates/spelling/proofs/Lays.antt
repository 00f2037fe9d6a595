-- What is laid, part by part, and the output in the end.
use mathlib.Core.Path.{◌≡◌, refl, ap, ◌∙◌}
use mathlib.Core.List.{List, [], ◌∷◌, ◌++◌}
use Prim.Native.Nat.{ℕ, suc, ◌+◌, ◌≤◌, ◌<◌}
use native.Mathlib.Nat.{add-zero, zero-add}
use native.Mathlib.Omega.{arith}
use lib.ListN.{length, length-append, set, length-set, drop}
use lib.Seq.{sets, sets-eq}
use borrow.Author.Tests.{lt-ltb, le-ltb}
use Rattle.spelling.specs.Lays.{Lays, filled}

sets-append : (vs ws l : List ℕ) (i : ℕ) → sets (sets l i vs) (i + length vs) ws ≡ sets l i (vs ++ ws)
sets-append [] ws l i = ap (λ (k : ℕ). sets l k ws) (add-zero i)
sets-append (a ∷ vs) ws l i =
    ap (λ (k : ℕ). sets (sets (set l i a) (suc i) vs) k ws) (let z : i + suc (length vs) ≡ suc i + length vs = omega arith in z)
    ∙ sets-append vs ws (set l i a) (suc i)

sets_long : (vs l : List ℕ) (i : ℕ) → length (sets l i vs) ≡ length l
sets_long [] l i = refl
sets_long (a ∷ vs) l i = sets_long vs (set l i a) (suc i) ∙ length-set l i a

-- nothing
pub lays_none : (out : List ℕ) (at : ℕ) → Lays out out at at []
lays_none out at = record { end = omega arith; long = refl; laid = λ _. refl }

-- what doesn't fit is left out
pub lays_not : (out bs : List ℕ) (at r : ℕ) → r ≡ at + length bs → length out < r → Lays out out at r bs
lays_not out bs at r e h = record { end = e; long = refl; laid = λ k. absurd (omega arith) }

-- one after the other
pub lays_then : {o o₁ o₂ bs cs : List ℕ} {at r s : ℕ} → Lays o o₁ at r bs → Lays o₁ o₂ r s cs → Lays o o₂ at s (bs ++ cs)
lays_then {o} {o₁} {bs = bs} {cs = cs} {at = at} {r = r} {s = s} a b = record {
  end = omega (arith, a.end, b.end, length-append bs cs);
  long = b.long ∙ a.long;
  laid = λ h.
      let p : r ≤ length o = omega (arith, b.end) in
      let k : s ≤ length o₁ = omega (arith, a.long) in
      b.laid k ∙ (ap (λ (l : List ℕ). sets l r cs) (a.laid p) ∙ (ap (λ (i : ℕ). sets (sets o at bs) i cs) a.end ∙ sets-append bs cs o at));
}

-- from the first byte on the rest is untouched
lays_whole : {o o' bs : List ℕ} {r : ℕ} → Lays o o' 0 r bs → r ≤ length o → o' ≡ bs ++ drop (length bs) o
lays_whole {o} {bs = bs} a h =
    a.laid h ∙ (sets-eq bs o 0 (omega (arith, a.end)) ∙ ap (λ (k : ℕ). bs ++ drop k o) (zero-add (length bs)))

-- into an output of its own
pub lays_as : {o o' bs cs : List ℕ} {at r : ℕ} → Lays o o' at r bs → bs ≡ cs → Lays o o' at r cs
lays_as {o} {o'} {at = at} {r = r} a e = rw e at a

-- ---- the output in the end

-- no part of an output is lent: it stays
pub none_lent : (xs out : List ℕ) → length xs ≡ 0 → xs ++ out ≡ out
none_lent [] out e = refl
none_lent (x ∷ xs) out e = absurd (omega arith)

module _ (bs : List ℕ) where
  pub fills : {o o₁ o' cs : List ℕ} {r : ℕ} → cs ≡ bs → o₁ ≡ o → Lays o₁ o' 0 r cs → r ≤ length o → o' ≡ filled bs o
  fills {o} {o₁} e f L h =
      simp (le-ltb (length o) (length bs) (omega (arith, L.end, ap length e)))
      (lays_whole L (omega (arith, ap length f)) ∙ (ap (λ (l : List ℕ). l ++ drop (length l) o₁) e ∙ ap (λ (l : List ℕ). bs ++ drop (length bs) l) f))

  pub fills_not : {o o₁ : List ℕ} {r : ℕ} → o₁ ≡ o → r ≡ length bs → length o < r → o₁ ≡ filled bs o
  fills_not {o} f e h = simp (lt-ltb (length o) (length bs) (omega arith)) f
