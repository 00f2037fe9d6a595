-- Lists one after the other: numbers that fit, and how long their spelling is.
use Prim.Native.Nat.{ℕ, suc, zero, ◌+◌, ◌*◌, ◌≤◌, ◌<◌}
use native.Mathlib.Nat.{suc-mul, mul-le-mul_right}
use native.Mathlib.Omega.{arith}
use mathlib.Core.Path.{◌≡◌, ap, ◌∙◌}
use mathlib.Core.List.{List, ◌∷◌, ◌++◌}
use lib.ListN.{length, length-append}
use Rattle.number.specs.Number.{spell, spell_all}
use Rattle.number.proofs.Spelling.{spell_append}
use Rattle.number.proofs.Sequence.{Fit, fit_none, fit_append}
use Rattle.model.specs.Each.{gather}
use Rattle.model.proofs.Gather.{gather_ext}

pub gather_same : (n k : ℕ) (f g : ℕ → List ℕ) → n ≡ k → ((i : ℕ) → i < n → f i ≡ g i) → gather n f ≡ gather k g
gather_same n k f g e h = gather_ext n f g h ∙ ap (λ (j : ℕ). gather j g) e

pub fit_gather : (n : ℕ) (f : ℕ → List ℕ) → ((i : ℕ) → i < n → Fit (f i)) → Fit (gather n f)
unfolding gather
fit_gather zero f h = fit_none
fit_gather (suc n) f h = fit_append (gather n f) (fit_gather n f (λ i p. h i (omega arith))) (h n (omega arith))

-- ---- spelt no longer

abbrev pub Shorter : List ℕ → List ℕ → Type 0
Shorter vs ws = length (spell_all vs) ≤ length (spell_all ws)

pub shorter_more : (v : ℕ) (vs ws : List ℕ) → Shorter vs ws → Shorter (v ∷ vs) (v ∷ ws)
unfolding spell_all
shorter_more v vs ws h = omega (arith, length-append (spell v) (spell_all vs), length-append (spell v) (spell_all ws))

pub shorter_append : (vs vs' ws ws' : List ℕ) → Shorter vs ws → Shorter vs' ws' → Shorter (vs ++ vs') (ws ++ ws')
shorter_append vs vs' ws ws' h k =
    rw (spell_append vs vs', spell_append ws ws')
    (omega (arith, length-append (spell_all vs) (spell_all vs'), length-append (spell_all ws) (spell_all ws')))

pub shorter_gather : (n : ℕ) (f g : ℕ → List ℕ) → ((i : ℕ) → i < n → Shorter (f i) (g i)) → Shorter (gather n f) (gather n g)
unfolding gather
shorter_gather zero f g h = omega arith
shorter_gather (suc n) f g h =
    shorter_append (gather n f) (f n) (gather n g) (g n) (shorter_gather n f g (λ i p. h i (omega arith))) (h n (omega arith))

-- ---- how many they are

gather_count : (k n : ℕ) (f : ℕ → List ℕ) → ((i : ℕ) → i < n → length (f i) ≤ k) → length (gather n f) ≤ n * k
unfolding gather
gather_count k zero f h = omega arith
gather_count k (suc n) f h =
    let e : suc n * k ≡ n * k + k = suc-mul n k in
    omega (arith, length-append (gather n f) (f n), gather_count k n f (λ i p. h i (omega arith)), h n (omega arith))

pub gather_most : (k n b : ℕ) (f : ℕ → List ℕ) → n ≤ b → ((i : ℕ) → i < n → length (f i) ≤ k) → length (gather n f) ≤ b * k
gather_most k n b f h g = omega (arith, gather_count k n f g, mul-le-mul_right k h)
