-- A chain through slots from a link on: one more than its first slot, or 0 where it has none.
use mathlib.Core.Path.{◌≡◌, refl, ap}
use mathlib.Core.List.{List, [], ◌∷◌}
use Prim.Native.Nat.{ℕ, suc, ◌≤◌, ◌<◌}
use native.Mathlib.Omega.{arith}
use lib.ListN.{length, get_or}
use Rattle.theory.specs.Adjacency.{Chain, end, slot}

pub chain_cons : {link : List ℕ} {next : ℕ} {l : List ℕ} → Chain link next l → (s : ℕ) → next ≡ suc s
    → (m : List ℕ) × (l ≡ s ∷ m) × (s < length link) × (get_or link s 0 ≤ s) × Chain link (get_or link s 0) m
chain_cons end s e = absurd (omega arith)
chain_cons {link} (slot {s = t} {l = m} a b c) s e =
    let d : t ≡ s = omega arith in
    (m, ap (λ (k : ℕ). k ∷ m) d, rw d at a, rw d at b, rw d at c)

pub chain_nil : {link : List ℕ} {next : ℕ} {l : List ℕ} → Chain link next l → next ≡ 0 → l ≡ []
chain_nil end e = refl
chain_nil (slot a b c) e = absurd (omega arith)
