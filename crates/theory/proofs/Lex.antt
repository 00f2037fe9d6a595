-- Laws of `Lex`: keys put together of parts, and lists that are compared element by element.
use mathlib.Core.Path.{◌≡◌, refl, ap}
use mathlib.Core.Logic.{◌⊎◌, inl, inr}
use mathlib.Core.List.{List, [], ◌∷◌, ◌++◌, map, cons≢nil}
use Prim.Native.Nat.{ℕ, ◌≤◌, ◌<◌}
use native.Mathlib.Omega.{arith}
use native.Mathlib.Nat.{eq-or-lt_of_le}
use Rattle.theory.specs.Walk.{Lex, same, first, later}

lex_meet : {l m x y : List ℕ} → Lex l m → Lex x y → l ≡ y → m ≡ x → l ≡ m
lex_meet same g c d = refl
lex_meet (first {a = a} {b = b} h) (first {a = x} {b = y} g) c d =
    let e : a ≡ y = cc in
    let f : b ≡ x = cc in
    absurd (omega arith)
lex_meet (first {a = a} {b = b} h) (later {a = x} g) c d =
    let e : a ≡ x = cc in
    let f : b ≡ x = cc in
    absurd (omega arith)
lex_meet (later {a = a} h) (first {a = x} {b = y} g) c d =
    let e : a ≡ y = cc in
    let f : a ≡ x = cc in
    absurd (omega arith)
lex_meet (later {a = a} {l = l} {m = m} h) (later {l = x} {m = y} g) c d =
    let e : l ≡ y = cc in
    let f : m ≡ x = cc in
    ap (λ (m : List ℕ). a ∷ m) (lex_meet h g e f)
lex_meet (first h) same c d = absurd (cons≢nil c)
lex_meet (later h) same c d = absurd (cons≢nil c)

-- two keys, each at most the other, are the same: what is least is only one
pub lex_antisym : {l m : List ℕ} → Lex l m → Lex m l → l ≡ m
lex_antisym h g = lex_meet h g refl refl

pub lex_head : {a b : ℕ} {l m : List ℕ} → a ≤ b → (a ≡ b → Lex l m) → Lex (a ∷ l) (b ∷ m)
lex_head {a} {b} {l} {m} h k = by (eq-or-lt_of_le h)
  where
    by : (a ≡ b) ⊎ (a < b) → Lex (a ∷ l) (b ∷ m)
    by (inl c) = rw c (later (k c))
    by (inr c) = first c

-- where the first parts are the same, the second ones decide
pub lex_append : {l m x y : List ℕ} → Lex l m → (l ≡ m → Lex x y) → Lex (l ++ x) (m ++ y)
lex_append same k = k refl
lex_append (first a) k = first a
lex_append (later {a = a} h) k = later (lex_append h (λ c. k (ap (λ (m : List ℕ). a ∷ m) c)))

-- a has the lesser kind, or the same kind and at most the edge
pub data Before {A : Type 0} (kind edge : A → ℕ) (a b : A) : Type 0 where
  less : kind a < kind b → Before kind edge a b
  level : kind a ≡ kind b → edge a ≤ edge b → Before kind edge a b

-- lists of one length, a relation between any two that stand at one place
pub data Pairs {A : Type 0} (R : A → A → Type 0) : List A → List A → Type 0 where
  nil : Pairs R [] []
  pair : {a b : A} {l m : List A} → R a b → Pairs R l m → Pairs R (a ∷ l) (b ∷ m)

module _ {A : Type 0} (kind edge : A → ℕ) where
  pub pairs_kinds : {l m : List A} → Pairs (Before kind edge) l m → Lex (map kind l) (map kind m)
  pairs_kinds nil = same
  pairs_kinds (pair (less h) w) = first h
  pairs_kinds (pair (level c h) w) = rw c (later (pairs_kinds w))

  pub pairs_edges : {l m : List A} → Pairs (Before kind edge) l m → map kind l ≡ map kind m → Lex (map edge l) (map edge m)
  pairs_edges nil c = same
  pairs_edges (pair {a = a} {b = b} (less h) w) c = let e : kind a ≡ kind b = cc in absurd (omega arith)
  pairs_edges (pair {l = l} {m = m} (level d h) w) c = let e : map kind l ≡ map kind m = cc in lex_head h (λ _. pairs_edges w e)
