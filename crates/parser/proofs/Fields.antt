-- What a field of a model's bytes says.
use Prim.Native.Nat.{ℕ, ◌≤◌, ◌<◌}
use native.Mathlib.Omega.{arith}
use mathlib.Core.Path.{◌≡◌, refl, subst}
use mathlib.Core.List.{List}
use mathlib.Core.Bool.{Bool, true, false, cond, ◌&&◌}
use lib.ListN.{length}
use lib.Dec.{leb}
use borrow.Author.Tests.{leb-true, le-leb}
use Rattle.number.specs.Number.{Number, read_number}
use Rattle.number.proofs.Laws.{cond_ind, Sound, sound}
use Rattle.parser.specs.Parse.{Field}
use Rattle.parser.specs.Parse.{Value, Refused}
use Rattle.parser.specs.Parse.{within, field_at, on_field}
use Rattle.number.specs.Number as number

-- a value is within its range and the next position is further on; a refusal is 1, 2 or that of the range
abbrev pub Within : List ℕ → ℕ → ℕ → ℕ → ℕ → Field → Type 0
Within bs at low high refusal (Value v p) = (low ≤ v) × (v ≤ high) × (at < p) × (p ≤ length bs)
Within bs at low high refusal (Refused r) = (1 ≤ refusal → 1 ≤ r) × (2 ≤ refusal → r ≤ refusal)

field_sound : (bs : List ℕ) (at low high refusal : ℕ) → Within bs at low high refusal (field_at bs at low high refusal)
unfolding field_at
field_sound bs at low high refusal = go (read_number bs at) (sound bs at)
  where
    P : Field → Type 0
    P = Within bs at low high refusal

    range : (v p : ℕ) → (at < p) × (p ≤ length bs) → (a : Bool) → leb low v ≡ a → (b : Bool) → leb v high ≡ b
        → P (cond (a && b) (Value v p) (Refused refusal))
    range v p s true i true j = omega (arith, leb-true low v i, leb-true v high j)
    range v p s true i false j = (λ n. n, λ n. omega arith)
    range v p s false i b j = (λ n. n, λ n. omega arith)

    go : (n : Number) → Sound bs at n → P (within low high refusal n)
    go (number.Value v p) s = range v p (s.1, s.2) (leb low v) refl (leb v high) refl
    go (number.Refused r) s = (λ n. s.0, λ n. omega arith)

pub field_value : (bs : List ℕ) (at low high refusal v p : ℕ) → field_at bs at low high refusal ≡ Value v p
    → (low ≤ v) × (v ≤ high) × (at < p) × (p ≤ length bs)
field_value bs at low high refusal v p e = subst (Within bs at low high refusal) e (field_sound bs at low high refusal)

pub field_refused : (bs : List ℕ) (at low high refusal r : ℕ) → 2 ≤ refusal → field_at bs at low high refusal ≡ Refused r
    → (1 ≤ r) × (r ≤ refusal)
field_refused bs at low high refusal r h e =
    let w : Within bs at low high refusal (Refused r) = subst (Within bs at low high refusal) e (field_sound bs at low high refusal) in
    (w.0 (omega arith), w.1 h)

-- what holds both where a field has a value and where it is refused holds of going on
pub on_ind : {A : Type 0} (P : A → Type 0) (x : Field) (stop : ℕ → A) (go : ℕ → ℕ → A)
    → ((r : ℕ) → x ≡ Refused r → P (stop r)) → ((v p : ℕ) → x ≡ Value v p → P (go v p)) → P (on_field x stop go)
on_ind P (Value v p) stop go a b = b v p refl
on_ind P (Refused r) stop go a b = a r refl

-- a number in range is a field, and the reverse
pub field_is : (bs : List ℕ) (at low high refusal v p : ℕ) → read_number bs at ≡ number.Value v p → low ≤ v → v ≤ high
    → field_at bs at low high refusal ≡ Value v p
unfolding field_at
field_is bs at low high refusal v p e a b = simp (e, le-leb low v a, le-leb v high b)

field_read : (bs : List ℕ) (at low high refusal v p : ℕ) → field_at bs at low high refusal ≡ Value v p → read_number bs at ≡ number.Value v p
unfolding field_at
field_read bs at low high refusal v p = go (read_number bs at)
  where
    go : (n : Number) → within low high refusal n ≡ Value v p → n ≡ number.Value v p
    go (number.Value w q) =
        cond_ind (λ (f : Field). f ≡ Value v p → number.Value w q ≡ number.Value v p) (leb low w && leb w high) (λ _ e. cc) (λ _ e. cc)
    go (number.Refused r) = λ e. cc

-- a number that was read, and what was done with it
pub record Taken {A : Type 0} (bs : List ℕ) (at low high : ℕ) (go : ℕ → ℕ → A) (y : A) : Type 0 where
  pub value : ℕ
  pub to : ℕ
  pub reads : read_number bs at ≡ number.Value value to
  pub least : low ≤ value
  pub most : value ≤ high
  pub is : y ≡ go value to

-- where the refusal is none, there was a number
pub taken : {A : Type 0} (refusal_of : A → ℕ) (bs : List ℕ) (at low high refusal : ℕ) (stop : ℕ → A) (go : ℕ → ℕ → A)
    → 2 ≤ refusal → ((r : ℕ) → refusal_of (stop r) ≡ r)
    → refusal_of (on_field (field_at bs at low high refusal) stop go) ≡ 0
    → Taken bs at low high go (on_field (field_at bs at low high refusal) stop go)
taken {A} refusal_of bs at low high refusal stop go two same =
    on_ind (λ (y : A). refusal_of y ≡ 0 → Taken bs at low high go y) (field_at bs at low high refusal) stop go
    (λ r x e. absurd (omega (arith, field_refused bs at low high refusal r two x, same r)))
    (λ v p x e.
    let w = field_value bs at low high refusal v p x in
    record { value = v; to = p; reads = field_read bs at low high refusal v p x; least = w.0; most = w.1; is = refl })
