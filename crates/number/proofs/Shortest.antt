-- Whether a form is shortest, as it is told and in the paper's form; and that bytes have no other shortest form than the one that we write.
use Prim.Native.Nat.{ℕ, ◌+◌, ◌*◌, ◌%◌, ◌^◌, ◌≤◌, ◌<◌}
use native.Mathlib.Omega.{arith}
use mathlib.Core.Path.{◌≡◌, refl, sym, ap₂, subst}
use mathlib.Core.Logic.{◌↔◌}
use mathlib.Core.List.Memᴰ
use mathlib.Core.List.{List, [], ◌∷◌, ◌++◌}
use mathlib.Core.Bool.{cond}
use lib.ListN.{length, drop}
use lib.Dec.{eqb}
use borrow.Author.Tests.{eq-eqb, ne_eqb, eqb-true, eqb-false}
use Rattle.number.specs.Number.{Number, Spells, read_number, on_number, spell}
use Rattle.number.specs.Shortest.{Spelled, Shortest, Padded, Refused, ShortestForm, PaddedForm, AreBytes, read_spelled, number_in}
use Rattle.number.proofs.Laws.{cond_ind, spells_ind, spells_bound, read_value}
use Rattle.number.proofs.Spelling.{spell_ind, spell_1, spell_spells, spell_shortest}
use Rattle.number.specs.Number as number

-- ---- the two forms

module _ {g : List ℕ} {v : ℕ} where
  -- as long as the one that we write
  pub is_shortest : Spells g v → length g ≤ length (spell v) → ShortestForm g v
  is_shortest s h = record { spells = s; least = λ k t. omega (arith, h, spell_shortest t) }

  -- longer than it
  pub is_padded : Spells g v → length (spell v) < length g → PaddedForm g v
  is_padded s h = record { spells = s; shorter = (spell v, spell_spells v (spells_bound s), h) }

  pub shortest_length : ShortestForm g v → length g ≡ length (spell v)
  shortest_length k = omega (arith, spell_shortest k.spells, k.least (spell v) (spell_spells v (spells_bound k.spells)))

  pub padded_length : PaddedForm g v → length (spell v) < length g
  padded_length k = let (h, s, l) = k.shorter in omega (arith, spell_shortest s, l)

pub spell_is_shortest : (v : ℕ) → v < 2 ^ 21 → ShortestForm (spell v) v
spell_is_shortest v h = is_shortest (spell_spells v h) (omega arith)

-- bytes have no other: where a list may hold any number, 384,1 is as short as 128,1 for 128
pub shortest_bytes : {g : List ℕ} {v : ℕ} → ShortestForm g v → AreBytes g → g ≡ spell v
shortest_bytes k bytes = only k.spells bytes (omega (arith, shortest_length k))
  where
    only : {g : List ℕ} {v : ℕ} → Spells g v → AreBytes g → length g ≤ length (spell v) → g ≡ spell v
    only =
        spells_ind (λ (g : List ℕ) (v : ℕ). AreBytes g → length g ≤ length (spell v) → g ≡ spell v)
        (λ a h _ _. sym (spell_1 a h))
        (λ a b h k bytes.
        spell_ind (λ (l : List ℕ). 2 ≤ length l → a ∷ b ∷ [] ≡ l) (a % 128 + 128 * b)
        (λ p l. absurd (omega arith))
        (λ p q l. ap₂ (λ x y. x ∷ y ∷ []) (omega (arith, bytes a (Memᴰ.head refl))) (omega arith))
        (λ q l. absurd (omega arith)))
        (λ a b c h k m bytes.
        spell_ind (λ (l : List ℕ). 3 ≤ length l → a ∷ b ∷ c ∷ [] ≡ l) (a % 128 + 128 * (b % 128) + 16384 * c)
        (λ p l. absurd (omega arith))
        (λ p q l. absurd (omega arith))
        (λ q l. ap₂ (λ x ys. x ∷ ys) (omega (arith, bytes a (Memᴰ.head refl))) (ap₂ (λ x y. x ∷ y ∷ []) (omega (arith, bytes b (Memᴰ.tail (Memᴰ.head refl)))) (omega arith))))

-- ---- what is told

module _ (bs : List ℕ) (at : ℕ) where
  -- the ways through
  module _ (v p : ℕ) (e : read_number bs at ≡ number.Value v p) where
    pub told_shortest : p ≡ at + length (spell v) → read_spelled bs at ≡ Shortest v p
    unfolding read_spelled
    told_shortest z = simp (e, eq-eqb p (at + length (spell v)) z)

    pub told_padded : (p ≡ at + length (spell v) → ⊥) → read_spelled bs at ≡ Padded v p
    unfolding read_spelled
    told_padded n = simp (e, ne_eqb p (at + length (spell v)) n)

  pub told_refused : (r : ℕ) → read_number bs at ≡ number.Refused r → read_spelled bs at ≡ Refused r
  unfolding read_spelled
  told_refused r e = simp e

  -- bytes that stand here, in a form, up to a position
  abbrev pub StandsHere : (List ℕ → ℕ → Type 0) → ℕ → ℕ → Type 0
  StandsHere R v p = (g : List ℕ) × (rest : List ℕ) × (drop at bs ≡ g ++ rest) × R g v × (p ≡ at + length g)

  -- the paper's form of what is told
  Tells : Spelled → Type 0
  Tells (Shortest v p) = StandsHere ShortestForm v p
  Tells (Padded v p) = StandsHere PaddedForm v p
  Tells (Refused r) = read_number bs at ≡ number.Refused r

  tells : Tells (read_spelled bs at)
  unfolding read_spelled Tells
  tells = by (read_number bs at) refl
    where
      by : (n : Number) → read_number bs at ≡ n
          → Tells (on_number n (λ v to. cond (eqb to (at + length (spell v))) (Shortest v to) (Padded v to)) Refused)
      by (number.Value v p) e =
          let (g, rest, d, s, q) = (read_value bs at v p).0 e in
          cond_ind Tells (eqb p (at + length (spell v)))
          (λ t. (g, rest, d, is_shortest s (omega (arith, eqb-true p (at + length (spell v)) t)), q))
          (λ t. (g, rest, d, is_padded s (omega (arith, eqb-false p (at + length (spell v)) t, spell_shortest s)), q))
      by (number.Refused r) e = e

  -- "whether the form was shortest"
  pub shortest_law : (v p : ℕ) → (read_spelled bs at ≡ Shortest v p) ↔ StandsHere ShortestForm v p
  unfolding Tells
  shortest_law v p = (
    λ e. subst Tells e tells,
    λ (g, rest, d, k, q).
        told_shortest v p ((read_value bs at v p).1 (g, rest, d, k.spells, q)) (omega (arith, shortest_length k)),
  )

  pub padded_law : (v p : ℕ) → (read_spelled bs at ≡ Padded v p) ↔ StandsHere PaddedForm v p
  unfolding Tells
  padded_law v p = (
    λ e. subst Tells e tells,
    λ (g, rest, d, k, q).
        told_padded v p ((read_value bs at v p).1 (g, rest, d, k.spells, q)) (λ z. omega (arith, padded_length k)),
  )

  -- refused as ever: by 1 or 2, and never by 15
  pub refused_law : (r : ℕ) → (read_spelled bs at ≡ Refused r) ↔ (read_number bs at ≡ number.Refused r)
  unfolding Tells
  refused_law r = (λ e. subst Tells e tells, told_refused r)

  -- in either form, the number that is read as ever
  pub number_in_lem : number_in (read_spelled bs at) ≡ read_number bs at
  unfolding read_spelled
  number_in_lem = by (read_number bs at)
    where
      by : (n : Number) → number_in (on_number n (λ v to. cond (eqb to (at + length (spell v))) (Shortest v to) (Padded v to)) Refused) ≡ n
      by (number.Value v p) =
          cond_ind (λ (s : Spelled). number_in s ≡ number.Value v p) (eqb p (at + length (spell v))) (λ _. refl) (λ _. refl)
      by (number.Refused r) = refl
