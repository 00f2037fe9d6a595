-- Lists of numbers laid one after the other.
use Prim.Native.Nat.{ℕ, suc, zero, ◌+◌, ◌≤◌, ◌<◌}
use native.Mathlib.Omega.{arith}
use native.Mathlib.Numerals.{add-one}
use mathlib.Core.Path.{◌≡◌, refl, sym, ap, ◌∙◌}
use mathlib.Core.List.{List, [], ◌∷◌, ◌++◌, append-nil, append_assoc}
use mathlib.Core.Bool.{Bool, true, false}
use lib.ListN.{length, length-append, get_or, take}
use lib.Seq.{take-suc, take-length}
use lib.Dec.{eqb}
use borrow.Author.Tests.{eqb-true, eqb-false, eq-eqb, ne_eqb}
use Rattle.number.specs.Number.{spell, spell_all}
use Rattle.number.proofs.Spelling.{spell_append}
use Rattle.spelling.specs.Lays.{Lays, max_bytes}
use Rattle.canonical.proofs.Shortest.{plan_most}
use Rattle.spelling.proofs.Lays.{lays_none, lays_then, lays_as}
use Rattle.parser.specs.Parse.{Reading}
use Rattle.model.specs.Each.{gather}
use Rattle.model.specs.Model.{Lawful, limit_at}
use Rattle.stay_fields.specs.Resolve.{default_at}
use Rattle.canonical.specs.Canonical.{numbers_of, plan_numbers, shortest_plan, header_numbers, stay_numbers, location_numbers, edge_numbers}

pub spell_one : (v : ℕ) → spell v ≡ spell_all (v ∷ [])
unfolding spell_all
spell_one v = sym (append-nil (spell v))

-- one list after another
pub laid_then : {o o₁ o₂ : List ℕ} {at r s : ℕ} (vs ws : List ℕ) → Lays o o₁ at r (spell_all vs) → Lays o₁ o₂ r s (spell_all ws)
    → Lays o o₂ at s (spell_all (vs ++ ws))
laid_then vs ws a b = lays_as (lays_then a b) (sym (spell_append vs ws))

pub room_then : {o o₁ : List ℕ} {at r : ℕ} (vs ws : List ℕ) → at + length (spell_all (vs ++ ws)) ≤ max_bytes → Lays o o₁ at r (spell_all vs)
    → r + length (spell_all ws) ≤ max_bytes
room_then vs ws h a =
    omega (arith, a.end, ap length (spell_append vs ws), length-append (spell_all vs) (spell_all ws))

pub room_first : (at : ℕ) (vs ws : List ℕ) → at + length (spell_all (vs ++ ws)) ≤ max_bytes → at + length (spell_all vs) ≤ max_bytes
room_first at vs ws h = omega (arith, ap length (spell_append vs ws), length-append (spell_all vs) (spell_all ws))

-- ---- rounds, after what comes first

module _ (hs : List ℕ) (f : ℕ → List ℕ) where
  pub laid_first : {o o₁ : List ℕ} {at r : ℕ} → Lays o o₁ at r (spell_all hs) → Lays o o₁ at r (spell_all (hs ++ gather 0 f))
  unfolding gather
  laid_first a = lays_as a (ap spell_all (sym (append-nil hs)))

  pub laid_next : {o o₁ o₂ : List ℕ} {at r s : ℕ} (x : ℕ) → Lays o o₁ at r (spell_all (hs ++ gather x f)) → Lays o₁ o₂ r s (spell_all (f x))
      → Lays o o₂ at s (spell_all (hs ++ gather (x + 1) f))
  unfolding gather
  laid_next x a b = rw add-one (lays_as (laid_then (hs ++ gather x f) (f x) a b) (ap spell_all (append_assoc hs (gather x f) (f x))))

  part : (n x : ℕ) → x < n → length (spell_all (hs ++ gather x f)) + length (spell_all (f x)) ≤ length (spell_all (hs ++ gather n f))
  unfolding gather
  part zero x h = absurd (omega arith)
  part (suc n) x h = go (eqb x n) refl (part n x)
    where
      whole : length (spell_all (hs ++ (gather n f ++ f n))) ≡ length (spell_all (hs ++ gather n f)) + length (spell_all (f n))
      whole =
          ap (λ (l : List ℕ). length (spell_all l)) (sym (append_assoc hs (gather n f) (f n))) ∙ ap length (spell_append (hs ++ gather n f) (f n))
          ∙ length-append (spell_all (hs ++ gather n f)) (spell_all (f n))

      go : (t : Bool) → eqb x n ≡ t → (x < n → length (spell_all (hs ++ gather x f)) + length (spell_all (f x)) ≤ length (spell_all (hs ++ gather n f)))
          → length (spell_all (hs ++ gather x f)) + length (spell_all (f x)) ≤ length (spell_all (hs ++ (gather n f ++ f n)))
      go true q ih = rw (eqb-true x n q, whole) (omega arith)
      go false q ih = let d = eqb-false x n q in omega (arith, whole, ih (omega arith))

  -- there is room for one more
  pub room_next : {o o₁ : List ℕ} {at r : ℕ} (n x : ℕ) → at + length (spell_all (hs ++ gather n f)) ≤ max_bytes
      → Lays o o₁ at r (spell_all (hs ++ gather x f)) → x < n → r + length (spell_all (f x)) ≤ max_bytes
  room_next n x h a l = omega (arith, a.end, part n x l)

pub laid_none : (f : ℕ → List ℕ) (o : List ℕ) (at : ℕ) → Lays o o at at (spell_all (gather 0 f))
unfolding gather spell_all
laid_none f o at = lays_none o at

-- ---- numbers of a list

abbrev pub single : List ℕ → ℕ → List ℕ
single vs j = get_or vs j 0 ∷ []

singles : (vs : List ℕ) (k : ℕ) → k ≤ length vs → gather k (single vs) ≡ take k vs
unfolding gather
singles vs zero h = refl
singles vs (suc k) h =
    ap (λ (l : List ℕ). l ++ single vs k) (singles vs k (omega arith)) ∙ sym (take-suc vs k 0 (omega arith))

pub all_singles : (vs : List ℕ) → gather (length vs) (single vs) ≡ vs
all_singles vs = singles vs (length vs) (omega arith) ∙ take-length vs

-- ---- a plan is short

pub plan_room : (r : Reading) → Lawful r.model
    → 0 + length (spell_all (header_numbers r ++ (gather r.model.locations (location_numbers (stay_numbers r) r) ++ gather r.model.edges (edge_numbers r))))
    ≤ max_bytes
unfolding shortest_plan plan_numbers numbers_of
plan_room r ok = omega (arith, plan_most r ok)

pub spelled_same : {o o₁ : List ℕ} {at r : ℕ} {vs ws : List ℕ} → Lays o o₁ at r (spell_all vs) → vs ≡ ws → Lays o o₁ at r (spell_all ws)
spelled_same a e = lays_as a (ap spell_all e)

pub room_same : (at : ℕ) (vs ws : List ℕ) → at + length (spell_all ws) ≤ max_bytes → vs ≡ ws → at + length (spell_all vs) ≤ max_bytes
room_same at vs ws h e = omega (arith, ap (λ (l : List ℕ). length (spell_all l)) e)

-- ---- a stay field

pub stay_blank : (r : Reading) (l x b : ℕ) → b ≡ default_at r.mark r.model l x → limit_at r.model l x ≡ b → 0 ∷ [] ≡ stay_numbers r l x
stay_blank r l x b d e = simp (eq-eqb (limit_at r.model l x) _ (e ∙ d))

pub stay_written : (r : Reading) (l x b : ℕ) → b ≡ default_at r.mark r.model l x → (limit_at r.model l x ≡ b → ⊥)
    → (limit_at r.model l x + 1) ∷ [] ≡ stay_numbers r l x
stay_written r l x b d ne = simp (ne_eqb (limit_at r.model l x) _ (λ e. ne (e ∙ sym d)))
