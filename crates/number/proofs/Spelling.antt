-- The shortest form of a number: it spells the number, no other form is shorter, and it reads back.
use Prim.Native.Nat.{ℕ, zero, suc, ◌+◌, ◌*◌, ◌/◌, ◌%◌, ◌^◌, ◌<◌, ◌≤◌}
use native.Mathlib.Omega.{arith}
use mathlib.Core.Path.{◌≡◌, refl, sym, ap, subst, ◌∙◌}
use mathlib.Core.List.{List, [], ◌∷◌, ◌++◌, append_assoc}
use lib.ListN.{length, get_or, replicate, length-append}
use lib.Seq.{drop-append_seam}
use lib.Dec.{ltb}
use borrow.Author.Tests.{lt-ltb, le-ltb, ltb-true, ltb-false}
use Rattle.number.specs.Number.{Value, last, more, Spells, read_number, spell, spell_all}
use Rattle.number.proofs.Laws.{cond_ind, spells_ind, read_value}

pub spell_1 : (v : ℕ) → v < 128 → spell v ≡ v ∷ []
unfolding spell
spell_1 v h = simp (lt-ltb v 128 h)

pub spell_2 : (v : ℕ) → 128 ≤ v → v < 16384 → spell v ≡ (v % 128 + 128) ∷ (v / 128) ∷ []
unfolding spell
spell_2 v h k = simp (le-ltb v 128 h, lt-ltb v 16384 k)

pub spell_3 : (v : ℕ) → 16384 ≤ v → spell v ≡ (v % 128 + 128) ∷ (v / 128 % 128 + 128) ∷ (v / 16384) ∷ []
unfolding spell
spell_3 v h = simp (le-ltb v 128 (omega arith), le-ltb v 16384 h)

-- what holds of each of the three shapes holds of the shortest form
pub spell_ind : (P : List ℕ → Type 0) (v : ℕ)
    → (v < 128 → P (v ∷ []))
    → (128 ≤ v → v < 16384 → P ((v % 128 + 128) ∷ (v / 128) ∷ []))
    → (16384 ≤ v → P ((v % 128 + 128) ∷ (v / 128 % 128 + 128) ∷ (v / 16384) ∷ []))
    → P (spell v)
unfolding spell
spell_ind P v one two three =
    cond_ind P (ltb v 128) (λ p. one (ltb-true _ _ p))
    (λ p. cond_ind P (ltb v 16384) (λ q. two (ltb-false _ _ p) (ltb-true _ _ q)) (λ q. three (ltb-false _ _ q)))

pub spell_spells : (v : ℕ) → v < 2 ^ 21 → Spells (spell v) v
spell_spells v h =
    spell_ind (λ (g : List ℕ). Spells g v) v
    (λ p. last p)
    (λ p q. subst (Spells ((v % 128 + 128) ∷ (v / 128) ∷ [])) (omega arith) (more (omega arith) (last (omega arith))))
    (λ q. subst (Spells ((v % 128 + 128) ∷ (v / 128 % 128 + 128) ∷ (v / 16384) ∷ [])) (omega arith)
    (more (omega arith) (more (omega arith) (last (omega arith)))))

pub spell_shortest : {g : List ℕ} {v : ℕ} → Spells g v → length (spell v) ≤ length g
spell_shortest =
    spells_ind (λ (g : List ℕ) (v : ℕ). length (spell v) ≤ length g)
    (λ a h. rw (spell_1 a h) (omega arith))
    (λ a b h k. spell_ind (λ (l : List ℕ). length l ≤ 2) _ (λ p. omega arith) (λ p q. omega arith) (λ q. absurd (omega arith)))
    (λ a b c h k m. spell_ind (λ (l : List ℕ). length l ≤ 3) _ (λ p. omega arith) (λ p q. omega arith) (λ q. omega arith))

pub spell_few : (v : ℕ) → length (spell v) ≤ 3
spell_few v = spell_ind (λ (l : List ℕ). length l ≤ 3) v (λ _. omega arith) (λ _ _. omega arith) (λ _. omega arith)

pub spell_all_few : (vs : List ℕ) → length (spell_all vs) ≤ 3 * length vs
unfolding spell_all
spell_all_few [] = omega arith
spell_all_few (v ∷ vs) = omega (arith, length-append (spell v) (spell_all vs), spell_few v, spell_all_few vs)

-- a smaller number has no longer form
pub spell_grows : (v w : ℕ) → v ≤ w → length (spell v) ≤ length (spell w)
spell_grows v w h =
    spell_ind (λ (l : List ℕ). length (spell v) ≤ length l) w
    (λ p. rw (spell_1 v (omega arith)) (omega arith))
    (λ p q. spell_ind (λ (l : List ℕ). length l ≤ 2) v (λ _. omega arith) (λ _ _. omega arith) (λ k. absurd (omega arith)))
    (λ q. spell_few v)

pub spell_some : (v : ℕ) → 1 ≤ length (spell v)
spell_some v = spell_ind (λ (l : List ℕ). 1 ≤ length l) v (λ _. omega arith) (λ _ _. omega arith) (λ _. omega arith)

-- several numbers, none above `top`, and the same number several times
pub spell_all_most : (top : ℕ) (vs : List ℕ) → ((i : ℕ) → i < length vs → get_or vs i 0 ≤ top) → length (spell_all vs) ≤ length vs * length (spell top)
unfolding spell_all
spell_all_most top [] h = omega arith
spell_all_most top (v ∷ vs) h =
    omega (
      arith,
      length-append (spell v) (spell_all vs),
      spell_grows v top (h 0 (omega arith)),
      spell_all_most top vs (λ i b. h (suc i) (omega arith)),
    )

pub spell_all_least : (vs : List ℕ) → length vs ≤ length (spell_all vs)
unfolding spell_all
spell_all_least [] = omega arith
spell_all_least (v ∷ vs) = omega (arith, length-append (spell v) (spell_all vs), spell_some v, spell_all_least vs)

pub spell_all_alike : (k v : ℕ) → length (spell_all (replicate k v)) ≡ k * length (spell v)
unfolding spell_all
spell_all_alike zero v = omega arith
spell_all_alike (suc k) v = omega (arith, length-append (spell v) (spell_all (replicate k v)), spell_all_alike k v)

-- one after the other
pub spell_append : (vs ws : List ℕ) → spell_all (vs ++ ws) ≡ spell_all vs ++ spell_all ws
unfolding spell_all
spell_append [] ws = refl
spell_append (v ∷ vs) ws = ap (λ (l : List ℕ). spell v ++ l) (spell_append vs ws) ∙ sym (append_assoc (spell v) (spell_all vs) (spell_all ws))

-- a shortest form reads back, wherever it stands
pub reads_back : (pre rest : List ℕ) (v : ℕ) → v < 2 ^ 21
    → read_number (pre ++ (spell v ++ rest)) (length pre) ≡ Value v (length pre + length (spell v))
reads_back pre rest v h =
    (read_value (pre ++ (spell v ++ rest)) (length pre) v _).1 (spell v, rest, drop-append_seam pre (spell v ++ rest), spell_spells v h, refl)

-- the first of several reads back, and the rest follow it
pub reads_first : (pre vs rest : List ℕ) (v : ℕ) → v < 2 ^ 21
    → read_number (pre ++ (spell_all (v ∷ vs) ++ rest)) (length pre) ≡ Value v (length (pre ++ spell v))
unfolding spell_all
reads_first pre vs rest v h =
    rw (append_assoc (spell v) (spell_all vs) rest, length-append pre (spell v)) (reads_back pre (spell_all vs ++ rest) v h)

pub rest_follows : (pre vs rest : List ℕ) (v : ℕ) → pre ++ (spell_all (v ∷ vs) ++ rest) ≡ (pre ++ spell v) ++ (spell_all vs ++ rest)
unfolding spell_all
rest_follows pre vs rest v = simp append_assoc
