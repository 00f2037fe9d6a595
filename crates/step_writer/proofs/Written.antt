-- Labels, walks and regions, laid number by number.
use mathlib.Core.Path.{◌≡◌, refl, sym, ap, ◌∙◌}
use mathlib.Core.List.{List, [], ◌∷◌, ◌++◌, append_assoc, append-nil}
use Prim.Native.Nat.{ℕ, suc, ◌+◌, ◌≤◌, ◌<◌}
use native.Mathlib.Numerals.{add-one}
use native.Mathlib.Omega.{arith}
use lib.ListN.{length, length-append, get_or, take, drop, drop_of_length-le}
use lib.Seq.{drop-cons, take-length}
use Rattle.std.proofs.lemmas.List.{take_more, take-append-drop}
use Rattle.theory.specs.Region.{Clock}
use Rattle.theory.specs.Enumeration.{key}
use Rattle.theory.specs.Labels.{LabelledSystem, least_label, labels_along}
use Rattle.number.specs.Number.{spell, spell_all}
use Rattle.number.proofs.Spelling.{spell_append}
use Rattle.region.specs.declared.Region.{Region}
use Rattle.region.specs.Limits.{Clocks}
use Rattle.region.specs.View.{view}
use Rattle.region.proofs.Views.{three as clock_cases}
use Rattle.replay.specs.Spelling.{label_numbers, walk_numbers}
use Rattle.spelling.specs.Lays.{Lays}
use Rattle.spelling.proofs.Lays.{lays_none, lays_then, lays_as}

-- ---- a label

pub time_spelled : spell 0 ≡ spell_all (label_numbers 0)
unfolding spell_all
time_spelled = sym (append-nil (spell 0))

pub jump_spelled : (e : ℕ) → spell 1 ++ spell e ≡ spell_all (label_numbers (suc e))
unfolding spell_all
jump_spelled e = rw (append-nil (spell e)) refl

pub jump_length : (e : ℕ) → length (spell 1) + length (spell e) ≡ length (spell_all (label_numbers (suc e)))
jump_length e = sym (length-append (spell 1) (spell e)) ∙ ap length (jump_spelled e)

-- ---- numbers, i of them laid

module _ (ns : List ℕ) where
  pub numbers_none : (o : List ℕ) (at : ℕ) → Lays o o at at (spell_all (take 0 ns))
  unfolding spell_all
  numbers_none o at = lays_none o at

  module _ (i v : ℕ) (h : i < length ns) (e : v ≡ get_or ns i 0) where
    next_spelled : spell_all (take i ns) ++ spell v ≡ spell_all (take (i + 1) ns)
    unfolding spell_all
    next_spelled =
        ap (λ (l : List ℕ). spell_all (take i ns) ++ l) (sym (append-nil (spell v)))
        ∙ sym (spell_append (take i ns) (v ∷ []))
        ∙ ap spell_all (ap (λ (x : ℕ). take i ns ++ x ∷ []) e ∙ sym (take_more ns i 0 h))

    pub number_fits : length (spell_all (take i ns)) + length (spell v) ≤ length (spell_all ns)
    number_fits =
        let a : length (spell_all (take i ns) ++ spell v) ≡ length (spell_all (take (i + 1) ns)) = ap length next_spelled in
        let b : length (spell_all (take (i + 1) ns) ++ spell_all (drop (i + 1) ns)) ≡ length (spell_all ns)
        = ap length (sym (spell_append (take (i + 1) ns) (drop (i + 1) ns)) ∙ ap spell_all (take-append-drop (i + 1) ns)) in
        omega (
          arith,
          length-append (spell_all (take i ns)) (spell v),
          length-append (spell_all (take (i + 1) ns)) (spell_all (drop (i + 1) ns)),
        )

    pub number_laid : {o o₁ o₂ : List ℕ} {at end r : ℕ} → Lays o o₁ at end (spell_all (take i ns)) → Lays o₁ o₂ end r (spell v)
        → Lays o o₂ at r (spell_all (take (i + 1) ns))
    number_laid a b = lays_as (lays_then a b) next_spelled

  pub numbers_laid : {o o₁ : List ℕ} {at end : ℕ} (i : ℕ) → i ≡ length ns → Lays o o₁ at end (spell_all (take i ns)) → Lays o o₁ at end (spell_all ns)
  numbers_laid i e a = lays_as a (ap spell_all (ap (λ (k : ℕ). take k ns) e ∙ take-length ns))

-- ---- a region: "w1..wn, r1..rn"

module _ (n : ℕ) (k : Clocks n) (g : Region) (xs : List Clock) (e : view n g ≡ xs) where
  pub key_spelled : spell_all (take n (g.w1 ∷ g.w2 ∷ g.w3 ∷ [])) ++ spell_all (take n (g.r1 ∷ g.r2 ∷ g.r3 ∷ [])) ≡ spell_all (key xs)
  key_spelled =
      sym (spell_append (take n (g.w1 ∷ g.w2 ∷ g.w3 ∷ [])) (take n (g.r1 ∷ g.r2 ∷ g.r3 ∷ [])))
      ∙ ap spell_all
      (clock_cases (λ n. take n (g.w1 ∷ g.w2 ∷ g.w3 ∷ []) ++ take n (g.r1 ∷ g.r2 ∷ g.r3 ∷ []) ≡ key (view n g)) refl refl refl n k ∙ ap key e)

  pub key-length : length (spell_all (take n (g.w1 ∷ g.w2 ∷ g.w3 ∷ []))) + length (spell_all (take n (g.r1 ∷ g.r2 ∷ g.r3 ∷ [])))
      ≡ length (spell_all (key xs))
  key-length = sym (length-append (spell_all (take n (g.w1 ∷ g.w2 ∷ g.w3 ∷ []))) (spell_all (take n (g.r1 ∷ g.r2 ∷ g.r3 ∷ []))))
      ∙ ap length key_spelled

-- ---- a walk

-- The numbers laid so far, and those from p through the states that are left, are all of the walk's.
pub record Walked (P : LabelledSystem) (walk out out' : List ℕ) (q at p end i : ℕ) : Type 0 where
  pub done : List ℕ
  pub laid : Lays out out' at end (spell_all done)
  pub rest : done ++ walk_numbers (labels_along P p (drop i walk)) ≡ walk_numbers (labels_along P q walk)

module _ (P : LabelledSystem) (walk out : List ℕ) (q at : ℕ) where
  pub walked_none : Walked P walk out out q at q at 0
  unfolding spell_all
  walked_none = record { done = []; laid = lays_none out at; rest = refl }

  module _ (out₁ : List ℕ) (p end i : ℕ) (w : Walked P walk out out₁ q at p end i) where
    pub walked_all : length walk ≤ i → Lays out out₁ at end (spell_all (walk_numbers (labels_along P q walk)))
    unfolding walk_numbers labels_along
    walked_all h =
        let d : drop i walk ≡ [] = drop_of_length-le walk h in
        lays_as w.laid (ap spell_all (sym (append-nil w.done) ∙ ap (λ l. w.done ++ walk_numbers (labels_along P p l)) (sym d) ∙ w.rest))

    module _ (s : ℕ) (h : i < length walk) (e : s ≡ get_or walk i 0) where
      abbrev done' : List ℕ
      done' = w.done ++ label_numbers (least_label P p s)

      next : done' ++ walk_numbers (labels_along P s (drop (i + 1) walk)) ≡ walk_numbers (labels_along P q walk)
      unfolding walk_numbers labels_along
      next =
          let d : drop i walk ≡ s ∷ drop (i + 1) walk = rw (e, add-one) (drop-cons walk i 0 h) in
          append_assoc w.done (label_numbers (least_label P p s)) (walk_numbers (labels_along P s (drop (i + 1) walk)))
          ∙ ap (λ l. w.done ++ walk_numbers (labels_along P p l)) (sym d)
          ∙ w.rest

      pub walked_fits : end + length (spell_all (label_numbers (least_label P p s))) ≤ at + length (spell_all (walk_numbers (labels_along P q walk)))
      walked_fits =
          let more = walk_numbers (labels_along P s (drop (i + 1) walk)) in
          let label = label_numbers (least_label P p s) in
          let a : length (spell_all done' ++ spell_all more) ≡ length (spell_all (walk_numbers (labels_along P q walk)))
          = ap length (sym (spell_append done' more) ∙ ap spell_all next) in
          let b : length (spell_all done') ≡ length (spell_all w.done ++ spell_all label) = ap length (spell_append w.done label) in
          omega (arith, w.laid.end, length-append (spell_all done') (spell_all more), length-append (spell_all w.done) (spell_all label))

      pub walked_more : (out₂ : List ℕ) (end₂ : ℕ) → Lays out₁ out₂ end end₂ (spell_all (label_numbers (least_label P p s)))
          → Walked P walk out out₂ q at s end₂ (i + 1)
      walked_more out₂ end₂ l = record {
        done = done';
        laid = lays_as (lays_then w.laid l) (sym (spell_append w.done (label_numbers (least_label P p s))));
        rest = next;
      }
