-- The numbers of our sheet as they are found and laid.
use mathlib.Core.Path.{◌≡◌, refl, sym, ap, ◌∙◌}
use mathlib.Core.Bool.{Bool}
use mathlib.Core.List.{List, [], ◌∷◌, ◌++◌, append-nil}
use Prim.Native.Nat.{ℕ, zero, suc, ◌+◌, ◌*◌, ◌/◌, ◌≤◌, ◌<◌}
use native.Mathlib.Omega.{arith}
use lib.ListN.{length, get_or}
use lib.Dec.{ltb}
use Rattle.theory.specs.Below.{bit, tab}
use Rattle.theory.specs.System.{System}
use Rattle.theory.specs.Sheet.{number, our_sheet}
use Rattle.theory.specs.WithoutTouch.{with_touch}
use Rattle.theory.proofs.Below.{tab-length, is_table, tab_same}
use Rattle.theory.proofs.WithoutTouch.{touch_laws}
use Rattle.theory.proofs.Height.{height_below}
use Rattle.limits.specs.Limits.{max_states}
use Rattle.number.specs.Number.{spell, spell_all}
use Rattle.number.proofs.Spelling.{spell_append, spell_few, spell_all_few}
use Rattle.model.specs.declared.Model.{Model}
use Rattle.model.specs.Model.{Lawful}
use Rattle.graph.specs.Plan.{system_of_model}
use Rattle.graph.proofs.Plan.{size-states}
use Rattle.graph.proofs.Models.{system_laws}
use Rattle.successors.proofs.Room.{states_limit}
use Rattle.spelling.specs.Lays.{Lays, max_bytes}
use Rattle.spelling.proofs.Lays.{lays_then, lays_as}
use Rattle.sheet_writer.specs.Data.{SheetData}

-- a state's number, by what is known of it
abbrev pub found : List ℕ → List ℕ → ℕ → ℕ
found heights marks p = get_or heights p 0 / 2 * 2 + bit (ltb 0 (get_or marks p 0))

-- ---- a list of numbers, one more at its end

tab-suc : (n : ℕ) (f : ℕ → ℕ) → tab (suc n) f ≡ tab n f ++ (f n ∷ [])
unfolding tab
tab-suc zero f = refl
tab-suc (suc n) f = ap (λ (l : List ℕ). f zero ∷ l) (tab-suc n (λ i. f (suc i)))

tab_next : (n : ℕ) (f : ℕ → ℕ) → tab (n + 1) f ≡ tab n f ++ (f n ∷ [])
tab_next n f = ap (λ (k : ℕ). tab k f) (let e : n + 1 ≡ suc n = omega arith in e) ∙ tab-suc n f

spell_one : (v : ℕ) → spell_all (v ∷ []) ≡ spell v
unfolding spell_all
spell_one v = append-nil (spell v)

-- ---- what is laid

-- none of the states yet
pub laid_none : (o : List ℕ) (at : ℕ) (f : ℕ → ℕ) → Lays o o at at (spell_all (tab 0 f))
unfolding tab spell_all
laid_none o at f = record { end = omega arith; long = refl; laid = λ _. refl }

-- one state more
pub laid_next : {o o₁ o₂ : List ℕ} {at r s p v : ℕ} (f : ℕ → ℕ) → Lays o o₁ at r (spell_all (tab p f)) → Lays o₁ o₂ r s (spell v) → v ≡ f p
    → Lays o o₂ at s (spell_all (tab (p + 1) f))
laid_next {p = p} {v = v} f a b e =
    lays_as (lays_then a b)
    (ap (λ (l : List ℕ). spell_all (tab p f) ++ l) (sym (spell_one v) ∙ ap (λ (x : ℕ). spell_all (x ∷ [])) e)
    ∙ sym (spell_append (tab p f) (f p ∷ []))
    ∙ ap spell_all (sym (tab_next p f)))

-- there is room for a number after those of few states
pub room_next : {o o₁ o₂ : List ℕ} {at r p : ℕ} (f : ℕ → ℕ) (v : ℕ) → Lays o o₁ 0 at (spell 1) → Lays o₁ o₂ at r (spell_all (tab p f))
    → p ≤ max_states → r + length (spell v) ≤ max_bytes
room_next {p = p} f v a b h =
    omega (arith, a.end, spell_few 1, b.end, spell_all_few (tab p f), tab-length p f, spell_few v)

-- ---- a state's number

module _ {m : Model} (touch : Bool) {heights marks : List ℕ} (ok : Lawful m)
    (known : SheetData (with_touch touch (system_of_model m)) heights marks) where
  abbrev Y : System
  Y = with_touch touch (system_of_model m)

  pub same_long : length marks ≡ length heights
  same_long = known.marks_long ∙ sym known.heights_long

  size_few : Y.size ≤ max_states
  unfolding with_touch
  size_few = omega (arith, size-states m, states_limit ok)

  pub few_states : length heights ≤ max_states
  few_states = omega (arith, known.heights_long, size_few)

  -- a height is below the number of states
  pub height_fits : (p : ℕ) → p < length heights → get_or heights p 0 < 2 * max_states
  height_fits p b =
      let c : p < Y.size = omega (arith, known.heights_long) in
      omega (arith, known.heights p c, height_below Y (touch_laws touch (system_of_model m) (system_laws m ok)) p c, size_few)

  found-number : (p : ℕ) → p < Y.size → found heights marks p ≡ number Y p
  unfolding number
  found-number p b = rw (known.heights p b, known.marked p b) (omega arith)

  found_sheet : (p : ℕ) → p ≡ length heights → tab p (found heights marks) ≡ our_sheet Y
  unfolding our_sheet
  found_sheet p e =
      ap (λ (n : ℕ). tab n (found heights marks)) (e ∙ known.heights_long)
      ∙ tab_same Y.size (found heights marks) (number Y) found-number

  -- all states, in a slice
  pub all_stored : (sheet : List ℕ) (p : ℕ) → length sheet ≡ length heights → length heights ≤ p
      → ((k : ℕ) → k < p → get_or sheet k 0 ≡ found heights marks k) → sheet ≡ our_sheet Y
  all_stored sheet p e l h =
      is_table sheet (length heights) (found heights marks) e (λ k b. h k (omega arith)) ∙ found_sheet (length heights) refl

  -- and spelled
  pub all_laid : {o o₁ o₂ : List ℕ} {at r p : ℕ} → Lays o o₁ 0 at (spell 1) → Lays o₁ o₂ at r (spell_all (tab p (found heights marks)))
      → p ≡ length heights → Lays o o₂ 0 r (spell_all (1 ∷ our_sheet Y))
  all_laid {p = p} a b e =
      lays_as (lays_then a b)
      (ap (λ (l : List ℕ). l ++ spell_all (tab p (found heights marks))) (sym (spell_one 1))
      ∙ sym (spell_append (1 ∷ []) (tab p (found heights marks)))
      ∙ ap (λ (l : List ℕ). spell_all (1 ∷ l)) (found_sheet p e))
