-- The reading of a sheet's numbers, by the ways through the loop.
use mathlib.Core.Path.{◌≡◌, refl, sym, ap, ◌∙◌}
use mathlib.Core.Bool.{Bool, true, false, ◌||◌}
use mathlib.Core.List.{List, [], ◌∷◌, ◌++◌, append_assoc, append-nil}
use Prim.Native.Nat.{ℕ, suc, ◌+◌, ◌-◌, ◌*◌, ◌≤◌, ◌<◌}
use native.Mathlib.Omega.{arith}
use native.Mathlib.Numerals.{add-one}
use lib.ListN.{length, take, set}
use lib.Seq.{take-suc-set, take_all}
use lib.Dec.{leb, eqb}
use borrow.Author.Tests.{leb-true}
use Rattle.theory.proofs.Below.{and_left}
use Rattle.evidence_number.specs.Evidence.{read_evidence}
use Rattle.evidence_number.specs.Numbers.{Numbers, got, refused, after}
use Rattle.sheet_numbers.specs.Numbers.{number_keeps, numbers_from, flagged}
use Rattle.number.specs.Number as number

-- ---- one number

pub number_small : (allowed : Bool) (top v : ℕ) → number_keeps allowed top v ≡ true → v ≤ top
unfolding number_keeps
number_small allowed top v e = leb-true v top (and_left (leb v top) (allowed || eqb v 0) e)

-- ---- from one number to the next

after-after : (l m : List ℕ) (c : Numbers) → after l (after m c) ≡ after (l ++ m) c
after-after l m (got k e) = ap (λ (x : List ℕ). got x e) (sym (append_assoc l m k))
after-after l m (refused r) = refl

module _ (allowed : ℕ → Bool) (top : ℕ) (bs : List ℕ) (n i at : ℕ) where
  one_more : i < n → numbers_from allowed top bs (n - i) i at ≡ numbers_from allowed top bs (suc (n - (i + 1))) i at
  one_more h = ap (λ (k : ℕ). numbers_from allowed top bs k i at) (omega arith)

  pub numbers_refused : (l : List ℕ) (r : ℕ) → i < n → read_evidence bs at ≡ number.Refused r
      → after l (numbers_from allowed top bs (n - i) i at) ≡ refused r
  unfolding numbers_from
  numbers_refused l r h e = let z : numbers_from allowed top bs (suc (n - (i + 1))) i at ≡ refused r = simp e in ap (after l) (one_more h ∙ z)

  module _ (v p : ℕ) (h : i < n) (e : read_evidence bs at ≡ number.Value v p) where
    pub numbers_broken : (l : List ℕ) → number_keeps (allowed i) top v ≡ false → after l (numbers_from allowed top bs (n - i) i at) ≡ refused 11
    unfolding numbers_from
    numbers_broken l t =
        let z : numbers_from allowed top bs (suc (n - (i + 1))) i at ≡ refused 11 = simp (e, t) in
        ap (after l) (one_more h ∙ z)

    pub numbers_more : (l : List ℕ) → i < length l → number_keeps (allowed i) top v ≡ true
        → after (take i l) (numbers_from allowed top bs (n - i) i at)
        ≡ after (take (i + 1) (set l i v)) (numbers_from allowed top bs (n - (i + 1)) (i + 1) p)
    unfolding numbers_from
    numbers_more l b t =
        let rest = numbers_from allowed top bs (n - (i + 1)) (i + 1) p in
        let z : numbers_from allowed top bs (suc (n - (i + 1))) i at ≡ after (v ∷ []) rest = simp (e, t) in
        ap (after (take i l)) (one_more h ∙ z)
        ∙ after-after (take i l) (v ∷ []) rest
        ∙ ap (λ (x : List ℕ). after x rest) (rw (add-one) (sym (take-suc-set l i v b)))

  pub numbers_done : (l : List ℕ) → n ≤ i → length l ≡ n → after (take i l) (numbers_from allowed top bs (n - i) i at) ≡ got l at
  unfolding numbers_from
  numbers_done l h e =
      ap (λ (k : ℕ). after (take i l) (numbers_from allowed top bs k i at)) (let z : n - i ≡ 0 = omega arith in z)
      ∙ ap (λ (x : List ℕ). got x at) (append-nil (take i l) ∙ take_all i l (omega arith))

-- ---- the loop's invariant: the numbers read, which stand in `sheet`, and those left to read are all

pub record Progress (allowed sheet₀ bytes : List ℕ) (at : ℕ) (sheet : List ℕ) (end i : ℕ) : Type 0 where
  pub long : length sheet ≡ length sheet₀
  pub numbers : after (take i sheet) (numbers_from (flagged allowed) (2 * length sheet₀ - 1) bytes (length sheet₀ - i) i end)
      ≡ numbers_from (flagged allowed) (2 * length sheet₀ - 1) bytes (length sheet₀) 0 at

-- the ways through the loop
pub ruleset numbers_read = (number_small, numbers_refused, numbers_broken, numbers_more, numbers_done)
