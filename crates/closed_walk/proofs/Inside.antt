-- A relation cut down to the nodes below a bound, so that it agrees with the lists that hold it: walks from such nodes say the same in both.
use mathlib.Core.Path.{◌≡◌, refl, sym, ap, ◌∙◌}
use mathlib.Core.Bool.{Bool, true, ◌&&◌}
use mathlib.Core.List.{List, ◌∷◌}
use Prim.Native.Nat.{ℕ, zero, suc, ◌<◌}
use lib.Dec.{eqb, ltb}
use native.Mathlib.Numerals.{add-one}
use borrow.Author.Tests.{ltb-true, lt-ltb}
use Rattle.theory.specs.Below.{least}
use Rattle.theory.specs.Walk.{Inside, exact, dist⁺, greedy}
use Rattle.theory.specs.Adjacency.{Adjacent, Holds}
use Rattle.theory.proofs.Below.{and_left, and_right, least-and}
use Rattle.theory.proofs.Guide.{any_same, least_same}
use Rattle.theory.proofs.Walk.{dist⁺-exact}
use Rattle.theory.proofs.Levels.{far_inside}
use Rattle.search.specs.Rounds.{Agrees}
use Rattle.theory.proofs.Rows.{holds_rows, rows_below}
use Rattle.closed_walk.specs.Closes.{Closes}

unfoldable pub cut : ℕ → (ℕ → ℕ → Bool) → ℕ → ℕ → Bool
cut S r p s = ltb p S && r p s

module _ {first targets : List ℕ} {S : ℕ} {r : ℕ → ℕ → Bool} (H : Holds first targets S r) {q : ℕ} (b : q < S) where
  inside : Inside S (cut S r)
  unfolding cut
  inside p s e =
      let l = ltb-true p S (and_left (ltb p S) (r p s) e) in
      let A = (H.edges p s l).1 (and_right (ltb p S) (r p s) e) in
      (l, rw A.is at (rows_below (holds_rows H) p A.place l (rw (add-one p) A.before)))

  same : (p s : ℕ) → p < S → r p s ≡ cut S r p s
  unfolding cut
  same p s l = rw (lt-ltb p S l)

  pub cut_agrees : Agrees S (cut S r) q (Adjacent first targets)
  cut_agrees = record {
    inside = inside;
    begins = b;
    to = λ p s l A.
        let c = far_inside S (cut S r) inside q b p l in
        sym (same p s c) ∙ (H.edges p s c).0 A;
    from = λ p s e. let c = (inside p s e).0 in (H.edges p s c).1 (same p s c ∙ e);
  }

  -- ---- walks say the same

  module _ (goal : ℕ → Bool) where
    exact_same : (k p : ℕ) → p < S → exact S r goal k p ≡ exact S (cut S r) goal k p
    unfolding exact
    exact_same zero p b = refl
    exact_same (suc k) p b =
        any_same S (λ s. r p s && exact S r goal k s) (λ s. cut S r p s && exact S (cut S r) goal k s) (λ s c. rw (same p s b, exact_same k s c))

    dist_same : (p : ℕ) → p < S → dist⁺ S r goal p ≡ dist⁺ S (cut S r) goal p
    unfolding dist⁺
    dist_same p b = ap suc (least_same S (λ k. exact S r goal (suc k) p) (λ k. exact S (cut S r) goal (suc k) p) (λ k _. exact_same (suc k) p b))

    greedy_same : (k p : ℕ) → p < S → exact S (cut S r) goal k p ≡ true → greedy S r goal k p ≡ greedy S (cut S r) goal k p
    unfolding greedy exact
    greedy_same zero p b e = refl
    greedy_same (suc k) p b e =
        let s = least S (λ s. cut S r p s && exact S (cut S r) goal k s) in
        let (c, _, y) = least-and S (cut S r p) (exact S (cut S r) goal k) e in
        let d : least S (λ s. r p s && exact S r goal k s) ≡ s =
        least_same S (λ s. r p s && exact S r goal k s) (λ s. cut S r p s && exact S (cut S r) goal k s) (λ s c. rw (same p s b, exact_same k s c)) in
        rw d (ap (λ (l : List ℕ). s ∷ l) (greedy_same k s c y))

  pub closes_cut : {steps : ℕ} {path : List ℕ} → Closes S (cut S r) q steps path → Closes S r q steps path
  closes_cut {steps} C = record {
    fewest = λ l. C.fewest (rw few at l) ∙ sym few;
    least = λ l.
        let h = rw few at l in
        C.least h ∙ sym (greedy_same (λ x. eqb x q) steps q b
        (rw (C.fewest h) (dist⁺-exact S (cut S r) (λ x. eqb x q) inside q h)));
    none = λ l. C.none (rw few at l);
  }
    where
      few : dist⁺ S r (λ x. eqb x q) q ≡ dist⁺ S (cut S r) (λ x. eqb x q) q
      few = dist_same (λ x. eqb x q) q b
