-- How a loop finds the marked set: it follows the steps of one state seen after another, until it has followed those of every state seen.
-- Each turn follows one state more, so it ends.
use mathlib.Core.Path.{◌≡◌, refl, sym, ◌∙◌}
use mathlib.Core.Bool.{Bool, true, false, ◌||◌, true≢false}
use mathlib.Core.Logic.{⊎_elim}
use Prim.Native.Nat.{ℕ, ◌<◌}
use lib.Dec.{eqb}
use borrow.Author.Tests.{eqb-true, eq-eqb}
use Rattle.theory.specs.Below.{count}
use Rattle.theory.specs.System.{System, Laws}
use Rattle.theory.specs.Marked.{MarkedIn, begin, onward, step, marks}
use Rattle.theory.proofs.Below.{or_cases, or_left, or_right, count_strict}
use Rattle.theory.proofs.System.{start_below}
use Rattle.theory.proofs.Marked.{step_is, is_step, step_inside, marks_only}

pub record Closing (Y : System) (seen followed : ℕ → Bool) : Type 0 where
  pub start_seen : seen Y.start ≡ true
  pub seen_marked : (p : ℕ) → p < Y.size → seen p ≡ true → MarkedIn Y p
  pub followed_seen : (p q : ℕ) → followed p ≡ true → step Y p q ≡ true → seen q ≡ true

module _ (Y : System) (L : Laws Y) where
  -- at first the start alone is seen, and none is followed
  pub closing_first : (seen followed : ℕ → Bool) → seen Y.start ≡ true → ((p : ℕ) → p < Y.size → seen p ≡ true → p ≡ Y.start)
      → ((p : ℕ) → p < Y.size → followed p ≡ false) → Closing Y seen followed
  closing_first seen followed s o n = record {
    start_seen = s;
    seen_marked = λ p b e. rw (o p b e) begin;
    followed_seen = λ p q f e. absurd (true≢false (sym f ∙ n p (step_inside Y L p q e).0));
  }

  -- a turn at a state p that is seen
  module _ (seen followed seen' followed' : ℕ → Bool) (K : Closing Y seen followed) (p : ℕ) (b : p < Y.size) (s : seen p ≡ true)
      (sees : (q : ℕ) → q < Y.size → seen' q ≡ (seen q || step Y p q))
      (follows : (q : ℕ) → q < Y.size → followed' q ≡ (followed q || eqb q p)) where
    pub closing_turn : Closing Y seen' followed'
    closing_turn = record {
      start_seen = still Y.start (start_below Y L) K.start_seen;
      seen_marked = λ q c e.
          ⊎_elim (K.seen_marked q c) (λ t. onward (K.seen_marked p b s) (step_is Y L p q t)) (or_cases (seen q) (step Y p q) (sym (sees q c) ∙ e));
      followed_seen = λ q x f e.
          let (c, d) = step_inside Y L q x e in
          ⊎_elim (λ t. still x d (K.followed_seen q x t e))
          (λ t. sees x d ∙ or_right (seen x) (step Y p x) (rw (eqb-true q p t) at e))
          (or_cases (followed q) (eqb q p) (sym (follows q c) ∙ f));
    }
      where
        still : (q : ℕ) → q < Y.size → seen q ≡ true → seen' q ≡ true
        still q c e = sees q c ∙ or_left (seen q) (step Y p q) e

    pub closing_more : followed p ≡ false → count Y.size followed < count Y.size followed'
    closing_more n =
        count_strict Y.size followed followed' (λ q c e. follows q c ∙ or_left (followed q) (eqb q p) e) p b n
        (follows p b ∙ or_right (followed p) (eqb p p) (eq-eqb p p refl))

  pub closing_end : (seen followed : ℕ → Bool) → Closing Y seen followed → ((p : ℕ) → p < Y.size → seen p ≡ true → followed p ≡ true)
      → (p : ℕ) → p < Y.size → seen p ≡ marks Y p
  closing_end seen followed K h =
      marks_only Y L seen
      (record {
        holds_start = K.start_seen;
        closed = λ p q e t.
            let u = is_step Y L p q t in
            K.followed_seen p q (h p (step_inside Y L p q u).0 e) u;
      })
      K.seen_marked
