-- The walk along the flags: each state is the least one with the flag at the next level.
use mathlib.Core.Path.{◌≡◌, refl, sym, ◌∙◌}
use mathlib.Core.Bool.{Bool, true, false, ◌&&◌}
use mathlib.Core.Logic.{⊎_elim}
use mathlib.Core.List.{List}
use Prim.Native.Nat.{ℕ, ◌+◌, ◌≤◌, ◌<◌}
use native.Mathlib.Omega.{arith}
use lib.ListN.{length, get_or, set, take}
use lib.Dec.{eqb}
use borrow.Author.Tests.{eqb-true, eq-eqb}
use Rattle.limits.specs.Limits.{level_flag}
use Rattle.theory.specs.Walk.{greedy}
use Rattle.theory.specs.Levels.{distance_to}
use Rattle.theory.specs.Guide.{next}
use Rattle.theory.proofs.Below.{and_intro, and_left, and_right, false_unless_true, least_is, least_none}
use Rattle.theory.proofs.Guide.{along_first, along_step, along_last}
use Rattle.search.specs.Least.{LeastOf, At}
use Rattle.search.specs.Rounds.{Agrees}
use Rattle.search.specs.Flags.{Aims, FlagsOf, Steered, Follows}

-- the least state with y that a state leads to
module _ {S start : ℕ} {r : ℕ → ℕ → Bool} {Lead : ℕ → ℕ → Type 0} (G : Agrees S r start Lead) (level : List ℕ) (y p : ℕ)
    (near : distance_to S r start p < S) where
  abbrev test : ℕ → Bool
  test q = eqb (get_or level q 0) y && r p q

  test_in : (q : ℕ) → At level y (Lead p) q → test q ≡ true
  test_in q t = and_intro (eqb (get_or level q 0) y) (r p q) (eq-eqb (get_or level q 0) y t.has) (G.to p q near t.is)

  test_out : (q : ℕ) → test q ≡ true → At level y (Lead p) q
  test_out q t = record {
    has = eqb-true (get_or level q 0) y (and_left (eqb (get_or level q 0) y) (r p q) t);
    is = G.from p q (and_right (eqb (get_or level q 0) y) (r p q) t);
  }

  pub least_next : {q : ℕ} → LeastOf (At level y (Lead p)) S q → q ≡ next S r y (λ s. get_or level s 0) p
  unfolding next
  least_next {q} H =
      ⊎_elim (λ e. e ∙ sym (least_none S test (λ j b. not j (omega arith))))
      (λ t. sym (least_is S test q (G.inside p q (G.to p q near t.is)).1 (test_in q t) not)) H.some
    where
      not : (j : ℕ) → j < q → test j ≡ false
      not j b = false_unless_true (test j) (λ t. omega (arith, H.least j (test_out j t)))

-- ---- step after step

module _ {Lead : ℕ → ℕ → Type 0} {start K : ℕ} {level path : List ℕ} (short : K < length level) where
  pub follows_first : Follows Lead start K level path 0 start
  follows_first = record {
    along = λ r goal T. along_first (length level) r T.agrees.inside goal start T.agrees.begins K path T.few short;
  }

  pub follows_next : {i p q : ℕ} → Follows Lead start K level path i p → LeastOf (At level (i + 2 + level_flag) (Lead p)) (length level) q
      → i < K → i < length path → Follows Lead start K level (set path i q) (i + 1) q
  follows_next {i} {p} {q} F H l b = record {
    along = λ r goal T.
        let A = F.along r goal T in
        let y : i + 2 + level_flag ≡ i + 1 + 1 + level_flag = omega arith in
        along_step (length level) r T.agrees.inside goal start T.agrees.begins (omega (arith, T.few)) level_flag (λ p. get_or level p 0)
        T.flagged K i p q path (set path i q) T.few A l b
        (least_next T.agrees level (i + 1 + 1 + level_flag) p (omega (arith, A.level)) (rw y at H)) refl;
  }

  pub follows_last : {i p : ℕ} → Follows Lead start K level path i p → K ≤ i
      → (r : ℕ → ℕ → Bool) (goal : ℕ → Bool) → Steered Lead start K level r goal → take K path ≡ greedy (length level) r goal K start
  follows_last {i} {p} F l r goal T =
      along_last (length level) r T.agrees.inside goal start T.agrees.begins K i p path (F.along r goal T) l

-- the flags that a pass has put steer the walk
pub steered_of : {Lead : ℕ → ℕ → Type 0} {Goal : ℕ → Type 0} {start K x : ℕ} {level level' : List ℕ} → FlagsOf Lead Goal start x level level'
    → x ≡ K + 1 → (r : ℕ → ℕ → Bool) (goal : ℕ → Bool) → Aims Lead Goal start x level r goal → Steered Lead start K level' r goal
steered_of F e r goal A = record {
  agrees = rw F.raised.long A.agrees;
  few = rw F.raised.long (omega (arith, A.last));
  flagged = rw F.raised.long (F.flagged r goal A);
}
