-- The states of a height, one by one along their chain.
use mathlib.Core.Path.{◌≡◌, refl, sym, ap, ◌∙◌}
use mathlib.Core.Bool.{false, true≢false}
use mathlib.Core.List.Memᴰ
use mathlib.Core.List.{List, [], ◌∷◌, Memᴰ}
use mathlib.Core.Logic.{◌↔◌, ◌⊎◌, inl, inr, ⊎_elim}
use Prim.Native.Nat.{ℕ, suc, ◌+◌, ◌<◌, max}
use native.Mathlib.Decide.{ℕ_discrete, dec_lt}
use native.Mathlib.Omega.{arith}
use lib.ListN.{length, get_or, set, length-set}
use lib.Seq.{get_or-set_same, get_or-set_other}
use Rattle.theory.specs.Sheet.{in_of, height_of}
use Rattle.theory.proofs.Below.{either}
use Rattle.model.specs.declared.Model.{Model}
use Rattle.graph.specs.Plan.{system_of_model}
use Rattle.graph.specs.States.{states}
use Rattle.robust.specs.Fringe.{fringe}
use Rattle.fringe_ranks.specs.Ranks.{InFringe, jumps_of, RankedBelow, RankedUpto, StateRanked}

-- the states below height h have their ranks, those at h too but for the rest, and c is one more than the greatest of these ranks, or 0
pub record Ranking (m : Model) (sheet : List ℕ) (h : ℕ) (rest ranks : List ℕ) (c : ℕ) : Type 0 where
  pub long : length ranks ≡ states m
  pub holds : (p : ℕ) → Memᴰ p rest → (p < states m) × (height_of sheet p ≡ h)
  pub left : (p : ℕ) → InFringe m sheet p → height_of sheet p < h + 1
      → Memᴰ p rest ⊎ ((get_or ranks p 0 ≡ jumps_of m sheet p) × (jumps_of m sheet p < c))
  pub some : (c ≡ 0) ⊎ ((p : ℕ) × InFringe m sheet p × (c ≡ suc (jumps_of m sheet p)))

module _ {m : Model} {sheet : List ℕ} {h : ℕ} where
  pub ranking_start : {ranks : List ℕ} {c : ℕ} (rest : List ℕ) → ((p : ℕ) → InFringe m sheet p → p < states m)
      → ((p : ℕ) → Memᴰ p rest ↔ ((p < states m) × (height_of sheet p ≡ h))) → RankedUpto m sheet h ranks c → Ranking m sheet h rest ranks c
  ranking_start {ranks} {c} rest state are U =
      record { long = U.long; holds = λ p. (are p).0; left = λ p i l. by p i l (dec_lt (height_of sheet p) h); some = U.some }
    where
      by : (p : ℕ) → InFringe m sheet p → height_of sheet p < h + 1 → Dec (height_of sheet p < h)
          → Memᴰ p rest ⊎ ((get_or ranks p 0 ≡ jumps_of m sheet p) × (jumps_of m sheet p < c))
      by p i l (yes b) = inr (U.below p i b, U.most p i b)
      by p i l (no b) = inl ((are p).1 (state p i, omega arith))

  module _ {ranks : List ℕ} {c : ℕ} where
    pub ranking_below : {rest : List ℕ} → Ranking m sheet h rest ranks c → RankedBelow m sheet h ranks
    ranking_below R p i l =
        ⊎_elim (λ n. absurd (omega (arith, (R.holds p n).1))) (λ (e, b). e) (R.left p i (omega arith))

    pub ranking_end : Ranking m sheet h [] ranks c → RankedUpto m sheet (h + 1) ranks c
    ranking_end R =
        record { long = R.long; below = λ p i l. (done p i l).0; most = λ p i l. (done p i l).1; some = R.some }
      where
        done : (p : ℕ) → InFringe m sheet p → height_of sheet p < h + 1 → (get_or ranks p 0 ≡ jumps_of m sheet p) × (jumps_of m sheet p < c)
        done p i l = ⊎_elim (λ n. absurd (Memᴰ.not-nil n)) (λ d. d) (R.left p i l)

    pub ranking_state : {p : ℕ} {rest : List ℕ} → Ranking m sheet h (p ∷ rest) ranks c → (p < states m) × (height_of sheet p ≡ h)
    ranking_state {p} R = R.holds p (Memᴰ.head refl)

    module _ {p : ℕ} {rest : List ℕ} (R : Ranking m sheet h (p ∷ rest) ranks c) {r : ℕ} {ranks' : List ℕ} where
      -- the first of the rest is of the fringe
      set_rank : InFringe m sheet p → ranks' ≡ set ranks p (jumps_of m sheet p) → r ≡ max c (jumps_of m sheet p + 1) → Ranking m sheet h rest ranks' r
      set_rank i e d =
          record {
            long = ap length e ∙ length-set ranks p (jumps_of m sheet p) ∙ R.long;
            holds = λ q n. R.holds q (Memᴰ.tail n);
            left = λ q j l. by q j l (ℕ_discrete q p);
            some = last (dec_lt (jumps_of m sheet p) c);
          }
        where
          by : (q : ℕ) → InFringe m sheet q → height_of sheet q < h + 1 → Dec (q ≡ p)
              → Memᴰ q rest ⊎ ((get_or ranks' q 0 ≡ jumps_of m sheet q) × (jumps_of m sheet q < r))
          by q j l (yes s) =
              let b : p < length ranks = rw R.long (ranking_state R).0 in
              inr (rw (e, s) (get_or-set_same ranks p (jumps_of m sheet p) 0 b), rw s (omega arith))
          by q j l (no s) =
              ⊎_elim (λ n. ⊎_elim (λ z. absurd (s z)) inl (Memᴰ.cases_cons n))
              (λ (z, b). inr (rw (e, get_or-set_other ranks p q (jumps_of m sheet p) 0 s) z, omega arith)) (R.left q j l)

          last : Dec (jumps_of m sheet p < c) → (r ≡ 0) ⊎ ((q : ℕ) × InFringe m sheet q × (r ≡ suc (jumps_of m sheet q)))
          last (yes b) = let z : r ≡ c = omega arith in rw z R.some
          last (no b) = inr (p, i, omega arith)

      -- it is not
      keep_ranks : fringe (system_of_model m) (in_of sheet) p ≡ false → ranks' ≡ ranks → r ≡ c → Ranking m sheet h rest ranks' r
      keep_ranks o e d =
          rw (e, d) record {
            long = R.long;
            holds = λ q n. R.holds q (Memᴰ.tail n);
            left = λ q j l.
                ⊎_elim (λ n. ⊎_elim (λ z. absurd (true≢false (sym j ∙ ap (fringe (system_of_model m) (in_of sheet)) z ∙ o))) inl (Memᴰ.cases_cons n)) inr
                (R.left q j l);
            some = R.some;
          }

      pub ranking_turn : StateRanked m sheet ranks ranks' p c r → Ranking m sheet h rest ranks' r
      ranking_turn T =
          ⊎_elim (λ i. set_rank i (T.ranked ∙ rw i) (T.entries ∙ rw i)) (λ o. keep_ranks o (T.ranked ∙ rw o) (T.entries ∙ rw o))
          (either (fringe (system_of_model m) (in_of sheet) p))
