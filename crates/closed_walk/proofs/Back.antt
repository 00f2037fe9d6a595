-- The rounds end at the first level from which a step leads back, or when no node is left.
use mathlib.Core.Path.{◌≡◌, refl, sym, ◌∙◌}
use mathlib.Core.Bool.{Bool, true}
use mathlib.Core.Logic.{inl, ⊎_elim}
use mathlib.Core.List.{List}
use Prim.Native.Nat.{ℕ, ◌+◌, ◌-◌, ◌≤◌, ◌<◌}
use native.Mathlib.Omega.{arith}
use native.Mathlib.Decide.{dec_lt}
use lib.ListN.{length, get_or}
use Rattle.theory.specs.Adjacency.{Adjacent}
use Rattle.theory.specs.Levels.{distance_to}
use Rattle.theory.proofs.Levels.{far_inside, goal_far, far_goal, mark_in, upto_at}
use Rattle.search.specs.Queue.{TakesAll, LeadsFrom}
use Rattle.search.specs.Rounds.{Agrees, Searched}
use Rattle.search.proofs.Queue.{fits_le}
use Rattle.search.proofs.Rounds.{level_most, searched_stop, searched_marks}
use Rattle.closed_walk.specs.Rounds.{back, NoneBack, Found, Outcome}

module _ {first targets : List ℕ} {q x lo hi : ℕ} {level queue : List ℕ} (I : Searched (Adjacent first targets) q x lo hi level queue)
    (N : NoneBack first targets q queue 0 lo) where
  module _ (r : ℕ → ℕ → Bool) (G : Agrees (length level) r q (Adjacent first targets)) where
    abbrev S : ℕ
    S = length level

    -- a node with a step to q that is reached stands from lo on
    back_after : (p : ℕ) → p < S → r p q ≡ true → 0 < get_or level p 0 → (j : ℕ) × (lo ≤ j) × (j < hi) × (get_or queue j 0 ≡ p)
    back_after p b t h =
        let (j, l, u) = I.fits.found p b h in
        (j, by j u (dec_lt j lo), l, u)
      where
        by : (j : ℕ) → get_or queue j 0 ≡ p → Dec (j < lo) → lo ≤ j
        by j u (yes k) = absurd (N j (omega arith) k (rw u (G.from p q t)))
        by j u (no k) = omega arith

    -- a step leads back from x
    back_is : LeadsFrom (Adjacent first targets) queue lo hi q → (back S r q + 1 ≡ x) × (back S r q < S)
    back_is B =
        let i = B.place in
        let p = get_or queue i 0 in
        let (e, h) = upto_at S r G.inside q G.begins x (λ p. get_or level p 0) I.some (I.upto r G) p (I.fits.below i B.before)
        (I.now i B.after B.before) in
        let u = goal_far S r G.inside q G.begins (λ z. r z q) p h (G.to p q h B.is) in
        (by p e h u (dec_lt (back S r q) (distance_to S r q p)), omega arith)
      where
        by : (p : ℕ) → distance_to S r q p + 1 ≡ x → distance_to S r q p < S → back S r q ≤ distance_to S r q p → Dec (back S r q < distance_to S r q p) → back S r q + 1 ≡ x
        by p e h u (no k) = omega arith
        by p e h u (yes k) =
            let (s, t, d) = far_goal S r G.inside q G.begins (λ z. r z q) (omega arith) in
            let b = far_inside S r G.inside q G.begins s (omega arith) in
            let v = (I.upto r G).near s b (omega arith) (omega arith) in
            let (j, m, n, w) = back_after s b t (omega arith) in
            let y : get_or level s 0 ≡ x = rw w at (I.now j m n) in
            absurd (omega arith)

    -- no node at x
    back_none : hi ≤ lo → S ≤ back S r q
    back_none o = by (dec_lt (back S r q) S)
      where
        by : Dec (back S r q < S) → S ≤ back S r q
        by (no h) = omega arith
        by (yes h) =
            let (s, t, d) = far_goal S r G.inside q G.begins (λ z. r z q) h in
            let k : distance_to S r q s < S = omega arith in
            let b = far_inside S r G.inside q G.begins s k in
            let v = searched_marks I o r G s b ∙ mark_in S r q s k in
            let (j, m, n, w) = back_after s b t (omega arith) in
            absurd (omega arith)

  pub levels_none : hi ≤ lo → Outcome first targets q level queue 0
  levels_none o = inl (refl, λ r G. back_none r G o)

  pub levels_found : LeadsFrom (Adjacent first targets) queue lo hi q → Found first targets q level queue hi
  levels_found B =
      let e : get_or level (get_or queue (hi - 1) 0) 0 ≡ x = I.now (hi - 1) (omega (arith, B.after, B.before)) (omega (arith, B.before)) in
      record {
        order = searched_stop I (omega (arith, B.after, B.before));
        some = omega (arith, B.before);
        most = rw e (level_most I);
        aims = λ r G. rw e (record {
          agrees = G;
          goals = λ p h. (G.to p q h, G.from p q);
          last = sym (back_is r G B).0;
          short = (back_is r G B).1;
          bound = x;
          beyond = omega arith;
          upto = I.upto r G;
        });
      }

  -- the next round
  pub none_next : {n : ℕ} {level' queue' : List ℕ} → (LeadsFrom (Adjacent first targets) queue lo hi q → ⊥)
      → TakesAll x (LeadsFrom (Adjacent first targets) queue lo hi) level level' queue queue' hi n → NoneBack first targets q queue' 0 hi
  none_next B A j a b t = by (dec_lt j lo)
    where
      u : Adjacent first targets (get_or queue j 0) q
      u = rw (A.takes.kept j b) at t

      by : Dec (j < lo) → ⊥
      by (yes k) = N j a k u
      by (no k) = B (record { place = j; after = omega arith; before = b; is = u })

-- which of the two ends it was
module _ {first targets : List ℕ} {q : ℕ} {level queue : List ℕ} {n : ℕ} (O : Outcome first targets q level queue n) where
  pub outcome_none : n ≡ 0 → (r : ℕ → ℕ → Bool) → Agrees (length level) r q (Adjacent first targets) → length level ≤ back (length level) r q
  outcome_none e = ⊎_elim (λ t. t.1) (λ F. absurd (omega (arith, F.some))) O

  pub outcome_found : (n ≡ 0 → ⊥) → Found first targets q level queue n
  outcome_found d = ⊎_elim (λ t. absurd (d t.0)) (λ F. F) O

-- its last place, and the level there
module _ {first targets : List ℕ} {q : ℕ} {level queue : List ℕ} {n : ℕ} (F : Found first targets q level queue n) where
  pub last_place : n - 1 < length queue
  last_place = omega (arith, fits_le F.order.fits, F.some, F.order.fits.same)

  pub last_below : {p : ℕ} → p ≡ get_or queue (n - 1) 0 → p < length level
  last_below e = rw e (F.order.fits.below (n - 1) (omega (arith, F.some)))

  module _ {p y : ℕ} (e : p ≡ get_or queue (n - 1) 0) (d : y ≡ get_or level p 0) where
    pub last_level : y ≡ get_or level (get_or queue (n - 1) 0) 0
    last_level = d ∙ rw e

    pub last_some : 0 < y
    last_some = omega (arith, last_level, F.order.fits.reached (n - 1) (omega (arith, F.some)))

    pub last_few : y ≤ length level
    last_few =
        omega (
          arith,
          last_level,
          F.order.bounded (get_or queue (n - 1) 0) (F.order.fits.below (n - 1) (omega (arith, F.some))),
          fits_le F.order.fits,
        )
