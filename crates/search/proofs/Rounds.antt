-- The rounds: the first one, the next, and what is found when no state is left.
use mathlib.Core.Path.{◌≡◌, refl, ap, ◌∙◌}
use mathlib.Core.Bool.{Bool, true, false}
use mathlib.Core.Logic.{◌⊎◌, inl, inr, ⊎_elim}
use mathlib.Core.List.{List}
use Prim.Native.Nat.{ℕ, ◌+◌, ◌-◌, ◌≤◌, ◌<◌}
use native.Mathlib.Omega.{arith}
use native.Mathlib.Nat.{le_antisymm}
use native.Mathlib.Decide.{dec_lt}
use lib.ListN.{length, get_or, set}
use lib.Dec.{ltb}
use borrow.Author.Tests.{le-ltb}
use Rattle.limits.specs.Limits.{max_states}
use Rattle.theory.specs.Below.{top}
use Rattle.theory.specs.Levels.{mark, FoundBelow, Grown}
use Rattle.theory.proofs.Below.{top_ge, top_at}
use Rattle.theory.proofs.Levels.{mark_in, mark_out, upto_first, upto_at, upto_next, upto_end}
use Rattle.search.specs.Queue.{Queued, ByLevel, TakesAll, LeadsFrom}
use Rattle.search.specs.Rounds.{Agrees, Searched}
use Rattle.search.proofs.Count.{count_same, count_none}
use Rattle.search.proofs.Queue.{takes_one, takes_kept}

-- ---- the first round

module _ (level queue : List ℕ) (zero : (p : ℕ) → get_or level p 0 ≡ 0) (limit : length level ≤ max_states) (same : length queue ≡ length level) where
  pub fits_none : Queued level queue 0
  fits_none = record {
    limit = limit;
    same = same;
    below = λ i l. absurd (omega arith);
    reached = λ i l. absurd (omega arith);
    found = λ p l h. absurd (omega (arith, zero p));
    once = λ i j l k. absurd (omega arith);
    many = count_same (length level) (λ p. ltb 0 (get_or level p 0)) (λ _. false) (λ p l. le-ltb 0 (get_or level p 0) (omega (arith, zero p)))
        ∙ count_none (length level);
  }

-- the start taken in by hand
module _ (level queue : List ℕ) (start : ℕ) (zero : (p : ℕ) → get_or level p 0 ≡ 0) (limit : length level ≤ max_states)
    (same : length queue ≡ length level) (b : start < length level) where
  pub start_taken : TakesAll 0 (λ p. p ≡ start) level (set level start 1) queue (set queue 0 start) 0 1
  start_taken = takes_one (fits_none level queue zero limit same) 0 start b (zero start)

-- the start is taken in: the first place of the queue, alone at level 1
module _ (Lead : ℕ → ℕ → Type 0) {start : ℕ} {level level' queue queue' : List ℕ} {n : ℕ} (zero : (p : ℕ) → get_or level p 0 ≡ 0)
    (A : TakesAll 0 (λ p. p ≡ start) level level' queue queue' 0 n) where
  pub start_level : get_or level' start 0 ≡ 1
  start_level = let h = A.covers start refl in ⊎_elim (λ e. absurd (omega (arith, zero start))) (λ t. t.1) (A.takes.each start)

  others : (p : ℕ) → (p ≡ start → ⊥) → get_or level' p 0 ≡ 0
  others p c = ⊎_elim (λ e. e ∙ zero p) (λ t. absurd (c t.2)) (A.takes.each p)

  pub searched_first : start < length level → Searched Lead start 1 0 n level' queue'
  searched_first b = record {
    fits = A.takes.fits;
    sorted = λ i j l k. omega (arith, A.takes.fresh i (omega arith) (omega arith), A.takes.fresh j (omega arith) k);
    some = omega arith;
    early = omega arith;
    ends = omega arith;
    low = λ i l. absurd (omega arith);
    now = A.takes.fresh;
    past = λ i e. absurd (omega arith);
    upto = λ r G. upto_first (length level') r G.inside start G.begins (λ p. get_or level' p 0) start_level (λ p l c. others p c);
  }

-- ---- a level

module _ {Lead : ℕ → ℕ → Type 0} {start x lo hi : ℕ} {level queue : List ℕ} (I : Searched Lead start x lo hi level queue) where
  -- a state at x stands in the queue from lo on
  pub place_of : (p : ℕ) → p < length level → get_or level p 0 ≡ x → (i : ℕ) × (lo ≤ i) × (i < hi) × (get_or queue i 0 ≡ p)
  place_of p b e =
      let (i, l, u) = I.fits.found p b (omega (arith, I.some)) in
      (i, above i u (dec_lt i lo), l, u)
    where
      above : (i : ℕ) → get_or queue i 0 ≡ p → Dec (i < lo) → lo ≤ i
      above i u (yes k) = let h : get_or level p 0 < x = rw u at (I.low i k) in absurd (omega arith)
      above i u (no k) = omega arith

  -- no level is above x
  at_most : (i : ℕ) → i < hi → Dec (i < lo) → get_or level (get_or queue i 0) 0 ≤ x
  at_most i k (yes h) = omega (arith, I.low i h)
  at_most i k (no h) = omega (arith, I.now i (omega arith) k)

  pub level_most : (p : ℕ) → p < length level → get_or level p 0 ≤ x
  level_most p b = by (dec_lt 0 (get_or level p 0))
    where
      by : Dec (0 < get_or level p 0) → get_or level p 0 ≤ x
      by (yes h) = let (i, l, u) = I.fits.found p b h in rw u at (at_most i l (dec_lt i lo))
      by (no h) = omega arith

  -- the search stops here, with some state at x
  pub searched_stop : lo < hi → ByLevel level queue hi
  searched_stop l = record { fits = I.fits; bounded = λ p b. omega (arith, level_most p b, I.early); sorted = I.sorted }

  -- ---- the next round

  module _ {n : ℕ} {level' queue' : List ℕ} (A : TakesAll x (LeadsFrom Lead queue lo hi) level level' queue queue' hi n) where
    module _ (r : ℕ → ℕ → Bool) (G : Agrees (length level) r start Lead) where
      comes : (q : ℕ) → LeadsFrom Lead queue lo hi q → (p : ℕ) × (p < length level) × (get_or level p 0 ≡ x) × (r p q ≡ true)
      comes q t =
          let p = get_or queue t.place 0 in
          let b = I.fits.below t.place t.before in
          let e = I.now t.place t.after t.before in
          let h = upto_at (length level) r G.inside start G.begins x (λ p. get_or level p 0) I.some (I.upto r G) p b e in
          (p, b, e, G.to p q h.1 t.is)

      grown : Grown (length level) r x (λ p. get_or level p 0) (λ p. get_or level' p 0)
      grown = record {
        each = λ q b. ⊎_elim inl (λ t. inr (t.0, t.1, comes q t.2)) (A.takes.each q);
        all = λ p q b c e t.
            let (i, l, h, u) = place_of p b e in
            A.covers q (record { place = i; after = l; before = h; is = rw u (G.from p q t) });
      }

      round_upto : FoundBelow (length level) r start (x + 1) (λ p. get_or level' p 0)
      round_upto =
          upto_next (length level) r G.inside start G.begins x (λ p. get_or level p 0) I.some (I.upto r G) (λ p. get_or level' p 0) grown

    kept : (i : ℕ) → i < hi → get_or level' (get_or queue' i 0) 0 ≡ get_or level (get_or queue i 0) 0
    kept i k = ap (λ (p : ℕ). get_or level' p 0) (A.takes.kept i k) ∙ takes_kept A.takes (get_or queue i 0) (I.fits.reached i k)

    low : (i : ℕ) → i < hi → get_or level' (get_or queue' i 0) 0 < x + 1
    low i k = omega (arith, kept i k, at_most i k (dec_lt i lo))

    sorted : (i j : ℕ) → i ≤ j → j < n → Dec (i < hi) → Dec (j < hi) → get_or level' (get_or queue' i 0) 0 ≤ get_or level' (get_or queue' j 0) 0
    sorted i j l k (yes a) (yes b) = rw (kept i a, kept j b) (I.sorted i j l b)
    sorted i j l k (yes a) (no b) = omega (arith, low i a, A.takes.fresh j (omega arith) k)
    sorted i j l k (no a) _ = omega (arith, A.takes.fresh i (omega arith) (omega arith), A.takes.fresh j (omega arith) k)

    pub searched_next : lo < hi → Searched Lead start (x + 1) hi n level' queue'
    searched_next l = record {
      fits = A.takes.fits;
      sorted = λ i j l k. sorted i j l k (dec_lt i hi) (dec_lt j hi);
      some = omega arith;
      early = omega (arith, I.early);
      ends = A.takes.more;
      low = low;
      now = A.takes.fresh;
      past = λ i e. omega (arith, kept i (omega arith), I.now i (omega arith) (omega arith));
      upto = λ r G. rw A.takes.long (round_upto r (rw A.takes.long at G));
    }

  -- ---- no state at x

  module _ (over : hi ≤ lo) where
    none : (p : ℕ) → p < length level → get_or level p 0 ≡ x → ⊥
    none p b e = let (i, k, m, u) = place_of p b e in omega arith

    below_level : (p : ℕ) → p < length level → get_or level p 0 < x
    below_level p b = by (dec_lt (get_or level p 0) x)
      where
        by : Dec (get_or level p 0 < x) → get_or level p 0 < x
        by (yes h) = h
        by (no h) = absurd (none p b (omega (arith, level_most p b)))

    pub searched_all : ByLevel level queue hi
    searched_all = record {
      fits = I.fits;
      bounded = λ p b. omega (arith, I.early, I.ends, below_level p b);
      sorted = I.sorted;
    }

    module _ (r : ℕ → ℕ → Bool) (G : Agrees (length level) r start Lead) where
      pub searched_marks : (p : ℕ) → p < length level → get_or level p 0 ≡ mark (length level) r start p
      searched_marks = upto_end (length level) r G.inside start G.begins x (λ p. get_or level p 0) I.some (I.upto r G) none

      -- each round but this one went over a level, and there are no others
      pub searched_rounds : x ≡ top (length level) (mark (length level) r start) + 1
      searched_rounds = le_antisymm (most (dec_lt 0 lo)) (least (top_at (length level) (mark (length level) r start)))
        where
          most : Dec (0 < lo) → x ≤ top (length level) (mark (length level) r start) + 1
          most (no h) = omega (arith, I.early)
          most (yes h) =
              let b = I.fits.below (lo - 1) (omega (arith, I.ends)) in
              omega (
                arith,
                I.past (lo - 1) (omega arith),
                searched_marks (get_or queue (lo - 1) 0) b,
                top_ge (length level) (mark (length level) r start) (get_or queue (lo - 1) 0) b,
              )

          least : (top (length level) (mark (length level) r start) ≡ 0)
              ⊎ ((p : ℕ) × (p < length level) × (top (length level) (mark (length level) r start) ≡ mark (length level) r start p))
              → top (length level) (mark (length level) r start) + 1 ≤ x
          least (inl z) = omega (arith, I.some)
          least (inr (p, b, e)) = omega (arith, searched_marks p b, below_level p b)

-- all distances are found
pub upto_all : {S : ℕ} {r : ℕ → ℕ → Bool} {a : ℕ} {f : ℕ → ℕ} → ((p : ℕ) → p < S → f p ≡ mark S r a p) → FoundBelow S r a S f
upto_all {S} {r} {a} {f} h = record {
  near = λ p b l k. h p b ∙ mark_in S r a p k;
  rest = λ p b l. h p b ∙ mark_out S r a p l;
  out = λ p b l. h p b ∙ mark_out S r a p l;
}
