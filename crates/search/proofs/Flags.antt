-- The pass that flags the states on a shortest walk, from the queue's last place down: those of the next level have their flags. And the flags off again.
use mathlib.Core.Path.{◌≡◌, refl, sym, ap, ◌∙◌}
use mathlib.Core.Bool.{Bool, true, false, true≢false}
use mathlib.Core.Logic.{◌⊎◌, inl, inr, ⊎_elim}
use mathlib.Core.List.{List}
use Prim.Native.Nat.{ℕ, ◌+◌, ◌%◌, ◌≤◌, ◌<◌}
use native.Mathlib.Omega.{arith}
use native.Mathlib.Decide.{dec_lt, ℕ_discrete}
use lib.ListN.{length, get_or, set, length-set}
use lib.Seq.{get_or-set_same, get_or-set_other}
use Rattle.limits.specs.Limits.{level_flag}
use Rattle.theory.specs.Walk.{dist}
use Rattle.theory.specs.Levels.{distance_to}
use Rattle.theory.specs.Guide.{good}
use Rattle.theory.proofs.Below.{either}
use Rattle.theory.proofs.Guide.{good-le, good_last, good_next, good_back}
use Rattle.search.specs.Queue.{ByLevel}
use Rattle.std.specs.Prelude.{Option, None, Some, is_some, unwrap_or}
use Rattle.search.specs.Least.{LeastOf, LeastFound, At}
use Rattle.search.specs.Flags.{Ahead, at_last, before_last, Tried, fails, passes, Aims, Raised, FlagsOf}
use Rattle.search.proofs.Queue.{fits_le}

-- the states at the places from i on have their flags
pub record Flagging (Lead : ℕ → ℕ → Type 0) (Goal : ℕ → Type 0) (start x : ℕ) (level₀ queue : List ℕ) (n i : ℕ) (level : List ℕ) : Type 0 where
  pub raised : Raised level₀ level
  pub before : i ≤ n
  pub plain : (j : ℕ) → j < i → get_or level (get_or queue j 0) 0 ≡ get_or level₀ (get_or queue j 0) 0
  pub done : (r : ℕ → ℕ → Bool) (goal : ℕ → Bool) → Aims Lead Goal start x level₀ r goal
      → (j : ℕ) → i ≤ j → j < n → good (length level₀) r goal start (get_or queue j 0) ≡ true
      → get_or level (get_or queue j 0) 0 ≡ get_or level₀ (get_or queue j 0) 0 + level_flag
  pub none : (r : ℕ → ℕ → Bool) (goal : ℕ → Bool) → Aims Lead Goal start x level₀ r goal
      → (p : ℕ) → p < length level₀ → good (length level₀) r goal start p ≡ false → get_or level p 0 ≡ get_or level₀ p 0

-- a level leaves room for the flag
pub level_small : {level queue : List ℕ} {n : ℕ} → ByLevel level queue n → (p : ℕ) → p < length level → get_or level p 0 < level_flag
level_small O p b = omega (arith, O.bounded p b, fits_le O.fits, O.fits.limit)

module _ {Lead : ℕ → ℕ → Type 0} {Goal : ℕ → Type 0} {start x : ℕ} {level₀ queue : List ℕ} {n : ℕ} (O : ByLevel level₀ queue n) where
  -- ---- what the levels say of a relation

  module _ (r : ℕ → ℕ → Bool) (goal : ℕ → Bool) (A : Aims Lead Goal start x level₀ r goal) where
    abbrev S : ℕ
    S = length level₀

    at : (s : ℕ) → s < S → distance_to S r start s ≤ dist S r goal start → get_or level₀ s 0 ≡ distance_to S r start s + 1
    at s b l = A.upto.near s b (omega (arith, A.last, A.beyond)) (omega (arith, A.short))

    of : (s : ℕ) → s < S → 0 < get_or level₀ s 0 → (get_or level₀ s 0 ≡ distance_to S r start s + 1) × (distance_to S r start s < S)
    of s b h = by (dec_lt (distance_to S r start s) A.bound) (dec_lt (distance_to S r start s) S)
      where
        by : Dec (distance_to S r start s < A.bound) → Dec (distance_to S r start s < S) → (get_or level₀ s 0 ≡ distance_to S r start s + 1) × (distance_to S r start s < S)
        by (yes l) (yes k) = (A.upto.near s b l k, k)
        by (no l) _ = absurd (omega (arith, A.upto.rest s b (omega arith)))
        by (yes l) (no k) = absurd (omega (arith, A.upto.out s b (omega arith)))

    -- a state on a shortest walk has a place
    place : (s : ℕ) → s < S → good S r goal start s ≡ true → (j : ℕ) × (j < n) × (get_or queue j 0 ≡ s)
    place s b g = let e = at s b (good-le S r goal start s g) in O.fits.found s b (omega arith)

    module _ {i : ℕ} {level : List ℕ} (F : Flagging Lead Goal start x level₀ queue n i level) where
      value : (s : ℕ) → s < S → (get_or level s 0 ≡ get_or level₀ s 0) ⊎ ((get_or level s 0 ≡ get_or level₀ s 0 + level_flag) × (good S r goal start s ≡ true))
      value s b = ⊎_elim (λ g. let (j, l, u) = place s b g in on j l u g (dec_lt j i)) (λ g. inl (F.none r goal A s b g)) (either (good S r goal start s))
        where
          on : (j : ℕ) → j < n → get_or queue j 0 ≡ s → good S r goal start s ≡ true → Dec (j < i)
              → (get_or level s 0 ≡ get_or level₀ s 0) ⊎ ((get_or level s 0 ≡ get_or level₀ s 0 + level_flag) × (good S r goal start s ≡ true))
          on j l u g (yes k) = inl (rw u at (F.plain j k))
          on j l u g (no k) = inr (rw u at (F.done r goal A j (omega arith) l (rw u g)), g)

      -- the state at the place before i
      module _ (k : ℕ) (e : i ≡ k + 1) where
        here : k < n
        here = omega (arith, F.before)

        below : get_or queue k 0 < S
        below = O.fits.below k here

        level_here : get_or level (get_or queue k 0) 0 ≡ get_or level₀ (get_or queue k 0) 0
        level_here = F.plain k (omega arith)

        level_is : (get_or level₀ (get_or queue k 0) 0 ≡ distance_to S r start (get_or queue k 0) + 1) × (distance_to S r start (get_or queue k 0) < S)
        level_is = of (get_or queue k 0) below (O.fits.reached k here)

        tells : Ahead Lead Goal x level (get_or queue k 0) → good S r goal start (get_or queue k 0) ≡ true
        tells (at_last h g) =
            good_last S r goal start (get_or queue k 0) (omega (arith, level_here, level_is.0, A.last))
            ∙ (A.goals (get_or queue k 0) level_is.1).0 g
        tells (before_last h s t v) =
            let u = A.agrees.to (get_or queue k 0) s level_is.1 t in
            let b = (A.agrees.inside (get_or queue k 0) s u).1 in
            ⊎_elim (λ w. absurd (omega (arith, level_small O s b)))
            (λ (w, g).
            let z : get_or level₀ s 0 ≡ distance_to S r start (get_or queue k 0) + 1 + 1 = omega (arith, level_here, level_is.0) in
            good_back S r A.agrees.inside goal start A.agrees.begins (get_or queue k 0) s u (omega (arith, (of s b (omega arith)).0)) g)
            (value s b)

        -- a state of the next level stands after this one
        after : (s : ℕ) → s < S → distance_to S r start s ≡ distance_to S r start (get_or queue k 0) + 1 → good S r goal start s ≡ true
            → get_or level s 0 ≡ get_or level₀ s 0 + level_flag
        after s b d g =
            let (j, l, u) = place s b g in
            rw u at (F.done r goal A j (later j u l (dec_lt k j)) l (rw u g))
          where
            later : (j : ℕ) → get_or queue j 0 ≡ s → j < n → Dec (k < j) → i ≤ j
            later j u l (yes h) = omega arith
            later j u l (no h) =
                let t : get_or level₀ s 0 ≤ get_or level₀ (get_or queue k 0) 0 = rw u at (O.sorted j k (omega arith) here) in
                absurd (omega (arith, at s b (good-le S r goal start s g), level_is.0))

        told : good S r goal start (get_or queue k 0) ≡ true → Ahead Lead Goal x level (get_or queue k 0)
        told g = by (dec_lt (distance_to S r start (get_or queue k 0)) (dist S r goal start))
          where
            by : Dec (distance_to S r start (get_or queue k 0) < dist S r goal start) → Ahead Lead Goal x level (get_or queue k 0)
            by (yes d) =
                let (s, b, t, u, o) = good_next S r A.agrees.inside goal start A.agrees.begins (get_or queue k 0) level_is.1 g d in
                before_last (omega (arith, level_here, level_is.0, A.last)) s (A.agrees.from (get_or queue k 0) s t)
                (omega (arith, after s b u o, at s b (good-le S r goal start s o), level_here, level_is.0))
            by (no d) =
                let l = good-le S r goal start (get_or queue k 0) g in
                at_last (omega (arith, level_here, level_is.0, A.last))
                ((A.goals (get_or queue k 0) level_is.1).1 (sym (good_last S r goal start (get_or queue k 0) (omega arith)) ∙ g))

  -- ---- one place more

  module _ {i : ℕ} {level : List ℕ} (F : Flagging Lead Goal start x level₀ queue n i level) (k : ℕ) (e : i ≡ k + 1) where
    other : (j : ℕ) → j < n → (j ≡ k → ⊥) → get_or queue j 0 ≡ get_or queue k 0 → ⊥
    other j l c u = by (dec_lt j k)
      where
        by : Dec (j < k) → ⊥
        by (yes h) = O.fits.once j k h (omega (arith, F.before)) u
        by (no h) = O.fits.once k j (omega arith) l (sym u)

    pub flagging_level : get_or level (get_or queue k 0) 0 ≡ get_or level₀ (get_or queue k 0) 0
    flagging_level = F.plain k (omega arith)

    pub flagging_below : get_or queue k 0 < length level
    flagging_below = omega (arith, F.raised.long, O.fits.below k (omega (arith, F.before)))

    same : get_or (set level (get_or queue k 0) (get_or level (get_or queue k 0) 0 + level_flag)) (get_or queue k 0) 0 ≡ get_or level₀ (get_or queue k 0) 0 + level_flag
    same = get_or-set_same level (get_or queue k 0) (get_or level (get_or queue k 0) 0 + level_flag) 0 flagging_below
        ∙ ap (λ (y : ℕ). y + level_flag) flagging_level

    else : (s : ℕ) → (s ≡ get_or queue k 0 → ⊥)
        → get_or (set level (get_or queue k 0) (get_or level (get_or queue k 0) 0 + level_flag)) s 0 ≡ get_or level s 0
    else s c = get_or-set_other level (get_or queue k 0) s (get_or level (get_or queue k 0) 0 + level_flag) 0 c

    flag_on : Ahead Lead Goal x level (get_or queue k 0)
        → Flagging Lead Goal start x level₀ queue n k (set level (get_or queue k 0) (get_or level (get_or queue k 0) 0 + level_flag))
    flag_on t = record {
      raised = record { long = simp length-set F.raised.long; each = λ s. each s (ℕ_discrete s (get_or queue k 0)) };
      before = omega (arith, F.before);
      plain = λ j l. else (get_or queue j 0) (other j (omega (arith, F.before)) (λ c. omega arith)) ∙ F.plain j (omega arith);
      done = λ r goal A j l m g. on r goal A j l m g (ℕ_discrete j k);
      none = λ r goal A s b g.
          else s (λ c. true≢false (sym (tells r goal A F k e t) ∙ (rw c at g))) ∙ F.none r goal A s b g;
    }
      where
        each : (s : ℕ) → Dec (s ≡ get_or queue k 0)
            → (get_or (set level (get_or queue k 0) (get_or level (get_or queue k 0) 0 + level_flag)) s 0 ≡ get_or level₀ s 0)
            ⊎ (get_or (set level (get_or queue k 0) (get_or level (get_or queue k 0) 0 + level_flag)) s 0 ≡ get_or level₀ s 0 + level_flag)
        each s (yes c) = inr (rw c same)
        each s (no c) = rw (else s c) (F.raised.each s)

        on : (r : ℕ → ℕ → Bool) (goal : ℕ → Bool) → Aims Lead Goal start x level₀ r goal → (j : ℕ) → k ≤ j → j < n
            → good (length level₀) r goal start (get_or queue j 0) ≡ true → Dec (j ≡ k)
            → get_or (set level (get_or queue k 0) (get_or level (get_or queue k 0) 0 + level_flag)) (get_or queue j 0) 0
            ≡ get_or level₀ (get_or queue j 0) 0 + level_flag
        on r goal A j l m g (yes c) = rw c same
        on r goal A j l m g (no c) = else (get_or queue j 0) (other j m c) ∙ F.done r goal A j (omega arith) m g

    flag_off : (Ahead Lead Goal x level (get_or queue k 0) → ⊥) → Flagging Lead Goal start x level₀ queue n k level
    flag_off t = record {
      raised = F.raised;
      before = omega (arith, F.before);
      plain = λ j l. F.plain j (omega arith);
      done = λ r goal A j l m g. on r goal A j l m g (ℕ_discrete j k);
      none = F.none;
    }
      where
        on : (r : ℕ → ℕ → Bool) (goal : ℕ → Bool) → Aims Lead Goal start x level₀ r goal → (j : ℕ) → k ≤ j → j < n
            → good (length level₀) r goal start (get_or queue j 0) ≡ true → Dec (j ≡ k)
            → get_or level (get_or queue j 0) 0 ≡ get_or level₀ (get_or queue j 0) 0 + level_flag
        on r goal A j l m g (yes c) = absurd (t (told r goal A F k e (rw c at g)))
        on r goal A j l m g (no c) = F.done r goal A j (omega arith) m g

    pub flagging_next : {level' : List ℕ} → Tried (Ahead Lead Goal x level) (get_or queue k 0) level level'
        → Flagging Lead Goal start x level₀ queue n k level'
    flagging_next (fails d t) = rw d (flag_off t)
    flagging_next (passes d t) = rw d (flag_on t)

  -- all places
  pub flagging_end : {level : List ℕ} → Flagging Lead Goal start x level₀ queue n 0 level → FlagsOf Lead Goal start x level₀ level
  flagging_end F = record {
    raised = F.raised;
    flagged = λ r goal A. record {
      done = λ s b g.
          let (j, l, u) = place r goal A s b g in
          (rw u at (F.done r goal A j (omega arith) l (rw u g)))
          ∙ ap (λ (y : ℕ). y + level_flag) (at r goal A s b (good-le (length level₀) r goal start s g));
      none = λ s b g. omega (arith, F.none r goal A s b g, level_small O s b);
    };
  }

-- ---- one state, by the ways out

module _ {Lead : ℕ → ℕ → Type 0} {Goal : ℕ → Type 0} {x : ℕ} {level : List ℕ} {p y : ℕ} (e : y ≡ get_or level p 0) where
  module _ (l : y < x) {n q : ℕ} (H : LeastOf (At level (y + 1 + level_flag) (Lead p)) n q) where
    pub tried_some : q < n → Tried (Ahead Lead Goal x level) p level (set level p (y + level_flag))
    tried_some b =
        ⊎_elim (λ z. absurd (omega arith))
        (λ t. passes (rw e) (before_last (omega arith) q t.is (omega (arith, t.has)))) H.some

-- whether there is a least state
module _ {S : ℕ} {T : ℕ → Type 0} {best : Option ℕ} where
  pub found_some : (o : Option ℕ) → LeastFound S T best o → is_some o ≡ true → unwrap_or o S < S
  found_some None L e = absurd (true≢false (sym e))
  found_some (Some q) L e = L.below

  pub found_none : (o : Option ℕ) → LeastFound S T best o → is_some o ≡ false → unwrap_or o S ≡ S
  found_none None L e = refl
  found_none (Some q) L e = absurd (true≢false e)

-- ---- the flags off again

-- the places below i have lost their flag
pub record Cleared (level level' : List ℕ) (i : ℕ) : Type 0 where
  pub long : length level' ≡ length level
  pub done : (p : ℕ) → p < i → get_or level' p 0 ≡ get_or level p 0 % level_flag
  pub rest : (p : ℕ) → i ≤ p → get_or level' p 0 ≡ get_or level p 0
