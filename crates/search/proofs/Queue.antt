-- Laws of the queue: there is room for a state that is not reached; one state is taken in; what is taken in part after part.
use mathlib.Core.Path.{◌≡◌, refl, sym, ap, subst, ◌∙◌}
use mathlib.Core.Logic.{◌⊎◌, inl, inr, ⊎_elim}
use mathlib.Core.List.{List}
use Prim.Native.Nat.{ℕ, ◌+◌, ◌≤◌, ◌<◌}
use native.Mathlib.Omega.{arith}
use native.Mathlib.Decide.{dec_lt, ℕ_discrete}
use lib.ListN.{length, get_or, set, length-set}
use lib.Seq.{get_or-set_same, get_or-set_other}
use lib.Dec.{ltb}
use borrow.Author.Tests.{ltb-true, lt-ltb, le-ltb}
use Rattle.theory.proofs.Below.{count-le, count_full}
use Rattle.search.specs.Queue.{Queued, Takes, TakesAll, Between}
use Rattle.search.proofs.Count.{count_put}

module _ {level queue : List ℕ} {n : ℕ} (F : Queued level queue n) where
  pub fits_le : n ≤ length level
  fits_le = omega (arith, F.many, count-le (length level) (λ p. ltb 0 (get_or level p 0)))

  -- a state that is not reached: there is room
  pub fits_room : (q : ℕ) → q < length level → get_or level q 0 ≡ 0 → n < length level
  fits_room q b z = by (dec_lt n (length level))
    where
      by : Dec (n < length level) → n < length level
      by (yes l) = l
      by (no l) =
          let h = ltb-true 0 (get_or level q 0) (count_full (length level) (λ p. ltb 0 (get_or level p 0)) (omega (arith, F.many)) q b) in
          absurd (omega arith)

  -- nothing is taken in
  pub takes_none : {x : ℕ} {T : ℕ → Type 0} → Takes x T level level queue queue n n
  takes_none = record {
    fits = F;
    long = refl;
    more = omega arith;
    each = λ q. inl refl;
    kept = λ i l. refl;
    fresh = λ i k l. absurd (omega arith);
  }

  -- one state is taken in
  module _ (x q : ℕ) (b : q < length level) (z : get_or level q 0 ≡ 0) where
    room : n < length queue
    room = omega (arith, fits_room q b z, F.same)

    here : get_or (set level q (x + 1)) q 0 ≡ x + 1
    here = get_or-set_same level q (x + 1) 0 b

    else : (p : ℕ) → (p ≡ q → ⊥) → get_or (set level q (x + 1)) p 0 ≡ get_or level p 0
    else p c = get_or-set_other level q p (x + 1) 0 c

    last : get_or (set queue n q) n 0 ≡ q
    last = get_or-set_same queue n q 0 room

    kept : (i : ℕ) → i < n → get_or (set queue n q) i 0 ≡ get_or queue i 0
    kept i l = get_or-set_other queue n i q 0 (λ c. omega arith)

    -- a state that was reached stays as it was
    old : (i : ℕ) → i < n → get_or (set level q (x + 1)) (get_or queue i 0) 0 ≡ get_or level (get_or queue i 0) 0
    old i l = else (get_or queue i 0) (λ c. let h = rw c at (F.reached i l) in omega arith)

    below : (i : ℕ) → i < n + 1 → Dec (i < n) → get_or (set queue n q) i 0 < length (set level q (x + 1))
    below i l (yes c) = rw (kept i c) (simp length-set (F.below i c))
    below i l (no c) = let e : i ≡ n = omega arith in rw (e, last) (simp length-set b)

    reached : (i : ℕ) → i < n + 1 → Dec (i < n) → 0 < get_or (set level q (x + 1)) (get_or (set queue n q) i 0) 0
    reached i l (yes c) = rw (kept i c, old i c) (F.reached i c)
    reached i l (no c) = let e : i ≡ n = omega arith in rw (e, last, here) (omega arith)

    found : (p : ℕ) → p < length level → 0 < get_or (set level q (x + 1)) p 0 → Dec (p ≡ q) → (i : ℕ) × (i < n + 1) × (get_or (set queue n q) i 0 ≡ p)
    found p l h (yes c) = (n, omega arith, last ∙ sym c)
    found p l h (no c) = let (i, d, u) = F.found p l (rw (else p c) at h) in (i, omega arith, kept i d ∙ u)

    once : (i j : ℕ) → i < j → j < n + 1 → Dec (j < n) → get_or (set queue n q) i 0 ≡ get_or (set queue n q) j 0 → ⊥
    once i j l k (yes c) u = F.once i j l c (sym (kept i (omega arith)) ∙ (u ∙ kept j c))
    once i j l k (no c) u =
        let e : j ≡ n = omega arith in
        let v : get_or queue i 0 ≡ q = sym (kept i (omega arith)) ∙ (u ∙ rw e last) in
        let h = rw v at (F.reached i (omega arith)) in
        omega arith

    fits_one : Queued (set level q (x + 1)) (set queue n q) (n + 1)
    fits_one = record {
      limit = simp length-set F.limit;
      same = simp length-set F.same;
      below = λ i l. below i l (dec_lt i n);
      reached = λ i l. reached i l (dec_lt i n);
      found = λ p l h. found p (omega (arith, length-set level q (x + 1))) h (ℕ_discrete p q);
      once = λ i j l k. once i j l k (dec_lt j n);
      many =
          rw (length-set level q (x + 1))
          (count_put (length level) (λ p. ltb 0 (get_or level p 0)) (λ p. ltb 0 (get_or (set level q (x + 1)) p 0)) q b (le-ltb 0 (get_or level q 0) (omega arith))
          (lt-ltb 0 (get_or (set level q (x + 1)) q 0) (omega (arith, here))) (λ p c. ap (ltb 0) (else p c))
          ∙ ap (λ (k : ℕ). k + 1) F.many);
    }

    each : (p : ℕ) → Dec (p ≡ q)
        → (get_or (set level q (x + 1)) p 0 ≡ get_or level p 0) ⊎ ((get_or level p 0 ≡ 0) × (get_or (set level q (x + 1)) p 0 ≡ x + 1) × (p ≡ q))
    each p (yes c) = inr (rw c z, rw c here, c)
    each p (no c) = inl (else p c)

    pub takes_one : TakesAll x (λ p. p ≡ q) level (set level q (x + 1)) queue (set queue n q) n (n + 1)
    takes_one = record {
      takes = record {
        fits = fits_one;
        long = length-set level q (x + 1);
        more = omega arith;
        each = λ p. each p (ℕ_discrete p q);
        kept = kept;
        fresh = λ i k l. let e : i ≡ n = omega arith in rw (e, last) here;
      };
      covers = λ p e. rw (e, here) (omega arith);
    }

module _ {x : ℕ} {T : ℕ → Type 0} {level level' queue queue' : List ℕ} {n n' : ℕ} (A : Takes x T level level' queue queue' n n') where
  -- a state that was reached stays as it was
  pub takes_kept : (q : ℕ) → 0 < get_or level q 0 → get_or level' q 0 ≡ get_or level q 0
  takes_kept q h = ⊎_elim (λ e. e) (λ t. absurd (omega (arith, t.0))) (A.each q)

  pub takes_reached : (q : ℕ) → 0 < get_or level q 0 → 0 < get_or level' q 0
  takes_reached q h = rw (takes_kept q h) h

  pub takes_widen : {U : ℕ → Type 0} → ((q : ℕ) → T q → U q) → Takes x U level level' queue queue' n n'
  takes_widen g = record {
    fits = A.fits;
    long = A.long;
    more = A.more;
    each = λ q. ⊎_elim inl (λ t. inr (t.0, t.1, g q t.2)) (A.each q);
    kept = A.kept;
    fresh = A.fresh;
  }

-- the same set in another form
pub takes_same : {x : ℕ} {T U : ℕ → Type 0} {level level' queue queue' : List ℕ} {n n' : ℕ} → TakesAll x T level level' queue queue' n n'
    → ((q : ℕ) → T q → U q) → ((q : ℕ) → U q → T q) → TakesAll x U level level' queue queue' n n'
takes_same A g h = record { takes = takes_widen A.takes g; covers = λ q u. A.covers q (h q u) }

-- one part after the other
pub takes_then : {x : ℕ} {T : ℕ → Type 0} {a b c o o' o'' : List ℕ} {n m k : ℕ}
    → Takes x T a b o o' n m → Takes x T b c o' o'' m k → Takes x T a c o o'' n k
takes_then {x} {T} {a} {b} {c} {o} {o'} {o''} {n} {m} {k} A B = record {
  fits = B.fits;
  long = B.long ∙ A.long;
  more = omega (arith, A.more, B.more);
  each = λ q. ⊎_elim (λ e. ⊎_elim (λ d. inl (e ∙ d)) (λ t. inr (t.0, e ∙ t.1, t.2)) (A.each q))
      (λ t. ⊎_elim (λ d. inr (sym d ∙ t.0, t.1, t.2)) (λ u. absurd (omega (arith, t.0, u.1))) (A.each q)) (B.each q);
  kept = λ i l. B.kept i (omega (arith, A.more)) ∙ A.kept i l;
  fresh = λ i l h. fresh i l h (dec_lt i m);
}
  where
    fresh : (i : ℕ) → n ≤ i → i < k → Dec (i < m) → get_or c (get_or o'' i 0) 0 ≡ x + 1
    fresh i l h (yes d) =
        let e = A.fresh i l d in
        rw (B.kept i d) (takes_kept B (get_or o' i 0) (omega arith) ∙ e)
    fresh i l h (no d) = B.fresh i (omega arith) h

-- in a loop: some of T is taken in, and what is not reached of it is in `Rest`
pub record Partly (x : ℕ) (T Rest : ℕ → Type 0) (level level' queue queue' : List ℕ) (n n' : ℕ) : Type 0 where
  pub takes : Takes x T level level' queue queue' n n'
  pub left : (q : ℕ) → T q → (0 < get_or level' q 0) ⊎ Rest q

pub partly_first : {x : ℕ} {T : ℕ → Type 0} {level queue : List ℕ} {n : ℕ} → Queued level queue n → Partly x T T level level queue queue n n
partly_first F = record { takes = takes_none F; left = λ q t. inr t }

module _ {x : ℕ} {T Rest : ℕ → Type 0} {a b o o' : List ℕ} {n m : ℕ} (A : Partly x T Rest a b o o' n m) where
  -- a turn: a part U of T is taken in, and `Rest'` is left
  pub partly_turn : {U Rest' : ℕ → Type 0} {c o'' : List ℕ} {k : ℕ} → TakesAll x U b c o' o'' m k → ((q : ℕ) → U q → T q)
      → ((q : ℕ) → Rest q → U q ⊎ Rest' q) → Partly x T Rest' a c o o'' n k
  partly_turn B part next = record {
    takes = takes_then A.takes (takes_widen B.takes part);
    left = λ q t. ⊎_elim (λ h. inl (takes_reached B.takes q h)) (λ r. ⊎_elim (λ u. inl (B.covers q u)) inr (next q r)) (A.left q t);
  }

  -- nothing is left
  pub partly_end : ((q : ℕ) → Rest q → ⊥) → TakesAll x T a b o o' n m
  partly_end none = record { takes = A.takes; covers = λ q t. ⊎_elim (λ h. h) (λ r. absurd (none q r)) (A.left q t) }

-- a loop over places
module _ {x lo i hi : ℕ} {P : ℕ → ℕ → Type 0} {a b o o' : List ℕ} {n m : ℕ} (A : Partly x (Between lo hi P) (Between i hi P) a b o o' n m) where
  pub between_turn : lo ≤ i → i < hi → {c o'' : List ℕ} {k : ℕ} → TakesAll x (P i) b c o' o'' m k
      → Partly x (Between lo hi P) (Between (i + 1) hi P) a c o o'' n k
  between_turn l h B = partly_turn A B (λ q u. record { place = i; after = l; before = h; is = u }) (λ q r. next q r (ℕ_discrete r.place i))
    where
      next : (q : ℕ) (r : Between i hi P q) → Dec (r.place ≡ i) → P i q ⊎ Between (i + 1) hi P q
      next q r (yes e) = inl (subst (λ (j : ℕ). P j q) e r.is)
      next q r (no e) = inr (record { place = r.place; after = omega (arith, r.after, e); before = r.before; is = r.is })

  pub between_end : hi ≤ i → TakesAll x (Between lo hi P) a b o o' n m
  between_end l = partly_end A (λ q r. omega (arith, r.after, r.before))

-- the same places
pub between_same : {x lo hi lo' hi' : ℕ} {P : ℕ → ℕ → Type 0} {a b o o' : List ℕ} {n m : ℕ} → TakesAll x (Between lo hi P) a b o o' n m
    → lo ≡ lo' → hi ≡ hi' → TakesAll x (Between lo' hi' P) a b o o' n m
between_same A d e = rw (d, e) at A
