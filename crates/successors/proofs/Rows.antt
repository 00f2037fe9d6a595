-- What is put into a row of adjacency lists, part after part, and what a whole row adds to the lists.
use Prim.Native.Nat.{ℕ, suc, ◌+◌, ◌≤◌, ◌<◌}
use native.Mathlib.Nat.{eq-or-lt_of_le, le_of_suc-le-suc}
use native.Mathlib.Decide.{dec_lt}
use native.Mathlib.Omega.{arith}
use mathlib.Core.Path.{◌≡◌, refl, sym, ap, ◌∙◌, subst}
use mathlib.Core.Bool.{Bool, true}
use mathlib.Core.Logic.{◌↔◌, ◌⊎◌, inl, inr, ⊎_elim}
use mathlib.Core.List.{List}
use lib.ListN.{length, get_or, set, length-set}
use lib.Seq.{get_or-set_same, get_or-set_other}
use Rattle.theory.specs.Adjacency.{Adjacent, Holds}
use Rattle.successors.specs.Rows.{Stands, Puts, HoldsBelow}

-- nothing is put
pub puts_none : (k : ℕ) {T : ℕ → Type 0} (targets : List ℕ) (n : ℕ) → ((q : ℕ) → T q → ⊥) → Puts k T targets targets n n
puts_none k targets n h =
    record {
      long = refl;
      more = omega arith;
      most = omega arith;
      kept = λ i l. refl;
      just = λ q. (λ s. absurd (omega (arith, s.after, s.before)), λ t. absurd (h q t));
    }

-- one number is put
pub puts_one : {T : ℕ → Type 0} (targets : List ℕ) (n x : ℕ) → n < length targets → T x → ((q : ℕ) → T q → q ≡ x)
    → Puts 1 T targets (set targets n x) n (n + 1)
puts_one {T} targets n x l t h =
    record {
      long = length-set targets n x;
      more = omega arith;
      most = omega arith;
      kept = λ i j. get_or-set_other targets n i x 0 (λ e. omega arith);
      just = λ q. (
        λ s.
            let e : s.place ≡ n = omega (arith, s.after, s.before) in
            let d : x ≡ q = sym (get_or-set_same targets n x 0 l) ∙ ap (λ i. get_or (set targets n x) i 0) (sym e) ∙ s.is in
            subst T d t,
        λ u. record { place = n; after = omega arith; before = omega arith; is = get_or-set_same targets n x 0 l ∙ sym (h q u) },
      );
    }

-- the numbers of T, then those of U: all in all those of W
pub puts_then : {i j k : ℕ} {T U W : ℕ → Type 0} {targets targets' targets'' : List ℕ} {n n' n'' : ℕ}
    → Puts j T targets targets' n n' → Puts k U targets' targets'' n' n'' → j + k ≤ i → ((q : ℕ) → (T q ⊎ U q) ↔ W q)
    → Puts i W targets targets'' n n''
puts_then {T = T} {U = U} {targets' = targets'} {targets'' = targets''} {n = n} {n' = n'} {n'' = n''} a b l v =
    record {
      long = b.long ∙ a.long;
      more = omega (arith, a.more, b.more);
      most = omega (arith, a.most, b.most);
      kept = λ i l. b.kept i (omega (arith, a.more)) ∙ a.kept i l;
      just = λ q. (
        λ s. (v q).0 (part q s (split s)),
        λ t. ⊎_elim (λ x. early q ((a.just q).1 x)) (λ x. late q ((b.just q).1 x)) ((v q).1 t),
      );
    }
  where
    split : {q : ℕ} (s : Stands targets'' n n'' q) → (s.place < n') ⊎ (n' ≤ s.place)
    split s = dec (dec_lt s.place n')
      where
        dec : Dec (s.place < n') → (s.place < n') ⊎ (n' ≤ s.place)
        dec (yes l) = inl l
        dec (no l) = inr (omega (arith, l))

    part : (q : ℕ) (s : Stands targets'' n n'' q) → (s.place < n') ⊎ (n' ≤ s.place) → T q ⊎ U q
    part q s (inl l) = inl ((a.just q).0 record { place = s.place; after = s.after; before = l; is = sym (b.kept s.place l) ∙ s.is })
    part q s (inr l) = inr ((b.just q).0 record { place = s.place; after = l; before = s.before; is = s.is })

    early : (q : ℕ) → Stands targets' n n' q → Stands targets'' n n'' q
    early q s =
        record { place = s.place; after = s.after; before = omega (arith, s.before, b.more); is = b.kept s.place s.before ∙ s.is }

    late : (q : ℕ) → Stands targets'' n' n'' q → Stands targets'' n n'' q
    late q s = record { place = s.place; after = omega (arith, s.after, a.more); before = s.before; is = s.is }

-- the same numbers by another name
pub puts_same : {k : ℕ} {T U : ℕ → Type 0} {targets targets' : List ℕ} {n n' : ℕ}
    → Puts k T targets targets' n n' → ((q : ℕ) → T q ↔ U q) → Puts k U targets targets' n n'
puts_same p h =
    record {
      long = p.long;
      more = p.more;
      most = p.most;
      kept = p.kept;
      just = λ q. (λ s. (h q).0 ((p.just q).0 s), λ u. (p.just q).1 ((h q).1 u));
    }

-- ---- rows

-- no row yet
pub holds_first : (first targets : List ℕ) (s : ℕ) (r : ℕ → ℕ → Bool) → length first ≡ suc s
    → HoldsBelow (set first 0 0) targets s r 0 0
holds_first first targets s r e =
    record {
      long = length-set first 0 0 ∙ e;
      here = get_or-set_same first 0 0 0 (omega arith);
      within = λ k l. let z : k ≡ 0 = omega arith in rw z (omega (arith, get_or-set_same first 0 0 0 (omega arith)));
      ascends = λ k l. absurd (omega arith);
      below = λ i l. absurd (omega arith);
      edges = λ k q l. absurd (omega arith);
    }

-- a row more
module _ {first targets targets' : List ℕ} {s c p n n' : ℕ} {r : ℕ → ℕ → Bool} (h : HoldsBelow first targets s r p n)
    (a : Puts c (λ q. r p q ≡ true) targets targets' n n') (in_range : (q : ℕ) → r p q ≡ true → q < s) (b : p < s) where
  first' : List ℕ
  first' = set first (suc p) n'

  old : (k : ℕ) → k ≤ p → get_or first' k 0 ≡ get_or first k 0
  unfolding first'
  old k l = get_or-set_other first (suc p) k n' 0 (λ e. omega arith)

  new : get_or first' (suc p) 0 ≡ n'
  unfolding first'
  new = get_or-set_same first (suc p) n' 0 (omega (arith, h.long))

  kept_row : (k q : ℕ) → k < p → Adjacent first' targets' k q ↔ Adjacent first targets k q
  kept_row k q l =
      let e = old k (omega arith) in
      let f = old (suc k) (omega arith) in
      let w = h.within (suc k) (omega arith) in (
        λ x.
            let j : x.place < n = omega (arith, x.before) in
            record {
              place = x.place;
              after = omega (arith, x.after);
              before = omega (arith, x.before);
              is = sym (a.kept x.place j) ∙ x.is;
            },
        λ x.
            record {
              place = x.place;
              after = omega (arith, x.after);
              before = omega (arith, x.before);
              is = a.kept x.place (omega (arith, x.before)) ∙ x.is;
            },
      )

  new_row : (q : ℕ) → Adjacent first' targets' p q ↔ (r p q ≡ true)
  new_row q =
      let e : get_or first' p 0 ≡ n = old p (omega arith) ∙ h.here in
      let f = new in (
        λ x. (a.just q).0 record { place = x.place; after = omega (arith, x.after); before = omega (arith, x.before); is = x.is },
        λ t.
            let x = (a.just q).1 t in
            record { place = x.place; after = omega (arith, x.after); before = omega (arith, x.before); is = x.is },
      )

  place : (i : ℕ) → i < n' → Dec (i < n) → get_or targets' i 0 < s
  place i l (yes j) = rw (a.kept i j) (h.below i j)
  place i l (no j) =
      in_range (get_or targets' i 0) ((a.just (get_or targets' i 0)).0 record { place = i; after = omega (arith, j); before = l; is = refl })

  pub holds_more : HoldsBelow (set first (suc p) n') targets' s r (suc p) n'
  unfolding first'
  holds_more =
      record {
        long = length-set first (suc p) n' ∙ h.long;
        here = new;
        within = λ k l. ⊎_elim (λ (e : k ≡ suc p). rw e (omega (arith, new)))
            (λ (j : k < suc p). omega (arith, old k (omega arith), h.within k (omega arith), a.more)) (eq-or-lt_of_le l);
        ascends = λ k l. ⊎_elim
            (λ (e : k ≡ p). rw e (omega (arith, new, old p (omega arith), h.here, a.more)))
            (λ (j : k < p). omega (arith, old k (omega arith), old (suc k) (omega arith), h.ascends k j))
            (eq-or-lt_of_le (le_of_suc-le-suc l));
        below = λ i l. place i l (dec_lt i n);
        edges = λ k q l. ⊎_elim
            (λ (e : k ≡ p). rw e (new_row q))
            (λ (j : k < p). let (x, y) = kept_row k q j in let (u, v) = h.edges k q j in (λ t. u (x t), λ t. y (v t)))
            (eq-or-lt_of_le (le_of_suc-le-suc l));
      }

-- all rows
pub holds_all : {first targets : List ℕ} {s n : ℕ} {r : ℕ → ℕ → Bool} → HoldsBelow first targets s r s n → n ≤ length targets
    → Holds first targets s r
holds_all h l =
    record {
      long = h.long;
      ascends = h.ascends;
      ends = omega (arith, h.here);
      below = λ i j. h.below i (omega (arith, h.here));
      edges = λ p q j. h.edges p q j;
    }
