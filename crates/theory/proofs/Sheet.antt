-- A sheet that keeps the rules has every marked state in and none forbidden; where no marked state is forbidden, ours keeps the rules; where no state is,
-- and all are allowed, so does the one of greatest numbers. `sheet_test` tells what passes.
use mathlib.Core.Path.{◌≡◌, sym, ap, ◌∙◌, subst, subst₂, fun_ext}
use mathlib.Core.Bool.{Bool, true, false, true≢false}
use mathlib.Core.Logic.{◌↔◌, ◌⊎◌, inl, inr, ⊎_elim}
use mathlib.Core.List.{List}
use Prim.Native.Nat.{ℕ, ◌+◌, ◌-◌, ◌*◌, ◌/◌, ◌%◌, ◌≤◌, ◌<◌}
use native.Mathlib.Omega.{arith}
use lib.ListN.{length, get_or, replicate, length-replicate, get_or-replicate}
use lib.Dec.{eqb}
use Rattle.theory.specs.Below.{bit}
use Rattle.theory.specs.Walk.{Walk, stop, move}
use Rattle.theory.specs.System.{System, Joins, Laws, OnClosedWalkIn}
use Rattle.theory.specs.Marked.{by_flow, by_face, by_touch, MarkedIn, begin, onward, marks}
use Rattle.theory.specs.Height.{IsHeight, height}
use Rattle.theory.specs.Sheet.{SheetRules, in_of, height_of, Sheet, keeps, sheet_test, number, our_sheet}
use Rattle.theory.proofs.Below.{true_unless_false, false_unless_true, bit-le, tab-length, tab_all, either, test↔, leb↔, ltb↔, eqb↔, not↔, and↔, or↔, imp↔, any↔, all↔}
use Rattle.theory.proofs.Walk.{walk_first}
use Rattle.theory.proofs.Marked.{marks_is, is_marks, marks_law, marked_allowed}
use Rattle.theory.proofs.Height.{height_law, height_no_rise, height_lower, height_below, height_out}

-- ---- sound

module _ (Y : System) (is_in : ℕ → Bool) (h : ℕ → ℕ) (K : SheetRules Y is_in h) where
  walk_no_rise : {p s : ℕ} {l : List ℕ} → Walk Y.flow p s l → h s ≤ h p
  walk_no_rise stop = omega arith
  walk_no_rise (move {p = p} {q = q} e w) = omega (arith, walk_no_rise w, K.no_rise p q e)

  -- an out-state near an in-state is on no closed walk
  no_closed_walk : (p q : ℕ) → is_in p ≡ true → is_in q ≡ false → Y.near p q ≡ true → ¬ OnClosedWalkIn Y q
  no_closed_walk p q i o n (x, l, w) = let (e, v) = walk_first w in omega (arith, K.lower p q x i o n e, walk_no_rise v)

  pub rules_marked : {s : ℕ} → MarkedIn Y s → is_in s ≡ true
  rules_marked begin = K.start_in
  rules_marked (onward {p = p} {q = q} m (by_flow e)) = K.flow_in p q (rules_marked m) e
  rules_marked (onward {p = p} {q = q} m (by_face e)) = K.face_in p q (rules_marked m) e
  rules_marked (onward {p = p} {q = q} m (by_touch e w)) = true_unless_false (is_in q) (λ o. no_closed_walk p q (rules_marked m) o e w)

-- ---- complete

module _ (Y : System) (L : Laws Y) where
  pub rules_complete : ((s : ℕ) → MarkedIn Y s → Y.forbidden s ≡ false) → SheetRules Y (marks Y) (height Y)
  rules_complete g = record {
    start_in = is_marks Y L Y.start begin;
    flow_in = λ p q i e. is_marks Y L q (onward (marks_is Y L p i) (by_flow e));
    face_in = λ p q i e. is_marks Y L q (onward (marks_is Y L p i) (by_face e));
    no_rise = λ p q e. height_no_rise Y L p q e;
    lower = λ p q x i o n e. height_lower Y L q x e (λ w.
        true≢false (sym (is_marks Y L q (onward (marks_is Y L p i) (by_touch n (x, w.0, move e w.1)))) ∙ o));
    none_forbidden = λ p b i. g p (marks_is Y L p i);
  }

-- ---- the rules as a test

-- what the test says of two states, and of an out-state
abbrev PairRule : System → (ℕ → Bool) → (ℕ → ℕ) → ℕ → ℕ → Type 0
PairRule Y is_in h p q = (Y.flow p q ≡ true → h q ≤ h p) × ((is_in p ≡ true) × ((Y.flow p q ≡ true) ⊎ (Y.face p q ≡ true)) → is_in q ≡ true)

abbrev LowRule : System → (ℕ → Bool) → (ℕ → ℕ) → ℕ → Type 0
LowRule Y is_in h p =
    (is_in p ≡ false) × ((q : ℕ) × (q < Y.size) × ((is_in q ≡ true) × (Y.near q p ≡ true))) → (q : ℕ) → q < Y.size → Y.flow p q ≡ true → h q < h p

module _ (Y : System) (L : Laws Y) (is_in : ℕ → Bool) (h : ℕ → ℕ) where
  keeps↔ : (keeps Y is_in h ≡ true)
      ↔ ((is_in Y.start ≡ true) × ((p : ℕ) → p < Y.size
      → (is_in p ≡ true → Y.forbidden p ≡ false) × (((q : ℕ) → q < Y.size → PairRule Y is_in h p q) × LowRule Y is_in h p)))
  unfolding keeps
  keeps↔ =
      and↔ (test↔ (is_in Y.start)) (all↔ Y.size λ p.
      and↔ (imp↔ (test↔ (is_in p)) (not↔ (Y.forbidden p)))
      (and↔ (all↔ Y.size λ q.
      and↔ (imp↔ (test↔ (Y.flow p q)) (leb↔ (h q) (h p)))
      (imp↔ (and↔ (test↔ (is_in p)) (or↔ (test↔ (Y.flow p q)) (test↔ (Y.face p q)))) (test↔ (is_in q))))
      (imp↔ (and↔ (not↔ (is_in p)) (any↔ Y.size λ q. and↔ (test↔ (is_in q)) (test↔ (Y.near q p))))
      (all↔ Y.size λ q. imp↔ (test↔ (Y.flow p q)) (ltb↔ (h q) (h p))))))

  keeps_is : keeps Y is_in h ≡ true → SheetRules Y is_in h
  keeps_is e =
      let (s, k) = keeps↔.0 e in
      let inside = L.allowed_below in
      record {
        start_in = s;
        flow_in = λ p q i f. let (b, c) = L.flow_joins p q f in ((k p (inside p b)).1.0 q (inside q c)).1 (i, inl f);
        face_in = λ p q i f. let (b, c) = L.face_joins p q f in ((k p (inside p b)).1.0 q (inside q c)).1 (i, inr f);
        no_rise = λ p q f. let (b, c) = L.flow_joins p q f in ((k p (inside p b)).1.0 q (inside q c)).0 f;
        lower = λ p q x i o n f.
            let (b, c) = L.near_joins p q n in
            (k q (inside q c)).1.1 (o, (p, inside p b, (i, n))) x (inside x (L.flow_joins q x f).1) f;
        none_forbidden = λ p b i. (k p b).0 i;
      }

  is_keeps : SheetRules Y is_in h → keeps Y is_in h ≡ true
  is_keeps K =
      keeps↔.1 (
        K.start_in,
        λ p b. (
          K.none_forbidden p b,
          (
            λ q c. (K.no_rise p q, λ (i, t). ⊎_elim (λ f. K.flow_in p q i f) (λ f. K.face_in p q i f) t),
            λ (o, (q, c, (i, n))) x d f. K.lower q p x i o n f,
          ),
        ),
      )

  pub keeps_law : (keeps Y is_in h ≡ true) ↔ SheetRules Y is_in h
  keeps_law = (keeps_is, is_keeps)

-- ---- sheets as numbers

odd_bit : (h : ℕ) (b : Bool) → eqb ((2 * h + bit b) % 2) 1 ≡ b
odd_bit h true = rw (let e : (2 * h + 1) % 2 ≡ 1 = omega arith in e)
odd_bit h false = rw (let e : (2 * h + 0) % 2 ≡ 0 = omega arith in e)

half_bit : (h : ℕ) (b : Bool) → (2 * h + bit b) / 2 ≡ h
half_bit h true = omega arith
half_bit h false = omega arith

module _ (Y : System) (L : Laws Y) where
  sheet↔ : (l : List ℕ) → (sheet_test Y l ≡ true)
      ↔ ((length l ≡ Y.size)
      × (((p : ℕ) → p < Y.size → (get_or l p 0 ≤ 2 * Y.size - 1) × ((Y.allowed p ≡ true) ⊎ (get_or l p 0 ≡ 0))) × SheetRules Y (in_of l) (height_of l)))
  unfolding sheet_test
  sheet↔ l =
      and↔ (eqb↔ (length l) Y.size)
      (and↔ (all↔ Y.size λ p. and↔ (leb↔ (get_or l p 0) (2 * Y.size - 1)) (or↔ (test↔ (Y.allowed p)) (eqb↔ (get_or l p 0) 0)))
      (keeps_law Y L (in_of l) (height_of l)))

  pub sheet_is : (l : List ℕ) → sheet_test Y l ≡ true → Sheet Y l
  sheet_is l e =
      let (a, (b, c)) = (sheet↔ l).0 e in
      record {
        long = a;
        bounded = λ p h. (b p h).0;
        blank = λ p h o. ⊎_elim (λ t. absurd (true≢false (sym t ∙ o))) (λ t. t) (b p h).1;
        rules = c;
      }

  pub is_sheet : (l : List ℕ) → Sheet Y l → sheet_test Y l ≡ true
  is_sheet l K = (sheet↔ l).1 (K.long, (λ p h. (K.bounded p h, blank p h (either (Y.allowed p))), K.rules))
    where
      blank : (p : ℕ) → p < Y.size → (Y.allowed p ≡ true) ⊎ (Y.allowed p ≡ false) → (Y.allowed p ≡ true) ⊎ (get_or l p 0 ≡ 0)
      blank p h (inl o) = inl o
      blank p h (inr o) = inr (K.blank p h o)

  pub sheet_law : (l : List ℕ) → (sheet_test Y l ≡ true) ↔ Sheet Y l
  sheet_law l = (sheet_is l, is_sheet l)

  -- ---- ours

  pub number_out : (p : ℕ) → Y.allowed p ≡ false → number Y p ≡ 0
  unfolding number
  number_out p n = rw (height_out Y L p n, false_unless_true (marks Y p) λ e. true≢false (sym (marked_allowed Y L (marks_is Y L p e)) ∙ n))

  pub number-le : (p : ℕ) → p < Y.size → number Y p ≤ 2 * Y.size - 1
  unfolding number
  number-le p b = omega (arith, height_below Y L p b, bit-le (marks Y p))

  sheet_at : (p : ℕ) → get_or (our_sheet Y) p 0 ≡ number Y p
  unfolding our_sheet
  sheet_at p = tab_all Y.size (number Y) (λ i b. number_out i (false_unless_true (Y.allowed i) λ a. omega (arith, L.allowed_below i a))) p

  pub our_sheet_in : (p : ℕ) → in_of (our_sheet Y) p ≡ marks Y p
  unfolding number
  our_sheet_in p = rw (sheet_at p) (odd_bit (height Y p) (marks Y p))

  pub our_sheet-height : (p : ℕ) → height_of (our_sheet Y) p ≡ height Y p
  unfolding number
  our_sheet-height p = rw (sheet_at p) (half_bit (height Y p) (marks Y p))

  -- 01: "Our sheet holds the marked set; the height is the most times that a walk of time and jump steps from the state takes a step it can't
  -- return from."
  pub our_sheet_holds : (p : ℕ) → p < Y.size → ((in_of (our_sheet Y) p ≡ true) ↔ MarkedIn Y p) × IsHeight Y p (height_of (our_sheet Y) p)
  our_sheet_holds p b = (
    subst (λ (i : Bool). (i ≡ true) ↔ MarkedIn Y p) (sym (our_sheet_in p)) (marks_law Y L p),
    subst (λ (h : ℕ). IsHeight Y p h) (sym (our_sheet-height p)) (height_law Y L p b),
  )

  our_sheet_long : length (our_sheet Y) ≡ Y.size
  unfolding our_sheet
  our_sheet_long = tab-length Y.size (number Y)

  pub our_sheet_passes : ((s : ℕ) → MarkedIn Y s → Y.forbidden s ≡ false) → Sheet Y (our_sheet Y)
  our_sheet_passes g = record {
    long = our_sheet_long;
    bounded = λ p b. rw (sheet_at p) (number-le p b);
    blank = λ p b n. sheet_at p ∙ number_out p n;
    rules =
        subst₂ (λ (i : ℕ → Bool) (h : ℕ → ℕ). SheetRules Y i h) (sym (fun_ext our_sheet_in)) (sym (fun_ext our_sheet-height)) (rules_complete Y L g);
  }

-- ---- another one: every state in, all at the greatest height

module _ (Y : System) (L : Laws Y) (all_allowed : (p : ℕ) → p < Y.size → Y.allowed p ≡ true) (none_forbidden : (p : ℕ) → p < Y.size → Y.forbidden p ≡ false) where
  abbrev top : ℕ
  top = 2 * Y.size - 1

  full_at : (p : ℕ) → p < Y.size → get_or (replicate Y.size top) p 0 ≡ top
  full_at p = get_or-replicate Y.size p top 0

  full_in : (p : ℕ) → p < Y.size → in_of (replicate Y.size top) p ≡ true
  full_in p b = (eqb↔ _ _).1 (ap (λ (v : ℕ). v % 2) (full_at p b) ∙ omega arith)

  joined : {r : ℕ → ℕ → Bool} → Joins Y r → (p q : ℕ) → r p q ≡ true → (p < Y.size) × (q < Y.size)
  joined joins p q e = let (a, b) = joins p q e in (L.allowed_below p a, L.allowed_below q b)

  pub full_sheet : Sheet Y (replicate Y.size top)
  full_sheet =
      record {
        long = length-replicate Y.size top;
        bounded = λ p b. omega (arith, full_at p b);
        blank = λ p b out. absurd (true≢false (sym (all_allowed p b) ∙ out));
        rules = record {
          start_in = full_in Y.start (L.allowed_below Y.start L.start_allowed);
          flow_in = λ p q _ e. full_in q (joined L.flow_joins p q e).1;
          face_in = λ p q _ e. full_in q (joined L.face_joins p q e).1;
          no_rise = λ p q e.
              let (b, c) = joined L.flow_joins p q e in
              omega (arith, ap (λ (v : ℕ). v / 2) (full_at p b), ap (λ (v : ℕ). v / 2) (full_at q c));
          lower = λ p q x _ out e _. absurd (true≢false (sym (full_in q (joined L.near_joins p q e).1) ∙ out));
          none_forbidden = λ p b _. none_forbidden p b;
        };
      }
