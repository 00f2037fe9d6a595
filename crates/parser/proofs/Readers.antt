-- Steps of reading, in both directions: numbers that stand in the bytes are read into the model, and what was read stands in the bytes.
use Prim.Native.Nat.{ℕ, suc, zero, ◌+◌, ◌-◌, ◌^◌, ◌≤◌, ◌<◌}
use native.Mathlib.Omega.{arith}
use mathlib.Core.Path.{◌≡◌, refl, sym, ap, ap₂, subst, ◌∙◌}
use mathlib.Core.List.{List, [], ◌∷◌, ◌++◌}
use mathlib.Core.Bool.{cond}
use lib.Dec.{eqb}
use borrow.Author.Tests.{eqb-true, eqb-false, eq-eqb, ne_eqb}
use Rattle.number.proofs.Laws.{cond_ind}
use Rattle.number.proofs.Sequence.{Reads, none, more, reads_append, reads_split, reads_end, reads_first}
use Rattle.model.specs.declared.Model.{Model}
use Rattle.parser.specs.Parse.{State}
use Rattle.model.specs.Each.{each, gather}
use Rattle.model.specs.Model.{slot, with_invariant}
use Rattle.parser.specs.Parse.{field_at, on_field, unless_stopped, going, stopped, with_kind, with_ends, with_guard, kind_at, invariant_at, ends_at, guard_at, parse_location, parse_edge}
use Rattle.parser.proofs.Fields.{field_is, Taken, taken}
use Rattle.model.proofs.Gather.{gather_ext, each_ext}

pub state_is : (s : State) → s.refusal ≡ 0 → s ≡ going s.at s.model
state_is s e = ap (λ (r : ℕ). record { refusal = r; at = s.at; model = s.model }) e

-- what an edge has once, and for each clock
pub record Ends : Type 0 where
  pub source : ℕ
  pub target : ℕ
  pub reset : ℕ

pub record Guard : Type 0 where
  pub low : ℕ
  pub high : ℕ

module _ (bs : List ℕ) where
  -- what a step that was not refused has read and done
  pub record Found (W : Type 0) (num : W → List ℕ) (good : W → Type 0) (put : W → Model → Model) (s t : State) : Type 0 where
    pub before : s.refusal ≡ 0
    pub what : W
    pub to : ℕ
    pub fine : good what
    pub reads : Reads bs s.at (num what) to
    pub is : t ≡ going to (put what s.model)

  -- a step that reads the numbers of a W and puts it into the model
  pub record Reader (W : Type 0) (num : W → List ℕ) (good : W → Type 0) (put : W → Model → Model) (step : State → State) : Type 0 where
    pub on : (w : W) → good w → (at to : ℕ) (m : Model) → Reads bs at (num w) to → step (going at m) ≡ going to (put w m)
    pub back : (s : State) → (step s).refusal ≡ 0 → Found W num good put s (step s)

  -- one step after another
  pub followed : {U W : Type 0} {num₁ : U → List ℕ} {num₂ : W → List ℕ} {good₁ : U → Type 0} {good₂ : W → Type 0}
      {put₁ : U → Model → Model} {put₂ : W → Model → Model} {step₁ step₂ : State → State}
      → Reader U num₁ good₁ put₁ step₁ → Reader W num₂ good₂ put₂ step₂
      → Reader (U × W) (λ w. num₁ w.0 ++ num₂ w.1) (λ w. good₁ w.0 × good₂ w.1) (λ w m. put₂ w.1 (put₁ w.0 m))
      (λ s. step₂ (step₁ s))
  followed {U} {W} {num₁} {num₂} {good₁} {good₂} {put₁} {put₂} {step₁} {step₂} a b =
      record {
        on = λ w g at to m r.
            let (mid, p, q) = reads_split (num₁ w.0) r in
            ap step₂ (a.on w.0 g.0 at mid m p) ∙ b.on w.1 g.1 mid to (put₁ w.0 m) q;
        back = λ s e.
            let y = b.back (step₁ s) e in
            let x = a.back s y.before in
            record {
              before = x.before;
              what = (x.what, y.what);
              to = y.to;
              fine = (x.fine, y.fine);
              reads = reads_append x.reads (subst (λ (i : ℕ). Reads bs i (num₂ y.what) y.to) (ap (λ (t : State). t.at) x.is) y.reads);
              is = y.is ∙ ap (λ (t : State). going y.to (put₂ y.what t.model)) x.is;
            };
      }

  -- rounds
  module _ {W : Type 0} (w₀ : W) (num : W → List ℕ) (good : W → Type 0) (put : ℕ → W → Model → Model) (step : ℕ → State → State)
      (one : (i : ℕ) → Reader W num good (put i) (step i)) where
    abbrev Num : ℕ → (ℕ → W) → List ℕ
    Num n f = gather n (λ i. num (f i))

    abbrev Good : ℕ → (ℕ → W) → Type 0
    Good n f = (i : ℕ) → i < n → good (f i)

    abbrev Put : ℕ → (ℕ → W) → Model → Model
    Put n f m = each n (λ i. put i (f i)) m

    rounds_on : (n : ℕ) (f : ℕ → W) → Good n f → (at to : ℕ) (m : Model) → Reads bs at (Num n f) to
        → each n step (going at m) ≡ going to (Put n f m)
    unfolding each gather
    rounds_on zero f g at to m r = ap (λ (i : ℕ). going i m) (reads_end r)
    rounds_on (suc n) f g at to m r =
        let (mid, p, q) = reads_split (Num n f) r in
        ap (step n) (rounds_on n f (λ i h. g i (omega arith)) at mid m p) ∙ (one n).on (f n) (g n (omega arith)) mid to (Put n f m) q

    -- one value more
    abbrev with : ℕ → W → (ℕ → W) → ℕ → W
    with n w f i = cond (eqb i n) w (f i)

    with_new : (n : ℕ) (w : W) (f : ℕ → W) → w ≡ with n w f n
    with_new n w f = simp (eq-eqb n n refl)

    with_old : (n : ℕ) (w : W) (f : ℕ → W) (i : ℕ) → i < n → f i ≡ with n w f i
    with_old n w f i h = simp (ne_eqb i n (λ e. omega arith))

    rounds_back : (n : ℕ) (s : State) → (each n step s).refusal ≡ 0 → Found (ℕ → W) (Num n) (Good n) (Put n) s (each n step s)
    unfolding each gather
    rounds_back zero s e =
        record { before = e; what = λ i. w₀; to = s.at; fine = λ i h. absurd (omega arith); reads = none; is = state_is s e }
    rounds_back (suc n) s e = go ((one n).back (each n step s) e) (rounds_back n s)
      where
        go : Found W num good (put n) (each n step s) (step n (each n step s))
            → ((each n step s).refusal ≡ 0 → Found (ℕ → W) (Num n) (Good n) (Put n) s (each n step s))
            → Found (ℕ → W) (Num (suc n)) (Good (suc n)) (Put (suc n)) s (step n (each n step s))
        go y ih =
            let x = ih y.before in
            let f = with n y.what x.what in
            let old : (i : ℕ) → i < n → x.what i ≡ f i = with_old n y.what x.what in
            let new : y.what ≡ f n = with_new n y.what x.what in
            record {
              before = x.before;
              what = f;
              to = y.to;
              fine = λ i h.
                  cond_ind good (eqb i n) (λ q. y.fine) (λ q. x.fine i (let d = eqb-false i n q in omega arith));
              reads =
                  subst (λ (l : List ℕ). Reads bs s.at l y.to)
                  (ap₂ ◌++◌ (gather_ext n (λ i. num (x.what i)) (λ i. num (f i)) (λ i h. ap num (old i h))) (ap num new))
                  (reads_append x.reads (subst (λ (i : ℕ). Reads bs i (num y.what) y.to) (ap (λ (t : State). t.at) x.is) y.reads));
              is =
                  y.is ∙ ap (λ (t : State). going y.to (put n y.what t.model)) x.is
                  ∙ ap (going y.to) (ap₂ (put n) new (each_ext n _ _ (λ i h m. ap (λ (w : W). put i w m) (old i h)) s.model));
            }

    pub rounds : (n : ℕ) → Reader (ℕ → W) (λ f. gather n (λ i. num (f i))) (λ f. (i : ℕ) → i < n → good (f i))
        (λ f m. each n (λ i. put i (f i)) m) (each n step)
    rounds n = record { on = rounds_on n; back = rounds_back n }

  -- ---- the four steps

  -- nothing is read once a number is refused
  unless_back : (s t : State) → (unless_stopped s t).refusal ≡ 0 → (s.refusal ≡ 0) × (unless_stopped s t ≡ t)
  unless_back s t =
      cond_ind (λ (u : State). u.refusal ≡ 0 → (s.refusal ≡ 0) × (u ≡ t)) (eqb s.refusal 0)
      (λ q e. (eqb-true _ _ q, refl)) (λ q e. absurd (eqb-false _ _ q e))

  -- the number that such a step took
  step_taken : (s : State) (at low high refusal : ℕ) (go : ℕ → ℕ → State) → 2 ≤ refusal
      → (on_field (field_at bs at low high refusal) (stopped s) go).refusal ≡ 0
      → Taken bs at low high go (on_field (field_at bs at low high refusal) (stopped s) go)
  step_taken s at low high refusal go two = taken (λ (t : State). t.refusal) bs at low high refusal (stopped s) go two (λ r. refl)

  refusal_along : {s t : State} → s ≡ t → s.refusal ≡ 0 → t.refusal ≡ 0
  refusal_along u e = ap (λ (t : State). t.refusal) (sym u) ∙ e

  kind_reader : (l : ℕ) → Reader ℕ (λ v. v ∷ []) (λ v. v ≤ 1) (λ v m. with_kind m l v) (kind_at bs l)
  unfolding kind_at
  kind_reader l =
      record {
        on = λ v g at to m r.
            let (p, e, t) = reads_first r in
            simp (field_is bs at 0 1 4 v p e (omega arith) g) (ap (λ (i : ℕ). going i (with_kind m l v)) (reads_end t));
        back = λ s e.
            let (z, u) = unless_back s _ e in
            let x = step_taken s s.at 0 1 4 _ (omega arith) (refusal_along u e) in
            record { before = z; what = x.value; to = x.to; fine = x.most; reads = more x.reads none; is = u ∙ x.is };
      }

  stay_reader : (c l x : ℕ) → Reader ℕ (λ v. v ∷ []) (λ v. v ≤ c + 1) (λ v m. with_invariant m (slot l x) v) (invariant_at bs c l x)
  unfolding invariant_at
  stay_reader c l x =
      record {
        on = λ v g at to m r.
            let (p, e, t) = reads_first r in
            simp (field_is bs at 0 (c + 1) 4 v p e (omega arith) g) (ap (λ (i : ℕ). going i (with_invariant m (slot l x) v)) (reads_end t));
        back = λ s e.
            let (z, u) = unless_back s _ e in
            let y = step_taken s s.at 0 (c + 1) 4 _ (omega arith) (refusal_along u e) in
            record { before = z; what = y.value; to = y.to; fine = y.most; reads = more y.reads none; is = u ∙ y.is };
      }

  ends_reader : (n l e : ℕ) → Reader Ends (λ w. w.source ∷ w.target ∷ w.reset ∷ [])
      (λ w. (w.source ≤ l - 1) × (w.target ≤ l - 1) × (w.reset ≤ 2 ^ n - 1))
      (λ w m. with_ends m e w.source w.target w.reset) (ends_at bs n l e)
  unfolding ends_at
  ends_reader n l e =
      record {
        on = λ w g at to m r.
            let (p, a, s) = reads_first r in
            let (q, b, t) = reads_first s in
            let (o, c, u) = reads_first t in
            simp (
              field_is bs at 0 (l - 1) 5 w.source p a (omega arith) g.0,
              field_is bs p 0 (l - 1) 5 w.target q b (omega arith) g.1,
              field_is bs q 0 (2 ^ n - 1) 5 w.reset o c (omega arith) g.2,
            )
            (ap (λ (i : ℕ). going i (with_ends m e w.source w.target w.reset)) (reads_end u));
        back = λ s h.
            let (z, u) = unless_back s _ h in
            let a = step_taken s s.at 0 (l - 1) 5 _ (omega arith) (refusal_along u h) in
            let b = step_taken s a.to 0 (l - 1) 5 _ (omega arith) (refusal_along (u ∙ a.is) h) in
            let c = step_taken s b.to 0 (2 ^ n - 1) 5 _ (omega arith) (refusal_along (u ∙ a.is ∙ b.is) h) in
            record {
              before = z;
              what = record { source = a.value; target = b.value; reset = c.value };
              to = c.to;
              fine = (a.most, b.most, c.most);
              reads = more a.reads (more b.reads (more c.reads none));
              is = u ∙ a.is ∙ b.is ∙ c.is;
            };
      }

  guard_reader : (c e x : ℕ) → Reader Guard (λ w. w.low ∷ w.high ∷ []) (λ w. (w.low ≤ w.high) × (w.high ≤ c))
      (λ w m. with_guard m (slot e x) w.low w.high) (guard_at bs c e x)
  unfolding guard_at
  guard_reader c e x =
      record {
        on = λ w g at to m r.
            let (p, a, s) = reads_first r in
            let (q, b, t) = reads_first s in
            let h : w.low ≤ c = omega (arith, g.0, g.1) in
            simp (field_is bs at 0 c 5 w.low p a (omega arith) h, field_is bs p w.low c 5 w.high q b g.0 g.1)
            (ap (λ (i : ℕ). going i (with_guard m (slot e x) w.low w.high)) (reads_end t));
        back = λ s h.
            let (z, u) = unless_back s _ h in
            let a = step_taken s s.at 0 c 5 _ (omega arith) (refusal_along u h) in
            let b = step_taken s a.to a.value c 5 _ (omega arith) (refusal_along (u ∙ a.is) h) in
            record {
              before = z;
              what = record { low = a.value; high = b.value };
              to = b.to;
              fine = (b.least, b.most);
              reads = more a.reads (more b.reads none);
              is = u ∙ a.is ∙ b.is;
            };
      }

  -- ---- all locations, then all edges

  pub body_reader : (n c l e : ℕ)
      → Reader ((ℕ → ℕ × (ℕ → ℕ)) × (ℕ → Ends × (ℕ → Guard)))
      (λ w. gather l (λ i. (w.0 i).0 ∷ gather n (λ x. (w.0 i).1 x ∷ []))
      ++ gather e (λ i. (w.1 i).0.source ∷ (w.1 i).0.target ∷ (w.1 i).0.reset
      ∷ gather n (λ x. ((w.1 i).1 x).low ∷ ((w.1 i).1 x).high ∷ [])))
      (λ w. ((i : ℕ) → i < l → ((w.0 i).0 ≤ 1) × ((x : ℕ) → x < n → (w.0 i).1 x ≤ c + 1))
      × ((i : ℕ) → i < e → (((w.1 i).0.source ≤ l - 1) × ((w.1 i).0.target ≤ l - 1) × ((w.1 i).0.reset ≤ 2 ^ n - 1))
      × ((x : ℕ) → x < n → (((w.1 i).1 x).low ≤ ((w.1 i).1 x).high) × (((w.1 i).1 x).high ≤ c))))
      (λ w m.
      each e (λ i y. each n (λ x z. with_guard z (slot i x) ((w.1 i).1 x).low ((w.1 i).1 x).high)
      (with_ends y i (w.1 i).0.source (w.1 i).0.target (w.1 i).0.reset))
      (each l (λ i y. each n (λ x z. with_invariant z (slot i x) ((w.0 i).1 x)) (with_kind y i (w.0 i).0)) m))
      (λ s. each e (parse_edge bs n c l) (each l (parse_location bs n c) s))
  body_reader n c l e =
      followed
      (rounds (0, λ _. 0) _ _ _ (parse_location bs n c) (λ i.
      followed (kind_reader i) (rounds 0 _ _ _ (invariant_at bs c i) (stay_reader c i) n)) l)
      (rounds (record { source = 0; target = 0; reset = 0 }, λ _. record { low = 0; high = 0 }) _ _ _ (parse_edge bs n c l) (λ i.
      followed (ends_reader n l i) (rounds (record { low = 0; high = 0 }) _ _ _ (guard_at bs c i) (guard_reader c i) n)) e)
