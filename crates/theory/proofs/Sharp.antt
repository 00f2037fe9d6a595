-- The bound (K + 1) * e < D is sharp: at (K + 1) * e ≡ D, for every K and e from 1, a run of K jumps enters a location that no exact run enters.
-- Each wait of e/D in location 0 brings y nearer to 1 by e/D, K waits come to K * e/D, and the low of 1 gives way by the last e/D.
use mathlib.Core.Path.{◌≡◌, refl, sym, ap, subst}
use mathlib.Core.List.Memᴰ
use mathlib.Core.List.{List, [], ◌∷◌, Memᴰ}
use mathlib.Core.Logic.{◌⊎◌, inl, inr}
use mathlib.Core.Bool.{false, true≢false}
use Prim.Native.Nat.{ℕ, zero, suc, ◌+◌, ◌*◌, ◌≤◌, ◌<◌}
use native.Mathlib.Nat.{mul-le-mul_right}
use native.Mathlib.Omega.{arith}
use lib.ListN.{length}
use Rattle.theory.specs.Pointwise.{Each}
use Rattle.theory.specs.Automaton.{Automaton, Edge, Upto, AtLeast, reset_values, Run, Exact}
use Rattle.theory.specs.Region.{Region, clock, Fits, Attains}
use Rattle.theory.specs.RegionGraph.{Flow, FlowClosed, after, origin}
use Rattle.theory.specs.Sharp.{again, leave, limits, ladder}

-- ---- no exact run leaves location 0

two_upto : {a b c d : ℕ} → Upto 1 0 1 (a ∷ b ∷ []) (c ∷ d ∷ []) → (a ≤ c) × (b ≤ d)
two_upto (Each.more h (Each.more k Each.none)) = (omega arith, omega arith)

two_least : {a b c d : ℕ} → AtLeast 1 0 1 (a ∷ b ∷ []) (c ∷ d ∷ []) → (c ≤ a) × (d ≤ b)
two_least (Each.more h (Each.more k Each.none)) = (omega arith, omega arith)

pub record AtRest (l : ℕ) (v : List ℕ) : Type 0 where
  pub place : l ≡ 0
  pub values : v ≡ 0 ∷ 0 ∷ []

leaves_rest : (d : ℕ) (g : Edge) → (g ≡ again) ⊎ (g ≡ leave) → Upto 1 0 1 ((0 + d) ∷ (0 + d) ∷ []) (limits 0)
    → AtLeast 1 0 1 ((0 + d) ∷ (0 + d) ∷ []) g.lower → AtRest g.target (reset_values g.reset ((0 + d) ∷ (0 + d) ∷ []))
leaves_rest d g (inl e) h low = let z : 0 + d ≡ 0 = omega (arith, (two_upto h).0) in rw e (record { place = refl; values = ap (λ y. 0 ∷ y ∷ []) z })
leaves_rest d g (inr e) h low = absurd (omega (arith, (two_upto h).0, (two_least (rw e at low)).1))

drawn_is : {g : Edge} → Memᴰ g (again ∷ leave ∷ []) → (g ≡ again) ⊎ (g ≡ leave)
drawn_is m = by (Memᴰ.cases_cons m)
  where
    by : {g : Edge} → (g ≡ again) ⊎ Memᴰ g (leave ∷ []) → (g ≡ again) ⊎ (g ≡ leave)
    by (inl e) = inl e
    by (inr n) = inr (Memᴰ.eq_of_singleton n)

rests : {gs : List Edge} {l t : ℕ} {v : List ℕ} → Exact ladder gs l v t → AtRest l v
rests (Run.begin h) = record { place = refl; values = refl }
rests (Run.step {l = l} {v = v} r d g o) =
    let p = rests r in
    rw p.values (leaves_rest d g (drawn_is o.drawn) (rw (p.place, p.values) at o.stays) (rw p.values at o.low))

pub exact_never : {gs : List Edge} {t : ℕ} {v : List ℕ} → Exact ladder gs 1 v t → ⊥
exact_never r = omega (arith, (rests r).place)

-- ---- a widened run does, in D-ths of a unit

module _ (e D : ℕ) where
  upto : (x c : ℕ) → x ≤ c * D + e → x * D ≤ (c * D + e) * D
  upto x c h = mul-le-mul_right D h

  least : (x c : ℕ) → c * D ≤ x + e → c * D * D ≤ x * D + e * D
  least x c h = let l : c * D * D ≤ (x + e) * D = mul-le-mul_right D h in omega arith

  two_high : (x y c d : ℕ) → x ≤ c * D + e → y ≤ d * D + e → Upto D e D (x ∷ y ∷ []) (c ∷ d ∷ [])
  two_high x y c d h k = Each.more (upto x c h) (Each.more (upto y d k) Each.none)

  two_low : (x y c d : ℕ) → c * D ≤ x + e → d * D ≤ y + e → AtLeast D e D (x ∷ y ∷ []) (c ∷ d ∷ [])
  two_low x y c d h k = Each.more (least x c h) (Each.more (least y d k) Each.none)

  -- k turns in location 0
  pub turns : (k : ℕ) → k * e ≤ D → (gs : List Edge) × (y : ℕ) × (length gs ≡ k) × (y ≡ k * e) × Run ladder D e D gs 0 (0 ∷ y ∷ []) y
  turns zero h = ([], 0, refl, omega arith, Run.begin (two_high 0 0 0 1 (omega arith) (omega arith)))
  turns (suc k) h =
      let (gs, y, n, p, r) = turns k (omega arith) in (
        again ∷ gs,
        y + e,
        ap suc n,
        omega arith,
        Run.step r e again record {
          drawn = Memᴰ.head refl;
          here = refl;
          stays = two_high (0 + e) (y + e) 0 1 (omega arith) (omega arith);
          low = two_low (0 + e) (y + e) 0 0 (omega arith) (omega arith);
          high = two_high (0 + e) (y + e) 0 1 (omega arith) (omega arith);
          enters = two_high 0 (y + e) 0 1 (omega arith) (omega arith);
        },
      )

-- At (K + 1) * e ≡ D a run of K jumps enters location 1. (A run of 01 has e from 1 on here: with e 0 both D and N would be 0.)
pub sharp : (K e D : ℕ) → 1 ≤ K → (K + 1) * e ≡ D → (gs : List Edge) × (v : List ℕ) × (t : ℕ) × (length gs ≡ K) × Run ladder D e D gs 1 v t
sharp zero e D h c = absurd (omega arith)
sharp (suc k) e D h c =
    let (gs, y, n, p, r) = turns e D k (omega arith) in (
      leave ∷ gs,
      (0 + e) ∷ (y + e) ∷ [],
      y + e,
      ap suc n,
      Run.step r e leave record {
        drawn = Memᴰ.tail (Memᴰ.head refl);
        here = refl;
        stays = two_high e D (0 + e) (y + e) 0 1 (omega arith) (omega arith);
        low = two_low e D (0 + e) (y + e) 0 1 (omega arith) (omega arith);
        high = two_high e D (0 + e) (y + e) 0 1 (omega arith) (omega arith);
        enters = two_high e D (0 + e) (y + e) 1 1 (omega arith) (omega arith);
      },
    )

-- So (K + 1) * e ≤ D is not enough, for any K and e from 1.
pub not_enough : (K e : ℕ) → 1 ≤ K → 1 ≤ e
    → ((m : Automaton) (N D : ℕ) (gs : List Edge) (l t : ℕ) (v : List ℕ) → 0 < N → (K + 1) * e ≤ D → length gs ≤ K → Run m N e D gs l v t
    → (w : List ℕ) × (u : ℕ) × Exact m gs l w u) → ⊥
not_enough K e h k f =
    let D = (K + 1) * e in
    let (gs, v, t, n, r) = sharp K e D h refl in
    exact_never (f ladder D D gs 1 t v (omega (arith, mul-le-mul_right e h)) (omega arith) (omega arith) r).2

-- Nor does a set of states that has the start, is closed under time and jump and has no forbidden location cover such a run: at (K + 1) * e ≡ D the
-- states of `ladder` that flow from its start are one, and a widened run of K jumps enters location 1.
still : {l k : ℕ} {xs ys : Region} → l ≡ 0 → xs ≡ origin ladder → Flow ladder l xs k ys → (k ≡ 0) × (ys ≡ origin ladder)
still p r (Flow.time a c) = absurd (no_wait (rw (p, r) at c.stays))
  where
    no_wait : Fits (clock 0 1 ∷ clock 0 1 ∷ []) (0 ∷ 1 ∷ []) → ⊥
    no_wait (Each.more h hs) = omega arith
still {xs = xs} p r (Flow.jump g o a c) = by (drawn_is o.drawn)
  where
    no_leave : Attains (clock 0 0 ∷ clock 0 0 ∷ []) (0 ∷ 1 ∷ []) → ⊥
    no_leave (Each.more h (Each.more k Each.none)) = omega arith

    by : (g ≡ again) ⊎ (g ≡ leave) → (g.target ≡ 0) × (after g xs ≡ origin ladder)
    by (inl e) = subst (λ (h : Edge). (h.target ≡ 0) × (after h xs ≡ origin ladder)) (sym e) (rw r (refl, refl))
    by (inr e) = absurd (no_leave (rw r at (subst (λ (h : Edge). Attains xs h.lower) e o.low)))

pub not_covered : (K e : ℕ) → 1 ≤ K → 1 ≤ e
    → ((m : Automaton) (P : ℕ → Region → Type 0) → FlowClosed m P → ((l : ℕ) (xs : Region) → P l xs → m.forbidden l ≡ false)
    → (N D : ℕ) (gs : List Edge) (l t : ℕ) (v : List ℕ) → 0 < N → (K + 1) * e ≤ D → length gs ≤ K → Run m N e D gs l v t → m.forbidden l ≡ false) → ⊥
not_covered K e h k f =
    let D = (K + 1) * e in
    let (gs, v, t, n, r) = sharp K e D h refl in
    true≢false (f ladder (λ l xs. (l ≡ 0) × (xs ≡ origin ladder)) closed (λ l xs p. rw p.0 refl) D D gs 1 t v (omega (arith, mul-le-mul_right e h)) (omega arith) (omega arith) r)
  where
    closed : FlowClosed ladder (λ l xs. (l ≡ 0) × (xs ≡ origin ladder))
    closed = record { start = (refl, refl); flow = λ l xs k ys p s. still p.0 p.1 s }
