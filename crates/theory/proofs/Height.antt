-- Laws of heights: `height` is the height of every state, no time or jump step raises it, and a step without return lowers it.
use mathlib.Core.Path.{◌≡◌, refl, sym, ◌∙◌}
use mathlib.Core.Bool.{true, false, cond, true≢false, false≢true}
use mathlib.Core.Logic.{◌↔◌, ◌⊎◌, inl, inr}
use mathlib.Core.List.{List, []}
use Prim.Native.Nat.{ℕ, zero, suc, ◌≤◌, ◌<◌, zero-le}
use native.Mathlib.Omega.{arith}
use native.Mathlib.Nat.{le_antisymm}
use Rattle.theory.specs.Below.{count, top}
use Rattle.theory.specs.Walk.{Walk, stop, move}
use Rattle.theory.specs.System.{System, Laws, Reaches, reach}
use Rattle.theory.specs.Height.{Falls, none, level, down, IsHeight, under, chain, height}
use Rattle.theory.proofs.Below.{and↔, not↔, test↔, count-le, count_mono, count_strict, top_ge, top_at, either, false_unless_true}
use Rattle.theory.proofs.System.{reach_is, is_reach, reach_or, reaches_trans, reaches_step, flow_inside}

pub height_unique : {Y : System} {p h k : ℕ} → IsHeight Y p h → IsHeight Y p k → h ≡ k
height_unique {h} {k} a b = le_antisymm (b.most h a.some) (a.most k b.some)

module _ (Y : System) (L : Laws Y) where
  -- ---- `under` and `chain`

  is_under : (p q : ℕ) → p < Y.size → Reaches Y p q → ¬ Reaches Y q p → under Y p q ≡ true
  unfolding under
  is_under p q b w n =
      (and↔ (test↔ (reach Y p q)) (not↔ (reach Y q p))).1 (is_reach Y L p q b w, false_unless_true (reach Y q p) λ e. n (reach_is Y L q p e))

  under_is : (p q : ℕ) → q < Y.size → under Y p q ≡ true → Reaches Y p q × ¬ Reaches Y q p
  unfolding under
  under_is p q b e =
      let (f, n) = (and↔ (test↔ (reach Y p q)) (not↔ (reach Y q p))).0 e in
      (reach_is Y L p q f, λ w. true≢false (sym (is_reach Y L q p b w) ∙ n))

  chain_link : (k p q : ℕ) → q < Y.size → under Y p q ≡ true → suc (chain Y k q) ≤ chain Y (suc k) p
  unfolding chain
  chain_link k p q b e =
      let h = top_ge Y.size (λ q. cond (under Y p q) (suc (chain Y k q)) zero) q b in rw e at h

  chain_last : (k p : ℕ) → (chain Y (suc k) p ≡ zero) ⊎ ((q : ℕ) × (q < Y.size) × (under Y p q ≡ true) × (chain Y (suc k) p ≡ suc (chain Y k q)))
  unfolding chain
  chain_last k p = by (top_at Y.size f)
    where
      f : ℕ → ℕ
      f q = cond (under Y p q) (suc (chain Y k q)) zero

      at : (q : ℕ) → q < Y.size → top Y.size f ≡ f q → (under Y p q ≡ true) ⊎ (under Y p q ≡ false)
          → (top Y.size f ≡ zero) ⊎ ((q : ℕ) × (q < Y.size) × (under Y p q ≡ true) × (top Y.size f ≡ suc (chain Y k q)))
      at q b e (inl u) = inr (q, b, u, rw u at e)
      at q b e (inr u) = inl (rw u at e)

      by : (top Y.size f ≡ zero) ⊎ ((q : ℕ) × (q < Y.size) × (top Y.size f ≡ f q))
          → (top Y.size f ≡ zero) ⊎ ((q : ℕ) × (q < Y.size) × (under Y p q ≡ true) × (top Y.size f ≡ suc (chain Y k q)))
      by (inl e) = inl e
      by (inr (q, b, e)) = at q b e (either (under Y p q))

  -- what lies under a state that p goes to and comes back from lies under p
  chain_level : (k p q : ℕ) → Y.flow p q ≡ true → Reaches Y q p → chain Y k q ≤ chain Y k p
  unfolding chain
  chain_level zero p q e w = zero-le
  chain_level (suc k) p q e w = by (chain_last k q)
    where
      by : (chain Y (suc k) q ≡ zero) ⊎ ((x : ℕ) × (x < Y.size) × (under Y q x ≡ true) × (chain Y (suc k) q ≡ suc (chain Y k x)))
          → chain Y (suc k) q ≤ chain Y (suc k) p
      by (inl c) = rw c zero-le
      by (inr (x, b, u, c)) =
          let h = under_is q x b u in
          let pq = reaches_step Y L p q e in
          let v = is_under p x (flow_inside Y L p q e).0 (reaches_trans Y L p q x pq h.0) (λ back. h.1 (reaches_trans Y L x p q back pq)) in
          rw c (chain_link k p x b v)

  -- no walk falls more often
  chain_most : {p d : ℕ} → Falls Y p d → (k : ℕ) → d ≤ k → d ≤ chain Y k p
  chain_most none k h = zero-le
  chain_most (level {p = p} {q = q} e w f) k h = omega (arith, chain_most f k h, chain_level k p q e w)
  chain_most (down e n f) zero h = absurd (omega arith)
  chain_most (down {p = p} {q = q} e n f) (suc k) h =
      let b = flow_inside Y L p q e in
      omega (arith, chain_most f k (omega arith), chain_link k p q b.1 (is_under p q b.0 (reaches_step Y L p q e) n))

  -- the states that p reaches grow fewer with each fall
  step_fewer : (p q : ℕ) → Y.flow p q ≡ true → (x : ℕ) → x < Y.size → reach Y q x ≡ true → reach Y p x ≡ true
  step_fewer p q e x b h = is_reach Y L p x (flow_inside Y L p q e).0 (reaches_trans Y L p q x (reaches_step Y L p q e) (reach_is Y L q x h))

  falls_fewer : {p d : ℕ} → Falls Y p d → p < Y.size → d < count Y.size (reach Y p)
  falls_fewer (none {p = p}) b =
      omega (arith, count_strict Y.size (λ _. false) (reach Y p) (λ _ _ e. absurd (false≢true e)) p b refl (is_reach Y L p p b ([], stop)))
  falls_fewer (level {p = p} {q = q} e w f) b =
      omega (arith, falls_fewer f (flow_inside Y L p q e).1, count_mono Y.size (reach Y q) (reach Y p) (step_fewer p q e))
  falls_fewer (down {p = p} {q = q} e n f) b =
      let lost = false_unless_true (reach Y q p) λ t. n (reach_is Y L q p t) in
      omega (
        arith,
        falls_fewer f (flow_inside Y L p q e).1,
        count_strict Y.size (reach Y q) (reach Y p) (step_fewer p q e) p b lost (is_reach Y L p p b ([], stop)),
      )

  -- a walk up to a falling one falls as often or more
  falls_behind : {p q : ℕ} {l : List ℕ} {d : ℕ} → Walk Y.flow p q l → Falls Y q d → (c : ℕ) × (d ≤ c) × Falls Y p c
  falls_behind {d = d} stop f = (d, omega arith, f)
  falls_behind {d = d} (move {p = p} {q = q} e w) f = by (reach_or Y L q p (flow_inside Y L p q e).1) (falls_behind w f)
    where
      by : Reaches Y q p ⊎ (¬ Reaches Y q p) → (c : ℕ) × (d ≤ c) × Falls Y q c → (c : ℕ) × (d ≤ c) × Falls Y p c
      by (inl v) (c, h, g) = (c, h, level e v g)
      by (inr v) (c, h, g) = (suc c, omega arith, down e v g)

  -- and more often, if it cannot be walked back
  falls_above : {p q : ℕ} {l : List ℕ} {d : ℕ} → Walk Y.flow p q l → ¬ Reaches Y q p → Falls Y q d → (c : ℕ) × (d < c) × Falls Y p c
  falls_above stop n f = absurd (n ([], stop))
  falls_above {q = s} {d = d} (move {p = p} {q = q} e w) n f = by (λ m. falls_above w m f) (reach_or Y L q p (flow_inside Y L p q e).1)
    where
      by : (¬ Reaches Y s q → (c : ℕ) × (d < c) × Falls Y q c) → Reaches Y q p ⊎ (¬ Reaches Y q p) → (c : ℕ) × (d < c) × Falls Y p c
      by ih (inl v) = let t = ih (λ back. n (reaches_trans Y L s q p back v)) in (t.0, t.1, level e v t.2)
      by ih (inr v) = let t = falls_behind w f in (suc t.0, omega arith, down e v t.2)

  -- some walk falls as often
  chain_falls : (k p : ℕ) → (d : ℕ) × (chain Y k p ≤ d) × Falls Y p d
  unfolding chain
  chain_falls zero p = (zero, zero-le, none)
  chain_falls (suc k) p = by (λ q. chain_falls k q) (chain_last k p)
    where
      by : ((q : ℕ) → (d : ℕ) × (chain Y k q ≤ d) × Falls Y q d)
          → (chain Y (suc k) p ≡ zero) ⊎ ((q : ℕ) × (q < Y.size) × (under Y p q ≡ true) × (chain Y (suc k) p ≡ suc (chain Y k q)))
          → (d : ℕ) × (chain Y (suc k) p ≤ d) × Falls Y p d
      by ih (inl e) = (zero, rw e zero-le, none)
      by ih (inr (q, b, u, e)) =
          let h = under_is p q b u in
          let t = ih q in
          let a = falls_above h.0.1 h.1 t.2 in
          (a.0, rw e (omega arith), a.2)

  -- ---- `height`

  height_most : (p d : ℕ) → p < Y.size → Falls Y p d → d ≤ height Y p
  unfolding height
  height_most p d b f = chain_most f Y.size (omega (arith, falls_fewer f b, count-le Y.size (reach Y p)))

  height_some : (p : ℕ) → p < Y.size → Falls Y p (height Y p)
  unfolding height
  height_some p b =
      let t = chain_falls Y.size p in
      let e : t.0 ≡ height Y p = le_antisymm (height_most p t.0 b t.2) t.1 in
      rw e at t.2

  pub height_law : (p : ℕ) → p < Y.size → IsHeight Y p (height Y p)
  height_law p b = record { some = height_some p b; most = λ d f. height_most p d b f }

  pub height_below : (p : ℕ) → p < Y.size → height Y p < Y.size
  height_below p b = omega (arith, falls_fewer (height_some p b) b, count-le Y.size (reach Y p))

  -- no step raises it
  pub height_no_rise : (p q : ℕ) → Y.flow p q ≡ true → height Y q ≤ height Y p
  height_no_rise p q e = by (reach_or Y L q p b.1)
    where
      b : (p < Y.size) × (q < Y.size)
      b = flow_inside Y L p q e

      by : Reaches Y q p ⊎ (¬ Reaches Y q p) → height Y q ≤ height Y p
      by (inl w) = height_most p (height Y q) b.0 (level e w (height_some q b.1))
      by (inr n) = omega (arith, height_most p (suc (height Y q)) b.0 (down e n (height_some q b.1)))

  -- a step without return lowers it
  pub height_lower : (p q : ℕ) → Y.flow p q ≡ true → ¬ Reaches Y q p → height Y q < height Y p
  height_lower p q e n = let b = flow_inside Y L p q e in height_most p (suc (height Y q)) b.0 (down e n (height_some q b.1))

  -- a state that is not allowed has height 0
  falls_out : {p d : ℕ} → Falls Y p d → Y.allowed p ≡ false → d ≡ zero
  falls_out none n = refl
  falls_out (level {p = p} {q = q} e w f) n = absurd (true≢false (sym (L.flow_joins p q e).0 ∙ n))
  falls_out (down {p = p} {q = q} e w f) n = absurd (true≢false (sym (L.flow_joins p q e).0 ∙ n))

  pub height_out : (p : ℕ) → Y.allowed p ≡ false → height Y p ≡ zero
  unfolding height
  height_out p n = let t = chain_falls Y.size p in omega (arith, t.1, falls_out t.2 n)

  -- ---- what shows that numbers found in any way are the heights

  falls_le : (h : ℕ → ℕ)
      → ((p q : ℕ) → Y.flow p q ≡ true → h q ≤ h p)
      → ((p q : ℕ) → Y.flow p q ≡ true → ¬ Reaches Y q p → h q < h p)
      → {p d : ℕ} → Falls Y p d → d ≤ h p
  falls_le h a b none = zero-le
  falls_le h a b (level {p = p} {q = q} e w f) = omega (arith, falls_le h a b f, a p q e)
  falls_le h a b (down {p = p} {q = q} e n f) = omega (arith, falls_le h a b f, b p q e n)

  pub height_only : (h : ℕ → ℕ)
      → ((p q : ℕ) → Y.flow p q ≡ true → h q ≤ h p)
      → ((p q : ℕ) → Y.flow p q ≡ true → ¬ Reaches Y q p → h q < h p)
      → ((p : ℕ) → p < Y.size → Falls Y p (h p))
      → (p : ℕ) → p < Y.size → h p ≡ height Y p
  height_only h a b f p l = le_antisymm (height_most p (h p) l (f p l)) (falls_le h a b (height_some p l))

  -- a name for each set of states that reach one another tells the steps that can be returned from
  pub comp_back : (comp : ℕ → ℕ)
      → ((p q : ℕ) → p < Y.size → q < Y.size → comp p ≡ comp q → Reaches Y p q)
      → ((p q : ℕ) → Reaches Y p q → Reaches Y q p → comp p ≡ comp q)
      → (p q : ℕ) → Y.flow p q ≡ true → (comp q ≡ comp p) ↔ Reaches Y q p
  comp_back comp a b p q e = let l = flow_inside Y L p q e in (a q p l.1 l.0, λ w. b q p w (reaches_step Y L p q e))
